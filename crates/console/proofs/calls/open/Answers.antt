-- `console::calls::open` meets its contract.
use mathlib.Core.Bool.{not}
use mathlib.Core.Path.{refl, ap}
use native.Mathlib.Omega.{arith}
use Prim.Native.Nat.{ℕ}
use Rattle.search.specs.Outcomes.{fresh, Opened}
use Rattle.console.proofs.rooms.Testing.{room_true, room_whole, room_false}
use Rattle.console.proofs.calls.Lending.{said_last, opens_words}
use Rattle.console.proofs.calls.Refusing.{opens_turned, opens_refused}
use Rattle.console.proofs.calls.open.Goals as goal

pub returns-then-not-room_for : goal.returns-then-not-room_for
returns-then-not-room_for c =
    opens_refused (λ w. room_false _ _ _ _ _ c.room_for.ensures (ap not c.if-not-room_for.true) w (λ f. f))
    (λ i. omega (arith, c.type_inv.agenda i))
    (ap {B = Opened} (λ (k : ℕ). record { refusal = k; state = fresh 0 }) c.unwhole.ensures)

pub returns : goal.returns
returns c =
    let called = c in
    let made = called in
    let test = made in
    let room = room_true _ _ _ _ test.room_for.ensures (ap not test.if-not-room_for.false) in
    let (domains, agenda, tables) = said_last room refl refl refl made.three_of-made.ensures in
    opens_turned (room_whole room)
    (opens_words called.open-opened.new.agenda domains tables agenda made.three_of-made.ensures.of_second.lent called.open-opened.auto.agenda
    room.of_agenda.even c.bytes_of.ensures called.open-opened.ensures)
