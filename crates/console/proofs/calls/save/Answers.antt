-- `console::calls::save` meets its contract.
use mathlib.Core.Bool.{not}
use mathlib.Core.Path.{refl, ap}
use native.Mathlib.Omega.{arith}
use Prim.Native.Nat.{ℕ}
use Rattle.files.specs.Outcomes.{Saved}
use Rattle.console.proofs.rooms.Testing.{room_true, room_whole, room_false}
use Rattle.console.proofs.calls.Lending.{said_last, saves_words}
use Rattle.console.proofs.calls.Refusing.{saves_turned, saves_refused}
use Rattle.console.proofs.calls.save.Goals as goal

pub returns-then-not-room_for : goal.returns-then-not-room_for
returns-then-not-room_for c = saves_refused (λ w. room_false _ _ _ _ _ c.room_for.ensures (ap not c.if-not-room_for.true) w (λ f. f))
    (ap {B = Saved} (λ (k : ℕ). record { refusal = k; blocks = 0 }) c.unwhole.ensures)

pub returns : goal.returns
returns c =
    let made = c in
    let test = made in
    let room = room_true _ _ _ _ test.room_for.ensures (ap not test.if-not-room_for.false) in
    let (domains, agenda, tables) = said_last room refl refl refl made.three_of-made.ensures in
    saves_turned (room_whole room)
    (saves_words _ _ _ _ _ _ domains tables agenda (λ i. omega (arith, test.type_inv.agenda i)) c.save.ensures)
