-- `console::calls::load` meets its contract.
use mathlib.Core.Bool.{not}
use mathlib.Core.Path.{refl, ap}
use Prim.Native.Nat.{ℕ, ◌<◌}
use native.Mathlib.Omega.{arith}
use lib.ListN.{get_or}
use Rattle.console.proofs.rooms.Testing.{room_true, room_whole, room_false}
use Rattle.console.proofs.calls.Lending.{said_last, loads_words}
use Rattle.console.proofs.calls.Refusing.{loads_turned, loads_refused}
use Rattle.console.proofs.calls.load.Goals as goal

pub returns-then-not-room_for : goal.returns-then-not-room_for
returns-then-not-room_for c =
    let domains : (i : ℕ) → get_or c.args.domains.now i 0 < 256 = λ i. omega (arith, c.type_inv.domains i) in
    let tables : (i : ℕ) → get_or c.args.tables.now i 0 < 256 = λ i. omega (arith, c.type_inv.tables i) in
    let agenda : (i : ℕ) → get_or c.args.agenda.now i 0 < 256 = λ i. omega (arith, c.type_inv.agenda i) in
    loads_refused (λ w. room_false _ _ _ _ _ c.room_for.ensures (ap not c.if-not-room_for.true) w (λ f. f)) domains tables agenda c.load_none.ensures

pub returns : goal.returns
returns c =
    let agenda_back = c in
    let tables-back = agenda_back in
    let domains-back = tables-back in
    let called = domains-back in
    let made = called in
    let test = made in
    let last = called.load-loaded.new in
    let kept = called.load-loaded.auto in
    let room = room_true _ _ _ _ test.room_for.ensures (ap not test.if-not-room_for.false) in
    let three = made.three_of-made.ensures in
    let (domains, agenda, tables) = said_last room refl refl refl three in
    loads_turned (room_whole room)
    (loads_words last.domains last.tables last.agenda domains tables agenda three.of_first.lent three.of_third.lent three.of_second.lent kept.domains
    kept.tables kept.agenda called.load-loaded.ensures (room_whole room) domains-back.bytes_of.ensures tables-back.bytes_of-2.ensures
    agenda_back.bytes_of-3.ensures)
