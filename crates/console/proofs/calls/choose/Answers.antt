-- `console::calls::choose` meets its contract.
use mathlib.Core.Bool.{not}
use mathlib.Core.Path.{refl, ap}
use native.Mathlib.Omega.{arith}
use Rattle.console.proofs.rooms.Testing.{room_true, room_whole, room_false}
use Rattle.console.proofs.calls.Lending.{said_last, chooses_words, choose_fits}
use Rattle.console.proofs.calls.Refusing.{chooses_turned, chooses_long}
use Rattle.console.proofs.calls.choose.Goals as goal

pub returns-then-not-room_for : goal.returns-then-not-room_for
returns-then-not-room_for c =
    chooses_long c.requires (λ i. omega (arith, c.type_inv.agenda i)) c.refused.ensures
    (λ w. room_false _ _ _ _ _ c.room_for.ensures (ap not c.if-not-room_for.true) w (λ f. f))

pub returns : goal.returns
returns c =
    let called = c in
    let made = called in
    let test = made in
    let room = room_true _ _ _ _ test.room_for.ensures (ap not test.if-not-room_for.false) in
    let (domains, agenda, tables) = said_last room refl refl refl made.three_of-made.ensures in
    let known = test in
    let start = known in
    let chosen = chooses_words called.choose-ran.new.agenda domains tables agenda made.three_of-made.ensures.of_second.lent
    called.choose-ran.auto.agenda room.of_agenda.even c.bytes_of.ensures called.choose-ran.ensures in (
      chooses_turned (room_whole room) chosen,
      choose_fits (λ i. omega (arith, known.slice_known-1.given i)) (omega (arith, start.well_formed.1.1.1.1.1.1.0)) start.requires chosen,
    )
