-- `console::calls::run` meets its contract.
use mathlib.Core.Bool.{not}
use mathlib.Core.Path.{ap}
use native.Mathlib.Omega.{arith}
use Rattle.console.proofs.rooms.Testing.{room_then, room_false, whole_then, listed_then, listed_even}
use Rattle.console.proofs.fronts.Measuring.{front_fits, front_room, front_whole_problem}
use Rattle.console.proofs.calls.Refusing.{runs_long, runs_turned, runs_cut}
use Rattle.console.proofs.calls.Lending.{front_runs}
use Rattle.console.proofs.calls.run.Goals as goal

pub returns-then-not-whole_list : goal.returns-then-not-whole_list
returns-then-not-whole_list c =
    runs_cut c.requires (λ i. omega (arith, c.type_inv.agenda i)) c.refused.ensures _ c.whole_list.ensures (ap not c.if-not-whole_list.true)

pub front_of-front-requires : goal.front_of-front-requires
front_of-front-requires c =
    ((listed_then _ _ _ c.whole_list.ensures (ap not c.if-not-whole_list.false)).few, c.requires)

pub returns-then-not-room_for : goal.returns-then-not-room_for
returns-then-not-room_for c =
    runs_long c.requires (λ i. omega (arith, c.slice_known-1.given i)) c.refused-then-not-room_for.ensures
    (λ w. room_false _ _ _ _ _ c.room_for.ensures (ap not c.if-not-room_for.true) w (front_fits c.front_of-front.ensures))

pub run_words-requires : goal.run_words-requires
run_words-requires c = (
  front_room c.front_of-front.ensures (room_then _ c.room_for.ensures (ap not c.if-not-room_for.false)),
  (whole_then _ _ _ c.whole_list.ensures (ap not c.if-not-whole_list.false), c.requires),
)

pub returns : goal.returns
returns c =
    let ran = c in
    let test = ran in
    let front = test.front_of-front.ensures in
    let listed = listed_then _ _ _ test.whole_list.ensures (ap not test.if-not-whole_list.false) in
    let fits = room_then _ test.room_for.ensures (ap not test.if-not-room_for.false) in (
      runs_turned (front_whole_problem front fits) (listed_even _ _ listed)
          (front_runs front listed ran.run_words.auto.agenda ran.run_words.ensures.0),
      ran.run_words.ensures.1,
    )
