-- `search::step_chosen` meets its contract.
use mathlib.Core.Bool.{not}
use mathlib.Core.Path.{refl, ap}
use Rattle.search.proofs.Running.{gone_on, used_slot, ready_used, finished_empty, finished_is, stays_chosen, taking, chosen_stops}
use Rattle.search.proofs.step_chosen.Goals as goal

pub read_lanes-top-requires : goal.read_lanes-top-requires
read_lanes-top-requires c =
    let k = rw (← c.kept.view_is) at c.requires in
    (used_slot _ _ _ (ready_used _ _ _ _ _ k.0) c.if-subproblems-ne0.true, k.1)

pub all_instantiated-requires : goal.all_instantiated-requires
all_instantiated-requires c = tt

pub take_chosen-requires : goal.take_chosen-requires
take_chosen-requires c =
    let k = rw (← c.kept.view_is) at c.requires in
    rw (← c.kept.view_is)
    (taking _ _ _ _ _ k.0 _ _
    c.if-subproblems-ne0.true c.read_lanes-top.ensures
    c.all_instantiated.ensures (ap not c.if-not-all_instantiated.true))

pub returns-then-not-all_instantiated : goal.returns-then-not-all_instantiated
returns-then-not-all_instantiated c =
    let k = rw (← c.kept.view_is) at c.requires in (
      rw (c.go_on.ensures, gone_on _ c.take_chosen.result, ← c.kept.view_is)
          (chosen_stops _ _ _ _ _ k.0 _ c.if-subproblems-ne0.true c.read_lanes-top.ensures _ _ _ refl (rw (← c.kept.view_is) at c.take_chosen.ensures.0)),
      c.take_chosen.ensures.1,
    )

pub returns-else-not-all_instantiated : goal.returns-else-not-all_instantiated
returns-else-not-all_instantiated c =
    let k = rw (← c.kept.view_is) at c.requires in (
      rw (← c.kept.view_is)
          (stays_chosen _ _ _ _ _ k.0
          (finished_is _ _ _ c.if-subproblems-ne0.true _ c.read_lanes-top.ensures _
          c.all_instantiated.ensures (ap not c.if-not-all_instantiated.false))),
      refl,
    )

pub returns-else-subproblems-ne0 : goal.returns-else-subproblems-ne0
returns-else-subproblems-ne0 c = (
  stays_chosen _ _ _ _ _ c.requires.0 (finished_empty _ _ _ c.if-subproblems-ne0.false),
  refl,
)
