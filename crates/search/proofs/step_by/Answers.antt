-- `search::step_by` meets its contract.
use mathlib.Core.Path.{ap}
use mathlib.Core.Bool.{not}
use Rattle.search.proofs.Running.{gone_on, used_slot, ready_used, finished_empty, finished_is, stays, taking}
use Rattle.search.proofs.step_by.Goals as goal

pub read_slot-top-requires : goal.read_slot-top-requires
read_slot-top-requires c =
    used_slot _ _ _
    (ready_used _ _ c.args.tables.now _ _ c.requires.0)
    c.if-subproblems-ne0.true

pub take-requires : goal.take-requires
take-requires c =
    let k = c.requires in (
      taking _ _ _ _ _ k.0 _ _ c.if-subproblems-ne0.true c.read_slot-top.ensures
          c.all_instantiated.ensures (ap not c.if-not-all_instantiated.true),
      k.1,
    )

pub returns-then-not-all_instantiated : goal.returns-then-not-all_instantiated
returns-then-not-all_instantiated c = rw (c.go_on.ensures, gone_on _ c.take.result) c.take.ensures

pub returns-else-not-all_instantiated : goal.returns-else-not-all_instantiated
returns-else-not-all_instantiated c =
    stays _ _ _ _ _ c.requires.0 _
    (finished_is _ _ _ c.if-subproblems-ne0.true _ c.read_slot-top.ensures _
    c.all_instantiated.ensures (ap not c.if-not-all_instantiated.false))

pub returns-else-subproblems-ne0 : goal.returns-else-subproblems-ne0
returns-else-subproblems-ne0 c = stays _ _ _ _ _ c.requires.0 _ (finished_empty _ _ _ c.if-subproblems-ne0.false)
