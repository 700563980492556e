-- `search::verdict` meets its contract.
use Rattle.search.proofs.Running.{verdict_empty, verdict_solved, verdict_running}
use Rattle.search.proofs.verdict.Goals as goal

pub returns-then-subproblems-eq0 : goal.returns-then-subproblems-eq0
returns-then-subproblems-eq0 c = verdict_empty _ _ _ c.if-subproblems-eq0.true

pub returns-then-all_instantiated : goal.returns-then-all_instantiated
returns-then-all_instantiated c =
    verdict_solved _ _ _ c.if-subproblems-eq0.false _ c.read_slot-top.ensures _ c.all_instantiated.ensures
    c.if-all_instantiated.true

pub returns : goal.returns
returns c =
    verdict_running _ _ _ c.if-subproblems-eq0.false _ c.read_slot-top.ensures _ c.all_instantiated.ensures
    c.if-all_instantiated.false
