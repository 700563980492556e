-- `subproblem::Subproblem::cut_before` meets its contract.
use mathlib.Core.Path.{◌∙◌}
use Rattle.splits.proofs.subproblem.Rows.{before_none, before_next, before_skip}
use Rattle.splits.proofs.subproblem.Subproblem.cut_before.Goals.{then-i-variable, else-i-variable}
use Rattle.splits.proofs.subproblem.Subproblem.cut_before.Goals as goal

pub loop-i-init : goal.loop-i-init
loop-i-init c = before_none _ _ _

pub loop-i-preserved : goal.loop-i-preserved
loop-i-preserved c = elim c.if-i-variable.branch [
  | then-i-variable w ↦ w.self-is ∙ before_next _ _ _ _ _ c.loop-i.invariant w.if-i-variable.true
  | else-i-variable w ↦ w.self-is ∙ before_skip _ _ _ _ _ c.loop-i.invariant w.if-i-variable.false
]
