-- `subproblem::Subproblem::at_targets` meets its contract.
use mathlib.Core.Path.{refl}
use Rattle.problem.specs.Lists.{changed}
use Rattle.splits.specs.Splits.{at_targets}
use Rattle.splits.proofs.subproblem.Subproblems.{target_next}
use Rattle.splits.proofs.subproblem.Subproblem.at_targets.Goals as goal

pub loop-i-init : goal.loop-i-init
unfolding at_targets changed
loop-i-init c = refl

pub loop-i-preserved : goal.loop-i-preserved
loop-i-preserved c = target_next _ _ _ _ _ c.loop-i.invariant c.target.ensures
