-- `Around::values_in_others` meets its contract.
use mathlib.Core.Path.{refl, ◌∙◌}
use native.Mathlib.Omega.{arith}
use lib.Count.{ones-le}
use Rattle.problem.specs.Lists.{total}
use Rattle.splits.specs.Checks.{values_in}
use Rattle.splits.proofs.checks.Counting.{values_more, values_same}
use Rattle.splits.proofs.around.Around.values_in_others.Goals.{then-i-self, else-i-self}
use Rattle.splits.proofs.around.Around.values_in_others.Goals as goal

pub loop-i-init : goal.loop-i-init
unfolding values_in total
loop-i-init c = (refl, omega arith)

pub loop-i-preserved : goal.loop-i-preserved
loop-i-preserved c = elim c.if-i-self.branch [
  | then-i-self w ↦ (
    w.sum-is ∙ values_more _ _ _ _ c.loop-i.invariant.0 _ _ w.if-i-self.true w.domain.ensures w.count-sum.ensures,
    omega (arith, w.count-sum.ensures, ones-le 16 _ w.domain.type_inv),
  )
  | else-i-self w ↦ (w.sum-is ∙ values_same _ _ _ _ c.loop-i.invariant.0 w.if-i-self.false, omega (arith, w.sum-is))
]
