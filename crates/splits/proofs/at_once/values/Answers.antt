-- `at_once::values` meets its contract. The invariant: the sum is that of the first so many, at most 16 each.
use mathlib.Core.Path.{refl}
use native.Mathlib.Omega.{arith}
use Rattle.problem.specs.Lists.{total}
use Rattle.problem.proofs.Products.{total_turn}
use Rattle.splits.proofs.at_once.values.Goals as goal

pub loop-domain-init : goal.loop-domain-init
unfolding total
loop-domain-init c = (refl, omega arith)

pub loop-domain-preserved : goal.loop-domain-preserved
loop-domain-preserved c = (total_turn _ _ _ _ c.loop-domain.invariant.0 c.count-sum.ensures.0, omega arith)
