-- `at_once::filled` meets its contract. The invariant: the sum is of the first so many.
use Rattle.std.proofs.Common.{arith, refl}
use Rattle.std.proofs.lemmas.Bool.Decides.{nat_tests}
use Rattle.problem.specs.Lists.{total}
use Rattle.splits.specs.AtOnce.{filled}
use Rattle.problem.proofs.Products.{total_turn}
use Rattle.splits.proofs.at_once.filled.Goals as goal

pub loop-mask-init : goal.loop-mask-init
unfolding filled total
loop-mask-init c = (omega arith, refl)

pub loop-mask-preserved : goal.loop-mask-preserved
unfolding filled
loop-mask-preserved c = (grind (arith, nat_tests), total_turn _ _ _ _ c.loop-mask.invariant.1 (grind (arith, nat_tests)))
