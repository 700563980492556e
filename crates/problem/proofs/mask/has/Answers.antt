-- `mask::has` meets its contract.
use Rattle.problem.proofs.mask.Masks.{bit_above}
use Rattle.problem.specs.Masks.{bit}
use mathlib.Core.Path.{refl}
use borrow.Author.Tests.{le-ltb}
use Rattle.problem.proofs.mask.has.Goals as goal

pub returns-then-value-lt16 : goal.returns-then-value-lt16
unfolding bit
returns-then-value-lt16 c = refl

pub returns-else-value-lt16 : goal.returns-else-value-lt16
returns-else-value-lt16 c =
    simp (bit_above 16 c.args.mask c.args.value c.ranges.mask.fits c.if-value-lt16.false, le-ltb _ _ c.if-value-lt16.false)
