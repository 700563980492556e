-- `first_checks::bits_of` meets its contract: the loop's invariant: the bits of the words passed are together.
use mathlib.Core.Path.{refl}
use Rattle.problem.specs.Lists.{row_in}
use Rattle.problem.proofs.first_checks.Joining.{joined_none, joined_more}
use Rattle.problem.proofs.first_checks.bits_of.Goals as goal

pub loop-word-init : goal.loop-word-init
loop-word-init c = joined_none _

pub loop-word-preserved : goal.loop-word-preserved
unfolding row_in
loop-word-preserved c = joined_more _ _ _ _ c.loop-word.invariant refl
