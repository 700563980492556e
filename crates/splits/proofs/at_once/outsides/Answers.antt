-- `at_once::outsides` meets its contract. The invariant: the first i are done.
use mathlib.Core.Path.{refl}
use Rattle.problem.specs.Lists.{changed}
use Rattle.splits.specs.AtOnce.{outside_to}
use Rattle.splits.proofs.at_once.Turns.{outside_more}
use Rattle.splits.proofs.at_once.outsides.Goals as goal

pub loop-i-init : goal.loop-i-init
unfolding outside_to changed
loop-i-init c = refl

pub loop-i-preserved : goal.loop-i-preserved
loop-i-preserved c = outside_more _ _ _ _ _ c.loop-i.invariant c.outside.ensures
