-- `at_once::loses` meets its contract. The invariant: the marks joined are not 0 where one of the first i is lost.
use mathlib.Core.Path.{◌≡◌, refl}
use native.Mathlib.Omega.{arith}
use Rattle.problem.specs.Lists.{some}
use Rattle.splits.specs.AtOnce.{loses}
use Rattle.splits.proofs.at_once.Turns.{some_turn}
use Rattle.splits.proofs.at_once.loses.Goals as goal

pub loop-i-init : goal.loop-i-init
unfolding some
loop-i-init c = refl

pub loop-i-preserved : goal.loop-i-preserved
loop-i-preserved c = some_turn _ c.loop-i.i c.loop-i.lost _ c.loop-i.invariant c.loss-lost.ensures

pub returns : goal.returns
unfolding loses
returns c = let end : c.loop-i.i ≡ 32 = omega arith in rw (← end) c.loop-i.invariant
