-- `mask::smallest_of` meets its contract.
use native.Mathlib.Nat.{lt_of_lt_of_le}
use Rattle.problem.proofs.mask.Halves.{turn_lt, turn_kept}
use Rattle.problem.proofs.mask.Masks.{only_is}
use Rattle.problem.specs.Masks.{smallest_of}
use mathlib.Core.Path.{refl}
use Rattle.problem.proofs.mask.smallest_of.Goals as goal

pub loop-i-init : goal.loop-i-init
unfolding smallest_of
loop-i-init c = refl

pub loop-i-preserved : goal.loop-i-preserved
loop-i-preserved c =
    let b = c in
    let more = lt_of_lt_of_le c.loop-i-test.true b.requires in
    let next = turn_lt 16 _ _ b.ranges.mask.fits more _ _ c.loop-i.invariant c.lowest.ensures in
    turn_kept 16 _ _ b.ranges.mask.fits more _ _ _ c.loop-i.invariant c.lowest.ensures (only_is _ _ next c.only-half.ensures)
