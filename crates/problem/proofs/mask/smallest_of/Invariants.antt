-- `mask::smallest_of` meets its contract.
use Rattle.problem.specs.Masks.{smallest_of}
use mathlib.Core.Path.{◌≡◌}
use Rattle.problem.proofs.mask.smallest_of.Given as goal

abbrev pub invariant-loop-i : goal.invariant-loop-i
invariant-loop-i l = l.half ≡ smallest_of 16 l.i l.mask
