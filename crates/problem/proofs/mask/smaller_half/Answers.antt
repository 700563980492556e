-- `mask::smaller_half` meets its contract.
use Rattle.problem.specs.Masks.{smaller_half_of, smallest_of}
use Prim.Native.Nat.{ℕ, ◌+◌, ◌/◌}
use mathlib.Core.Path.{◌∙◌, ap}
use Rattle.problem.proofs.mask.smaller_half.Goals as goal

pub returns : goal.returns
unfolding smaller_half_of
returns c = c.smallest_of.ensures ∙ ap (λ (x : ℕ). smallest_of 16 ((x + 1) / 2) c.args.mask) c.count.ensures
