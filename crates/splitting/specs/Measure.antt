-- What an accepted request brings down: the measure of a subproblem, and its sum over the pieces.
use Rattle.std.specs.Prelude.{ℕ, ◌+◌, ◌-◌, ◌*◌}
use Rattle.problem.specs.Masks.{bit}
use Rattle.problem.specs.Lists.{total}
use Rattle.splits.specs.Subproblems.{size_of}
use Rattle.splits.specs.declared.subproblem.Subproblem.{Subproblem}

-- How many of the n variables are not instantiated.
unfoldable pub unmarked : ℕ → Subproblem → ℕ
unmarked n P = total n (λ i. 1 - bit P.marked i)

-- The measure: size × (variables not instantiated + 1) − 1.
unfoldable pub measure : ℕ → Subproblem → ℕ
measure n P = size_of n P * (unmarked n P + 1) - 1
