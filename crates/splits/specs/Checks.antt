-- The constraint checks that a request counts, over a set of counted variables.
use Rattle.std.specs.Prelude.{Bool, not, cond, ◌&&◌, List, [], ◌∷◌, ℕ, suc, eqb}
use Rattle.problem.specs.Masks.{bit, size}
use Rattle.problem.specs.Problem.{Table}
use Rattle.problem.specs.Lists.{total, below, keep}
use Rattle.splits.specs.Subproblems.{domain}
use Rattle.splits.specs.Requests.{kind_of, variable_of, value_of}
use Rattle.splits.specs.Splits.{forbids, by_kind}
use Rattle.splits.specs.declared.subproblem.Subproblem.{Subproblem}

-- How many of a list are looked at up to and with the first that passes, or all.
unfoldable pub looked_at : (ℕ → Bool) → List ℕ → ℕ
looked_at f [] = 0
looked_at f (i ∷ is) = suc (cond (f i) 0 (looked_at f is))

-- Every variable but V is counted.
unfoldable pub others : ℕ → ℕ → Bool
others V' i = not (eqb i V')

-- Kind 1: of the counted variables that are instantiated, going up, those looked at, of which the first that forbids v is the last.
unfoldable pub tried : (ℕ → Bool) → ℕ → Table → Subproblem → ℕ → ℕ → ℕ
tried counted n allowed P V' v =
    looked_at (forbids allowed P V' v) (keep (λ i. eqb (bit P.marked i) 1 && counted i) (below n))

-- Kinds 2 and 3: the number of values in all counted domains.
unfoldable pub values_in : (ℕ → Bool) → ℕ → Subproblem → ℕ
values_in counted n P = total n (λ i. cond (counted i) (size (domain P i)) 0)

-- The checks of a request. Kinds 4 and 5 count none.
unfoldable pub checks : ℕ → Table → Subproblem → List ℕ → ℕ
checks n allowed P r =
    by_kind (kind_of r) (tried (others (variable_of r)) n allowed P (variable_of r) (value_of r)) (values_in (others (variable_of r)) n P)
    (values_in (others (variable_of r)) n P) 0 0 0
