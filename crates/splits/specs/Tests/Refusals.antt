-- The tests that decide refusals 7 to 10, worked out. What they give is said exactly by the promises, so that they need not be believed.
use Rattle.std.specs.Prelude.{Bool, not, cond, ◌&&◌, ◌||◌, List, ℕ, eqb, leb, ltb}
use Rattle.problem.specs.Masks.{bit, minus, size}
use Rattle.splits.specs.Subproblems.{domain}
use Rattle.problem.specs.Lists.{some, every}
use Rattle.splits.specs.Requests.{kind_of, variable_of, value_of, target_of}
use Rattle.splits.specs.declared.subproblem.Subproblem.{Subproblem}

-- The four tests, worked out. What they give is said exactly by RequestRefusals of Promises, so that they need not be believed.
unfoldable pub refused_7 : List ℕ → Bool
refused_7 r = ltb (kind_of r) 1 || ltb 5 (kind_of r)

unfoldable pub refused_8 : ℕ → Subproblem → List ℕ → Bool
refused_8 n P r = leb (kind_of r) 4 && (leb n (variable_of r) || eqb (bit P.marked (variable_of r)) 1)

unfoldable pub refused_9 : ℕ → Subproblem → List ℕ → Bool
refused_9 d P r =
    (leb (kind_of r) 3 && (leb d (value_of r) || eqb (bit (domain P (variable_of r)) (value_of r)) 0))
    || (eqb (kind_of r) 4 && eqb (size (domain P (variable_of r))) 1)

-- a target that is empty or has a value that the domain has not
unfoldable pub bad : ℕ → ℕ → Bool
bad target domain = eqb target 0 || not (eqb (minus target domain) 0)

unfoldable pub some_bad : ℕ → Subproblem → List ℕ → Bool
some_bad n P r = some n (λ i. bad (target_of r i) (domain P i))

unfoldable pub all_same : ℕ → Subproblem → List ℕ → Bool
all_same n P r = every n (λ i. eqb (target_of r i) (domain P i))

unfoldable pub refused_10 : ℕ → Subproblem → List ℕ → Bool
refused_10 n P r = eqb (kind_of r) 5 && (some_bad n P r || all_same n P r)

-- The refusal of a request, in the order 7, 8, 9, 10; 0 for none.
unfoldable pub refusal_of : ℕ → ℕ → Subproblem → List ℕ → ℕ
refusal_of n d P r =
    cond (refused_7 r) 7 (cond (refused_8 n P r) 8 (cond (refused_9 d P r) 9 (cond (refused_10 n P r) 10 0)))
