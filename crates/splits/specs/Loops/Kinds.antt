-- What a loop or a part of the code works out, in its own shape.
use Rattle.std.specs.Prelude.{Bool, cond, ◌||◌, List, ℕ, eqb, leb, get_or}
use Rattle.problem.specs.Masks.{bit, common, size}
use Rattle.problem.specs.Lists.{changed}
use Rattle.problem.specs.Problem.{table_of}
use Rattle.splits.specs.Subproblems.{domain}
use Rattle.splits.specs.Splits.{candidate}
use Rattle.splits.specs.Requests.{variable_of, value_of}
use Rattle.problem.specs.Ranges.{inside}
use Rattle.splits.specs.declared.subproblem.Subproblem.{Subproblem}

-- Whether 9 is deserved, of a V with domain m.
unfoldable pub deserves9 : ℕ → ℕ → ℕ → ℕ → Bool
deserves9 d m kind v = cond (eqb kind 4) (eqb (size m) 1) (leb d v || eqb (bit m v) 0)

-- 8, 9 or none, of kinds 1 to 4.
unfoldable pub refusal_of_variable : ℕ → ℕ → Subproblem → ℕ → ℕ → ℕ → ℕ
refusal_of_variable n d P kind V' v =
    cond (leb n V' || eqb (bit P.marked V') 1) 8 (cond (deserves9 d (domain P V') kind v) 9 0)

-- The k-th candidate of a request of kind 1 to 3; the subproblem itself where the words do not fit.
unfoldable pub around_value : Subproblem → ℕ → ℕ → List ℕ → List ℕ → ℕ → Subproblem
around_value P n d tables r k = cond (inside n d tables (variable_of r) (value_of r)) (candidate n (table_of n d tables) P r k) P

-- The variables before j, except V, cut to their own masks of a row.
unfoldable pub cut_before : Subproblem → ℕ → List ℕ → ℕ → Subproblem
cut_before P V' row j =
    record { domains = changed j (λ i m. cond (eqb i V') m (common m (get_or row i 0))) P.domains; marked = P.marked }
