-- What is asked of all 32 domains of a subproblem at once, a mask for each.
use Rattle.std.specs.Prelude.{Bool, not, cond, ◌&&◌, List, ℕ, get_or, eqb}
use Rattle.problem.specs.Masks.{common, minus}
use Rattle.problem.specs.Lists.{some, total, changed}

-- A mask loses all its values if it is cut.
unfoldable pub lost : ℕ → ℕ → Bool
lost m mask = not (eqb m 0) && eqb (common m mask) 0

-- One of 32 masks does, each cut to its own.
unfoldable pub loses : List ℕ → List ℕ → Bool
loses masks row = some 32 (λ i. lost (get_or masks i 0) (get_or row i 0))

-- What is left of the first i masks outside their own of a row.
unfoldable pub outside_to : List ℕ → List ℕ → ℕ → List ℕ
outside_to masks row i = changed i (λ j m. minus m (get_or row j 0)) masks

-- How many of the first i masks have values.
unfoldable pub filled : List ℕ → ℕ → ℕ
filled masks i = total i (λ j. cond (eqb (get_or masks j 0) 0) 0 1)
