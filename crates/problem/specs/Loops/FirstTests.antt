-- The first checks of a problem level by level, as the loops of the code take them.
use Rattle.std.specs.Prelude.{Bool, cond, ◌||◌, List, ℕ, ◌+◌, ◌^◌, get_or, eqb, ltb}
use Rattle.problem.specs.Masks.{bit}
use Rattle.problem.specs.Problem.{Table}
use Rattle.problem.specs.Lists.{every}
use Rattle.problem.specs.Loops.Matrices.{matrix_of, columns, difference}

-- 4: one domain, one mask of the tables, the masks of two variables, of one with some in a row, and of one with every other.
unfoldable pub domain_below : ℕ → List ℕ → ℕ → Bool
domain_below d domains i = ltb (get_or domains i 0) (2 ^ d)

unfoldable pub mask_below : ℕ → Table → ℕ → ℕ → ℕ → Bool
mask_below d allowed i j a = ltb (allowed i j a) (2 ^ d)

unfoldable pub pair_below : ℕ → Table → ℕ → ℕ → Bool
pair_below d allowed i j = eqb i j || every d (mask_below d allowed i j)

unfoldable pub span_below : ℕ → Table → ℕ → ℕ → ℕ → Bool
span_below d allowed i from count = every count (λ k. every d (mask_below d allowed i (from + k)))

unfoldable pub row_below : ℕ → ℕ → Table → ℕ → Bool
row_below n d allowed i = every n (pair_below d allowed i)

-- 5: two values, one value of i with all of j, all values of i and j, and i with every variable before it.
unfoldable pub both_ways : Table → ℕ → ℕ → ℕ → ℕ → Bool
both_ways allowed i j a b = eqb (bit (allowed i j a) b) (bit (allowed j i b) a)

unfoldable pub value_both_ways : ℕ → Table → ℕ → ℕ → ℕ → Bool
value_both_ways d allowed i j a = every d (both_ways allowed i j a)

unfoldable pub pair_both_ways : ℕ → Table → ℕ → ℕ → Bool
pair_both_ways d allowed i j = every d (value_both_ways d allowed i j)

unfoldable pub row_both_ways : ℕ → Table → ℕ → Bool
row_both_ways d allowed i = every i (pair_both_ways d allowed i)

-- 5, the masks of two variables at once: zeros past the d masks; the bits of the values that are allowed one way only.
unfoldable pub padded : ℕ → (ℕ → ℕ) → ℕ → ℕ
padded d row a = cond (ltb a d) (row a) 0

unfoldable pub one_way : ℕ → Table → ℕ → ℕ → ℕ
one_way d allowed i j = difference (columns (matrix_of (padded d (allowed i j)))) (matrix_of (padded d (allowed j i)))
