-- What each public function of the crate hands back, for every input.
use Rattle.std.specs.Prelude.{◌≡◌, Bool, true, false, cond, ◌&&◌, List, ℕ, length, replicate, eqb, ltb}
use Rattle.problem.specs.Lists.{joined, row_in}
use Rattle.problem.specs.Problem.{table_of}
use Rattle.problem.specs.Ranges.{inside}
use Rattle.problem.specs.Beside.{RowOf}
use Rattle.problem.specs.Tests.FirstChecks.{refusal_of_numbers, problem_sizes, problem_refusal}
use Rattle.problem.specs.Masks.{bit, single, size, lowest, smaller_half}

abbrev pub Count : ℕ → ℕ → Type 0
Count mask r = r ≡ size mask

abbrev pub Lowest : ℕ → ℕ → Type 0
Lowest mask r = r ≡ lowest mask

abbrev pub Has : ℕ → ℕ → Bool → Type 0
Has mask value r = r ≡ eqb (bit mask value) 1

abbrev pub SmallerHalf : ℕ → ℕ → Type 0
SmallerHalf mask r = r ≡ smaller_half mask

-- The mask of one value of 16.
abbrev pub Only : ℕ → ℕ → Type 0
Only value r = r ≡ cond (ltb value 16) (single value) 0

-- Whether n, d and the tables fit each other, and the variable and the value are among theirs.
abbrev pub Within : ℕ → ℕ → List ℕ → ℕ → ℕ → Bool → Type 0
Within n d tables variable value r = r ≡ inside n d tables variable value

-- What is allowed beside value a of i: nothing where the numbers do not fit, and everything of i itself, whose place is not read.
abbrev pub Allowed : ℕ → ℕ → List ℕ → ℕ → ℕ → ℕ → ℕ → Type 0
Allowed n d tables i j a r = r ≡ cond (ltb j n && inside n d tables i a) (cond (eqb i j) 65535 (table_of n d tables i j a)) 0

-- The row of a value, where the numbers fit; else no bit in any of 32 places.
pub record Row (n d : ℕ) (tables : List ℕ) (variable value : ℕ) (r : List ℕ) : Type 0 where
  pub within : inside n d tables variable value ≡ true → RowOf n (table_of n d tables) variable value r
  pub outside : inside n d tables variable value ≡ false → r ≡ replicate 32 0

-- The bits of all words together.
abbrev pub BitsOf : List ℕ → ℕ → Type 0
BitsOf words r = r ≡ joined (length words) (row_in words)

-- The first checks of the numbers, of how many words are lent, and of a problem.
abbrev pub RefusalOfNumbers : ℕ → ℕ → ℕ → Type 0
RefusalOfNumbers n d r = r ≡ refusal_of_numbers n d

abbrev pub SizesRefusal : ℕ → ℕ → ℕ → ℕ → ℕ → Type 0
SizesRefusal n d domains tables r = r ≡ problem_sizes n d domains tables

abbrev pub RefusalOf : ℕ → ℕ → List ℕ → List ℕ → ℕ → Type 0
RefusalOf n d domains tables r = r ≡ problem_refusal n d domains tables
