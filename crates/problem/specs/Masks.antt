-- A mask is a set of values, a number: value v is a member where binary digit v is 1.
use Rattle.std.specs.Prelude.{◌≡◌, ℕ, zero, suc, ◌+◌, ◌-◌, ◌/◌, ◌%◌, ◌^◌, ◌≤◌}
use Rattle.std.specs.Int.Bits.{bit_and}
use Rattle.std.specs.Int.Count.{ones, count_trailing_zeros}

-- Whether v is a member of m: 1 if it is, 0 if not.
unfoldable pub bit : ℕ → ℕ → ℕ
bit m v = m / 2 ^ v % 2

infix 4 ◌∈◌
-- v is a member of m.
abbrev pub ◌∈◌ : ℕ → ℕ → Type 0
v ∈ m = bit m v ≡ 1

-- a is part of b.
abbrev pub Part : ℕ → ℕ → Type 0
Part a b = (v : ℕ) → v ∈ a → v ∈ b

-- The mask of v alone.
abbrev pub single : ℕ → ℕ
single v = 2 ^ v

-- What a and b have in common: a cut to b.
abbrev pub common : ℕ → ℕ → ℕ
common a b = bit_and a b

-- a without the values of b.
unfoldable pub minus : ℕ → ℕ → ℕ
minus a b = a - bit_and a b

-- All of d values; all but a.
abbrev pub all_values : ℕ → ℕ
all_values d = 2 ^ d - 1

abbrev pub all_but : ℕ → ℕ → ℕ
all_but d a = minus (all_values d) (single a)

-- The size of a mask: the count of its values.
abbrev pub size : ℕ → ℕ
size m = ones m

-- The lowest value of a mask of w bits that is not empty, w of the empty one; masks have 16 bits.
abbrev pub lowest_of : ℕ → ℕ → ℕ
lowest_of w m = count_trailing_zeros w m

abbrev pub lowest : ℕ → ℕ
lowest m = lowest_of 16 m

-- v is the lowest value of m.
pub record LowestIn (m v : ℕ) : Type 0 where
  pub member : v ∈ m
  pub least : (u : ℕ) → u ∈ m → v ≤ u

-- The k smallest values of m, as long as it has k: the lowest, then the lowest of the rest, and so on.
unfoldable pub smallest_of : ℕ → ℕ → ℕ → ℕ
smallest_of w zero m = 0
smallest_of w (suc k) m = smallest_of w k m + single (lowest_of w (m - smallest_of w k m))

-- The smaller half: of k values the ⌈k / 2⌉ smallest.
unfoldable pub smaller_half_of : ℕ → ℕ → ℕ
smaller_half_of w m = smallest_of w ((size m + 1) / 2) m

abbrev pub smaller_half : ℕ → ℕ
smaller_half m = smaller_half_of 16 m
