-- What the loops over all 32 masks at once find and make, and what is allowed beside a value of a variable, mask by mask.
use Rattle.std.specs.Prelude.{◌≡◌, ◌⊎◌, cond, List, [], ℕ, ◌+◌, ◌*◌, ◌/◌, ◌≤◌, ◌<◌, length, get_or, ltb}
use Rattle.problem.specs.Masks.{bit, common, size}
use Rattle.problem.specs.Problem.{table_of}
use Rattle.problem.specs.Beside.{RowOf}

-- Sixteen variables of a set, from one on.
abbrev pub Half : ℕ → ℕ → ℕ → Type 0
Half set from r = (i : ℕ) → i < 16 → bit r i ≡ bit set (from + i)

-- The set of all of 32 variables from i on.
pub record Beyond (i set : ℕ) : Type 0 where
  pub before : (j : ℕ) → j < i → bit set j ≡ 0
  pub after : (j : ℕ) → i ≤ j → j < 32 → bit set j ≡ 1

-- All bits for each of the first n of 32 variables, none for the others.
pub record Below (n : ℕ) (lanes : List ℕ) : Type 0 where
  pub long : length lanes ≡ 32
  pub all : (i : ℕ) → i < n → get_or lanes i 0 ≡ 65535
  pub none : (i : ℕ) → n ≤ i → get_or lanes i 0 ≡ 0

-- A word kept by all bits, and by none.
abbrev pub Kept : ℕ → ℕ → ℕ → Type 0
Kept word lane r = (lane ≡ 65535 → r ≡ word) × (lane ≡ 0 → r ≡ 0)

-- The first i of 32 words kept, each by its own.
pub record KeptTo (lanes words : List ℕ) (i : ℕ) (r : List ℕ) : Type 0 where
  pub long : length r ≡ 32
  pub each : (j : ℕ) → j < i → Kept (get_or words j 0) (get_or lanes j 0) (get_or r j 0)

-- The key of a variable: the fewer values the less, then the lower number; those of a set come after all others.
unfoldable pub key_of : ℕ → ℕ → ℕ → ℕ
key_of m set i = size m * 32 + i + 1024 * bit set i

-- The least key of the first i variables and of the i from 16 on; 2047 of none.
pub record LeastKey (masks : List ℕ) (set i r : ℕ) : Type 0 where
  pub low : (j : ℕ) → j < i → r ≤ key_of (get_or masks j 0) set j
  pub high : (j : ℕ) → j < i → r ≤ key_of (get_or masks (j + 16) 0) set (j + 16)
  pub some : (r ≡ 2047) ⊎ ((j : ℕ) × (j < 32) × (r ≡ key_of (get_or masks j 0) set j))

-- Of 64 lanes the first 32 have no bits, those from there up to i all.
pub record Sides (i : ℕ) (lanes : List ℕ) : Type 0 where
  pub long : length lanes ≡ 64
  pub none : (j : ℕ) → j < 32 → get_or lanes j 0 ≡ 0
  pub all : (j : ℕ) → 32 ≤ j → j < i → get_or lanes j 0 ≡ 65535

-- A mask by a lane: it stays where the lane has no bits, and is all bits where it has all.
abbrev pub Widened : ℕ → ℕ → ℕ → Type 0
Widened mask lane r = (lane ≡ 0 → r ≡ mask) × (lane ≡ 65535 → (m : ℕ) → m < 65536 → common m r ≡ m)

-- What is kept of the first i variables: before j what the row has, from j on everything.
pub record BeforeTo (row : List ℕ) (j i : ℕ) (masks : List ℕ) : Type 0 where
  pub long : length masks ≡ 32
  pub each : (k : ℕ) → k < i → (m : ℕ) → m < 65536 → common m (get_or masks k 0) ≡ cond (ltb k j) (common m (get_or row k 0)) m

-- A row kept for a variable: that of one of its values, or one that has nothing for the variable yet.
abbrev pub RowOrNone : ℕ → ℕ → List ℕ → ℕ → List ℕ → Type 0
RowOrNone n d tables V' row = (get_or row V' 0 ≡ 0) ⊎ ((v : ℕ) × RowOf n (table_of n d tables) V' v row)

-- The numbers of a problem, and its tables' words.
pub record Numbers : Type 0 where
  pub n : ℕ
  pub d : ℕ
  pub tables : List ℕ

-- Rows kept, so many for each of 32 variables.
pub record Rows (width n d : ℕ) (tables : List ℕ) (rows : List (List ℕ)) : Type 0 where
  pub long : length rows ≡ 32 * width
  pub each : (k : ℕ) → k < 32 * width → RowOrNone n d tables (k / width) (get_or rows k [])

-- A place among rows where one of a variable is kept.
pub record RowAt (n d : ℕ) (tables : List ℕ) (V' at : ℕ) (rows : List (List ℕ)) : Type 0 where
  pub inside : at < length rows
  pub kept : RowOrNone n d tables V' (get_or rows at [])

-- Rows of which the one at a place is this, and the others are as before.
pub record RowPut (at : ℕ) (row : List ℕ) (before after : List (List ℕ)) : Type 0 where
  pub same : length after ≡ length before
  pub there : get_or after at [] ≡ row
  pub others : (k : ℕ) → (k ≡ at → ⊥) → get_or after k [] ≡ get_or before k []
