-- The masks of two variables, one way and the other: their words as they are read, and what is allowed one way only.
-- Assumes nothing.
use mathlib.Core.Path.{◌≡◌, sym, ap, ◌∙◌}
use mathlib.Core.Bool.{true, or-true}
use mathlib.Core.List.{List, ◌++◌}
use mathlib.Core.Logic.{⊎_elim}
use Prim.Native.Nat.{ℕ, ◌+◌, ◌-◌, ◌*◌, ◌/◌, ◌%◌, ◌^◌, ◌≤◌, ◌<◌}
use native.Mathlib.Omega.{arith}
use native.Mathlib.Decide.{dec_lt}
use native.Mathlib.Nat.{lt_of_lt_of_le, mul-le-mul_right}
use lib.Dec.{eqb}
use lib.Arith.{digits_lt}
use lib.ListN.{length, get_or, take, drop, replicate, length-take, length-drop, get_or-append}
use lib.Pow.{pow_pos, pow_mono}
use lib.Seq.{get_or-take, get_or-drop, get_or-append-add}
use borrow.Author.Tests.{eqb-true, ltb-true, lt-ltb, le-ltb, eq-eqb}
use Rattle.problem.specs.Masks.{bit}
use Rattle.problem.specs.Problem.{Table, table_of, Words}
use Rattle.problem.specs.Lists.{every, row_in, joined}
use Rattle.problem.specs.Ranges.{Sized}
use Rattle.problem.proofs.mask.Masks.{bit_none, bit_above}
use Rattle.problem.proofs.tables.Ranges.{word_at}
use Rattle.problem.proofs.Tests.{or_cases, every_at, every_all, same_test, every_same}
use Rattle.problem.specs.declared.matrix.Matrix.{Matrix}
use Rattle.problem.specs.Loops.Matrices.{four, matrix_of, columns, difference}
use Rattle.problem.specs.Loops.FirstTests.{mask_below, pair_below, row_below, both_ways, value_both_ways, pair_both_ways, row_both_ways, padded, one_way}
use Rattle.problem.proofs.Copies.{zeros_at}
use Rattle.problem.proofs.first_checks.Joining.{joined_zero}
use Rattle.problem.proofs.matrix.Turning.{cell, matrix_cell, matrix_words, four_lt, mirror, same_cells, same_words, quarters_same, turned_lt}

-- ---- two variables

padded_in : (d : ℕ) (f : ℕ → ℕ) (a : ℕ) → a < d → padded d f a ≡ f a
unfolding padded
padded_in d f a h = rw (lt-ltb a d h)

padded_out : (d : ℕ) (f : ℕ → ℕ) (a : ℕ) → d ≤ a → padded d f a ≡ 0
unfolding padded
padded_out d f a h = rw (le-ltb a d h)

module _ (n d : ℕ) (t : List ℕ) (fit : Sized n d t) (below : every n (row_below n d (table_of n d t)) ≡ true) where
  -- a mask that is read has no value at d or above
  narrow_mask : (i j a : ℕ) → i < n → j < n → (i ≡ j → ⊥) → a < d → table_of n d t i j a < 2 ^ d
  unfolding row_below pair_below mask_below
  narrow_mask i j a h k f l =
      let row = every_at (row_below n d (table_of n d t)) n i h below in
      let pair = every_at (pair_below d (table_of n d t) i) n j k row in
      ⊎_elim (λ e. absurd (f (eqb-true i j e)))
      (λ e. ltb-true (table_of n d t i j a) (2 ^ d) (every_at (mask_below d (table_of n d t) i j) d a l e))
      (or_cases (eqb i j) (every d (mask_below d (table_of n d t) i j)) pair)

  rows : ℕ → ℕ → ℕ → ℕ
  rows i j = padded d (table_of n d t i j)

  rows_narrow : (i j a : ℕ) → i < n → j < n → (i ≡ j → ⊥) → rows i j a < 2 ^ d
  unfolding rows
  rows_narrow i j a h k f = elim (dec_lt a d) [
    | yes l ↦ rw (padded_in d (table_of n d t i j) a l) (narrow_mask i j a h k f l)
    | no l ↦ rw (padded_out d (table_of n d t i j) a (omega arith)) (pow_pos d)
  ]

  rows_lt : (i j : ℕ) → i < n → j < n → (i ≡ j → ⊥) → (a : ℕ) → rows i j a < 65536
  rows_lt i j h k f a = lt_of_lt_of_le (rows_narrow i j a h k f) (pow_mono fit.small)

  -- where the values are allowed both ways, so are the digits of all rows
  rows_mirror : (i j : ℕ) → i < n → j < n → (i ≡ j → ⊥) → pair_both_ways d (table_of n d t) i j ≡ true
      → (r c : ℕ) → bit (rows i j c) r ≡ bit (rows j i r) c
  unfolding rows pair_both_ways value_both_ways both_ways
  rows_mirror i j h k f e r c = elim (dec_lt c d) [
    | yes l ↦ elim (dec_lt r d) [
      | yes m ↦ rw (padded_in d (table_of n d t i j) c l, padded_in d (table_of n d t j i) r m)
          (eqb-true (bit (table_of n d t i j c) r) (bit (table_of n d t j i r) c)
          (every_at (both_ways (table_of n d t) i j c) d r m (every_at (value_both_ways d (table_of n d t) i j) d c l e)))
      | no m ↦ bit_above d (rows i j c) r (rows_narrow i j c h k f) (omega arith)
          ∙ sym (ap (λ (x : ℕ). bit x c) (padded_out d (table_of n d t j i) r (omega arith)) ∙ bit_none c)
    ]
    | no l ↦ ap (λ (x : ℕ). bit x r) (padded_out d (table_of n d t i j) c (omega arith)) ∙ bit_none r
        ∙ sym (bit_above d (rows j i r) c (rows_narrow j i r k h (λ z. f (sym z))) (omega arith))
  ]

  -- The masks of i with j, rows for columns, do not differ from those of j with i where the values are allowed both ways or neither.
  pair_turned : (i j : ℕ) → i < n → j < n → (i ≡ j → ⊥)
      → eqb (one_way d (table_of n d t) i j) 0 ≡ pair_both_ways d (table_of n d t) i j
  unfolding rows one_way pair_both_ways value_both_ways both_ways
  pair_turned i j h k f =
      let m : Matrix = matrix_of (rows i j) in
      let o : Matrix = matrix_of (rows j i) in
      let g : j ≡ i → ⊥ = λ z. f (sym z) in
      same_test (eqb (difference (columns m) o) 0) (pair_both_ways d (table_of n d t) i j)
      (λ e. every_all (value_both_ways d (table_of n d t) i j) d (λ a la. every_all (both_ways (table_of n d t) i j a) d (λ b lb.
      let small : d ≤ 16 = fit.small in
      eq-eqb (bit (table_of n d t i j a) b) (bit (table_of n d t j i b) a)
      (ap (λ (x : ℕ). bit x b) (sym (padded_in d (table_of n d t i j) a la)) ∙ sym (matrix_cell (rows i j) a b (rows_lt i j h k f) (omega arith) (omega arith))
      ∙ sym (mirror m b a (omega arith) (omega arith)) ∙ same_cells (columns m) o (eqb-true (difference (columns m) o) 0 e) (b * 16 + a)
      ∙ matrix_cell (rows j i) b a (rows_lt j i k h g) (omega arith) (omega arith) ∙ ap (λ (x : ℕ). bit x a) (padded_in d (table_of n d t j i) b lb)))))
      (λ e. eq-eqb (difference (columns m) o) 0 (quarters_same (columns m) o (λ q l. same_words (columns m) o q l (turned_lt m q)
      (rw (matrix_words (rows j i) q l) (four_lt (rows j i) (q * 4) (rows_lt j i k h g)))
      (λ place p.
      let at : place ≡ place / 16 * 16 + place % 16 = omega arith in
      let r : ℕ = place / 16 in
      let c : ℕ = place % 16 in
      ap (cell (columns m)) at ∙ mirror m r c (omega arith) (omega arith) ∙ matrix_cell (rows i j) c r (rows_lt i j h k f) (omega arith) (omega arith)
      ∙ rows_mirror i j h k f e r c ∙ sym (matrix_cell (rows j i) r c (rows_lt j i k h g) (omega arith) (omega arith)) ∙ ap (cell o) (sym at)))))

  -- of one variable with every one before it
  pub row_found : (i b : ℕ) → i < n → b ≡ joined i (one_way d (table_of n d t) i) → eqb b 0 ≡ row_both_ways d (table_of n d t) i
  unfolding row_both_ways
  row_found i b h e =
      ap (λ (x : ℕ). eqb x 0) e ∙ joined_zero i (one_way d (table_of n d t) i)
      ∙ every_same (λ j. eqb (one_way d (table_of n d t) i j) 0) (pair_both_ways d (table_of n d t) i) i
      (λ j l. pair_turned i j h (omega arith) (λ z. absurd (omega arith)))

-- what the code finds of two
pub one_way_found : (d i j r : ℕ) (allowed : Table) (m u o : Matrix) → m ≡ matrix_of (padded d (allowed i j)) → u ≡ columns m
    → o ≡ matrix_of (padded d (allowed j i)) → r ≡ difference u o → r ≡ one_way d allowed i j
unfolding one_way
one_way_found d i j r allowed m u o em eu eo e = rw (eu, em, eo) at e

-- ---- the words of two variables

-- a row past so many is zero, and each before them is theirs
padded_row : (x : List ℕ) (d a : ℕ) (f : ℕ → ℕ) → length x ≡ d → ((v : ℕ) → v < d → get_or x v 0 ≡ f v)
    → get_or (x ++ replicate (16 - length x) 0) a 0 ≡ padded d f a
padded_row x d a f e h = elim (dec_lt a d) [
  | yes l ↦ get_or-append x (replicate (16 - length x) 0) 0 a (omega arith) ∙ h a l ∙ sym (padded_in d f a l)
  | no l ↦
      let at : a ≡ length x + (a - d) = omega arith in
      ap (λ (k : ℕ). get_or (x ++ replicate (16 - length x) 0) k 0) at ∙ get_or-append-add x (replicate (16 - length x) 0) (a - d) 0
      ∙ zeros_at (16 - length x) (a - d) ∙ sym (padded_out d f a (omega arith))
]

matrix_same : (f g : ℕ → ℕ) → ((a : ℕ) → a < 16 → f a ≡ g a) → matrix_of f ≡ matrix_of g
unfolding matrix_of four
matrix_same f g h =
    simp (
      h 0 (omega arith),
      h 1 (omega arith),
      h 2 (omega arith),
      h 3 (omega arith),
      h 4 (omega arith),
      h 5 (omega arith),
      h 6 (omega arith),
      h 7 (omega arith),
      h 8 (omega arith),
      h 9 (omega arith),
      h 10 (omega arith),
      h 11 (omega arith),
      h 12 (omega arith),
      h 13 (omega arith),
      h 14 (omega arith),
      h 15 (omega arith),
    )

module _ (n d i j : ℕ) (t : List ℕ) (fit : Sized n d t) (h : i < n) (k : j < n) where
  -- the masks of two of the variables stand within the tables
  pub masks_within : (i * n + j) * d + d ≤ length t
  masks_within =
      let pair : i * n + j + 1 ≤ n * n = omega (arith, digits_lt h k) in
      omega (arith, mul-le-mul_right d pair, fit.words)

  masks_at : (v : ℕ) → v < d → get_or (take ((i * n + j) * d + d - (i * n + j) * d) (drop ((i * n + j) * d) t)) v 0 ≡ table_of n d t i j v
  masks_at v l =
      get_or-take ((i * n + j) * d + d - (i * n + j) * d) (drop ((i * n + j) * d) t) v 0 (omega arith) ∙ get_or-drop ((i * n + j) * d) t v 0
      ∙ sym (word_at n d t i j v l)

  -- 16 masks, as they stand
  pub matrix_whole : (m : Matrix) → d ≡ 16 → m ≡ matrix_of (row_in (take ((i * n + j) * d + d - (i * n + j) * d) (drop ((i * n + j) * d) t)))
      → m ≡ matrix_of (padded d (table_of n d t i j))
  unfolding row_in
  matrix_whole m e s =
      s ∙ matrix_same (row_in (take ((i * n + j) * d + d - (i * n + j) * d) (drop ((i * n + j) * d) t))) (padded d (table_of n d t i j))
      (λ a l. masks_at a (omega arith) ∙ sym (padded_in d (table_of n d t i j) a (omega arith)))

  -- fewer, with zeros
  pub matrix_part : (m : Matrix) (x : List ℕ)
      → x ≡ take ((i * n + j) * d + d - (i * n + j) * d) (drop ((i * n + j) * d) t) ++ replicate (16 - length (take ((i * n + j) * d + d - (i * n + j) * d) (drop ((i * n + j) * d) t))) 0
      → m ≡ matrix_of (row_in x) → m ≡ matrix_of (padded d (table_of n d t i j))
  unfolding row_in
  matrix_part m x e s =
      let part : List ℕ = take ((i * n + j) * d + d - (i * n + j) * d) (drop ((i * n + j) * d) t) in
      let long : length part ≡ d = simp (length-take, length-drop) (omega (arith, masks_within)) in
      s ∙ matrix_same (row_in x) (padded d (table_of n d t i j))
      (λ a l. ap (λ (y : List ℕ). get_or y a 0) e ∙ padded_row part d a (table_of n d t i j) long masks_at)

-- ---- 16 values

-- of 16 values no word of the tables has a bit too many
pub words_below : (n d : ℕ) (t : List ℕ) → d ≡ 16 → Words t → every n (row_below n d (table_of n d t)) ≡ true
unfolding row_below pair_below mask_below
words_below n d t e w =
    let most : 2 ^ d ≡ 65536 = ap (λ (x : ℕ). 2 ^ x) e in
    every_all (row_below n d (table_of n d t)) n (λ i h. every_all (pair_below d (table_of n d t) i) n (λ j k.
    rw (every_all (mask_below d (table_of n d t) i j) d (λ a l. lt-ltb (table_of n d t i j a) (2 ^ d) (rw (most, word_at n d t i j a l) (w ((i * n + j) * d + a))))) (or-true (eqb i j))))
