-- Rows for columns: what the four steps make of 16 rows of 16 bits, four rows to a word. A place is 16 × row + column.
-- Assumes nothing.
use mathlib.Core.Path.{◌≡◌, refl, sym, ap, ◌∙◌}
use mathlib.Core.Bool.{Bool, true, false, cond, ◌||◌}
use mathlib.Core.List.{List, [], ◌∷◌, ◌++◌, append-nil}
use mathlib.Core.Logic.{◌⊎◌, inl, inr, ⊎_elim}
use Prim.Native.Nat.{ℕ, zero, suc, ◌+◌, ◌-◌, ◌*◌, ◌/◌, ◌%◌, ◌^◌, ◌≤◌, ◌<◌}
use native.Mathlib.Omega.{arith}
use native.Mathlib.Decide.{dec_lt}
use native.Mathlib.Nat.{not-suc-le-zero, lt_of_le_of_lt}
use lib.Bits.{bit_and, bit_or, bit_xor, and_le_l, and_le_r, or_lt, or_add_and, xor_self, xor_add_and}
use lib.Dec.{eqb, leb, ltb}
use lib.ListN.{length, get_or}
use lib.Pow.{shl-shr, field, mod-mod-pow, ones_sub-lt}
use lib.Seq.{ext_get_or, get_or-append-add}
use borrow.Author.Tests.{eqb-true, leb-true, ltb-true}
use Rattle.problem.specs.Masks.{bit}
use Rattle.problem.specs.Lists.{every, row_in}
use Rattle.problem.proofs.mask.Masks.{bit_zero, bit_suc, bit_le, bit_common, bit-bit_or, bit_above, bit_ext}
use Rattle.problem.proofs.Tests.{every_at}
use Rattle.problem.specs.declared.matrix.Matrix.{Matrix}
use Rattle.problem.specs.Matrix.{Turned}
use Rattle.problem.specs.Problem.{Words}
use Rattle.problem.specs.Loops.Matrices.{four, matrix_of, risen, sunk, by_one, by_two, within, by_four, by_eight, columns, difference, word_at, four_of, rows_of}
use Rattle.problem.proofs.first_checks.Joining.{bit_shr}

-- ---- digits of shifted words

pub bit_shl : (m s q : ℕ) → bit (m * 2 ^ s) (s + q) ≡ bit m q
bit_shl m s q = sym (bit_shr (m * 2 ^ s) s q) ∙ ap (λ (x : ℕ). bit x q) (shl-shr m s)

low_digit : (j p m : ℕ) → bit (m % 2 ^ (j + 1 + p)) p ≡ bit m p
unfolding bit
low_digit j p m = ap (λ (x : ℕ). x % 2) (field m (j + 1) p) ∙ mod-mod-pow (m / 2 ^ p) j 1

pub bit_low : (w m p : ℕ) → p < w → bit (m % 2 ^ w) p ≡ bit m p
bit_low w m p h =
    let e : w ≡ w - p - 1 + 1 + p = omega arith in
    ap (λ (x : ℕ). bit (m % 2 ^ x) p) e ∙ low_digit (w - p - 1) p m

-- the digits of what a word has not
pub bit_not : (w b v : ℕ) → b < 2 ^ w → v < w → bit (2 ^ w - 1 - b) v ≡ 1 - bit b v
bit_not zero b v h l = absurd (not-suc-le-zero l)
bit_not (suc w) b zero h l = omega (arith, bit_zero (2 ^ suc w - 1 - b), bit_zero b)
bit_not (suc w) b (suc v) h l =
    let half : (2 ^ suc w - 1 - b) / 2 ≡ 2 ^ w - 1 - b / 2 = omega arith in
    bit_suc (2 ^ suc w - 1 - b) v ∙ ap (λ (x : ℕ). bit x v) half ∙ bit_not w (b / 2) v (omega arith) (omega arith)
    ∙ ap (λ (x : ℕ). 1 - x) (sym (bit_suc b v))

-- ---- one place of a word that has risen or sunk

-- of a word joined of two by a third: the first where the third has a digit, else the second
joined_kept : (a x k p : ℕ) → k < 2 ^ 64 → p < 64 → bit k p ≡ 1 → bit (bit_or (bit_and a k) (bit_and x (2 ^ 64 - 1 - k))) p ≡ bit a p
joined_kept a x k p h l e =
    omega (
      arith,
      bit-bit_or (bit_and a k) (bit_and x (2 ^ 64 - 1 - k)) p,
      bit_common a k p,
      bit_common x (2 ^ 64 - 1 - k) p,
      bit_not 64 k p h l,
      bit_le a p,
      bit_le x p,
    )

joined_other : (a x k p : ℕ) → k < 2 ^ 64 → p < 64 → bit k p ≡ 0 → bit (bit_or (bit_and a k) (bit_and x (2 ^ 64 - 1 - k))) p ≡ bit x p
joined_other a x k p h l e =
    omega (
      arith,
      bit-bit_or (bit_and a k) (bit_and x (2 ^ 64 - 1 - k)) p,
      bit_common a k p,
      bit_common x (2 ^ 64 - 1 - k) p,
      bit_not 64 k p h l,
      bit_le a p,
      bit_le x p,
    )

-- what is not moved in comes from within the other word
unfoldable rise_fits : ℕ → ℕ → Bool
rise_fits k s = every 64 (λ p. eqb (bit k p) 1 || leb s p)

unfoldable sink_fits : ℕ → ℕ → Bool
sink_fits k s = every 64 (λ p. eqb (bit k p) 1 || ltb (s + p) 64)

pub joined_lt : (a x k : ℕ) → k < 2 ^ 64 → bit_or (bit_and a k) (bit_and x (2 ^ 64 - 1 - k)) < 2 ^ 64
joined_lt a x k h =
    or_lt 64 (bit_and a k) (bit_and x (2 ^ 64 - 1 - k)) (lt_of_le_of_lt (and_le_r a k) h)
    (lt_of_le_of_lt (and_le_r x (2 ^ 64 - 1 - k)) (ones_sub-lt 64 k))

pick_kept : (x a b : ℕ) → x ≡ 1 → cond (eqb x 1) a b ≡ a
pick_kept x a b e = rw e

pick_other : (x a b : ℕ) → x ≡ 0 → cond (eqb x 1) a b ≡ b
pick_other x a b e = rw e

digit_cases : (k p : ℕ) → (bit k p ≡ 1) ⊎ (bit k p ≡ 0)
digit_cases k p = go (bit k p) (bit_le k p)
  where
    go : (x : ℕ) → x ≤ 1 → (x ≡ 1) ⊎ (x ≡ 0)
    go zero h = inr refl
    go (suc zero) h = inl refl
    go (suc (suc x)) h = absurd (omega arith)

-- where the second half of a test must hold
other_test : (x : ℕ) (t : Bool) → x ≡ 0 → (eqb x 1 || t) ≡ true → t ≡ true
other_test x t e h = rw e at h

rise_digit : (a b k s p : ℕ) → k < 2 ^ 64 → rise_fits k s ≡ true → p < 64
    → bit (risen a b k s) p ≡ cond (eqb (bit k p) 1) (bit a p) (bit b (p - s))
unfolding risen rise_fits
rise_digit a b k s p h f l =
    ⊎_elim
    (λ e. joined_kept a (b * 2 ^ s % 2 ^ 64) k p h l e ∙ sym (pick_kept (bit k p) (bit a p) (bit b (p - s)) e))
    (λ e.
    let within : s ≤ p = leb-true s p (other_test (bit k p) (leb s p) e (every_at (λ x. eqb (bit k x) 1 || leb s x) 64 p l f)) in
    let at : p ≡ s + (p - s) = omega arith in
    joined_other a (b * 2 ^ s % 2 ^ 64) k p h l e ∙ bit_low 64 (b * 2 ^ s) p l ∙ ap (bit (b * 2 ^ s)) at ∙ bit_shl b s (p - s)
    ∙ sym (pick_other (bit k p) (bit a p) (bit b (p - s)) e))
    (digit_cases k p)

sink_digit : (a b k s p : ℕ) → k < 2 ^ 64 → p < 64 → bit (sunk a b k s) p ≡ cond (eqb (bit k p) 1) (bit a p) (bit b (s + p))
unfolding sunk
sink_digit a b k s p h l =
    ⊎_elim (λ e. joined_kept a (b / 2 ^ s) k p h l e ∙ sym (pick_kept (bit k p) (bit a p) (bit b (s + p)) e))
    (λ e. joined_other a (b / 2 ^ s) k p h l e ∙ bit_shr b s p ∙ sym (pick_other (bit k p) (bit a p) (bit b (s + p)) e)) (digit_cases k p)

-- ---- within a word: where a digit comes from

unfoldable swap_from : ℕ → ℕ → ℕ → ℕ → ℕ
swap_from k o s p = cond (eqb (bit o p) 1) (cond (eqb (bit k p) 1) p (s + p)) (p - s)

push : (f : ℕ → ℕ) (t : Bool) (x y : ℕ) → cond t (f x) (f y) ≡ f (cond t x y)
push f true x y = refl
push f false x y = refl

swap_digit : (x k o s p : ℕ) → k < 2 ^ 64 → o < 2 ^ 64 → rise_fits o s ≡ true → p < 64
    → bit (risen (sunk x x k s) x o s) p ≡ bit x (swap_from k o s p)
unfolding swap_from
swap_digit x k o s p h g f l =
    rise_digit (sunk x x k s) x o s p g f l
    ∙ ap (λ (y : ℕ). cond (eqb (bit o p) 1) y (bit x (p - s))) (sink_digit x x k s p h l ∙ push (bit x) (eqb (bit k p) 1) p (s + p))
    ∙ push (bit x) (eqb (bit o p) 1) (cond (eqb (bit k p) 1) p (s + p)) (p - s)

unfoldable one_from : ℕ → ℕ
one_from = swap_from 18446556426588345685 12297923206033637375 15

unfoldable two_from : ℕ → ℕ
two_from = swap_from 18446744070273577779 14757395259826634751 30

fits_one : rise_fits 12297923206033637375 15 ≡ true
unfolding rise_fits every bit
fits_one = refl

fits_two : rise_fits 14757395259826634751 30 ≡ true
unfolding rise_fits every bit
fits_two = refl

one_digit : (x p : ℕ) → p < 64 → bit (by_one x) p ≡ bit x (one_from p)
unfolding by_one one_from
one_digit x p = swap_digit x 18446556426588345685 12297923206033637375 15 p (omega arith) (omega arith) fits_one

two_digit : (x p : ℕ) → p < 64 → bit (by_two x) p ≡ bit x (two_from p)
unfolding by_two two_from
two_digit x p = swap_digit x 18446744070273577779 14757395259826634751 30 p (omega arith) (omega arith) fits_two

-- ---- a place of the whole: which word, and which digit of it

pub quarter : Matrix → ℕ → ℕ
quarter m zero = m.first
quarter m (suc zero) = m.second
quarter m (suc (suc zero)) = m.third
quarter m (suc (suc (suc q))) = m.fourth

unfoldable pub cell : Matrix → ℕ → ℕ
cell m place = bit (quarter m (place / 64)) (place % 64)

cell_at : (m : Matrix) (q p : ℕ) → p < 64 → cell m (q * 64 + p) ≡ bit (quarter m q) p
unfolding cell
cell_at m q p h =
    let word : (q * 64 + p) / 64 ≡ q = omega arith in
    let digit : (q * 64 + p) % 64 ≡ p = omega arith in
    rw (word, digit)

unfoldable rise_from : ℕ → ℕ → ℕ → ℕ → ℕ → ℕ
rise_from k s q o p = cond (eqb (bit k p) 1) (q * 64 + p) (o * 64 + (p - s))

unfoldable sink_from : ℕ → ℕ → ℕ → ℕ → ℕ → ℕ
sink_from k s q o p = cond (eqb (bit k p) 1) (q * 64 + p) (o * 64 + (s + p))

pick_same : (x a b c d : ℕ) → (x ≡ 1 → a ≡ c) → (x ≡ 0 → b ≡ d) → x ≤ 1 → cond (eqb x 1) a b ≡ cond (eqb x 1) c d
pick_same zero a b c d h k l = k refl
pick_same (suc zero) a b c d h k l = h refl
pick_same (suc (suc x)) a b c d h k l = absurd (omega arith)

rise_cell : (m : Matrix) (k s q o p : ℕ) → k < 2 ^ 64 → rise_fits k s ≡ true → p < 64
    → bit (risen (quarter m q) (quarter m o) k s) p ≡ cell m (rise_from k s q o p)
unfolding rise_from
rise_cell m k s q o p h f l =
    rise_digit (quarter m q) (quarter m o) k s p h f l
    ∙ pick_same (bit k p) (bit (quarter m q) p) (bit (quarter m o) (p - s)) (cell m (q * 64 + p)) (cell m (o * 64 + (p - s)))
    (λ e. sym (cell_at m q p l)) (λ e. sym (cell_at m o (p - s) (omega arith))) (bit_le k p)
    ∙ push (cell m) (eqb (bit k p) 1) (q * 64 + p) (o * 64 + (p - s))

sink_cell : (m : Matrix) (k s q o p : ℕ) → k < 2 ^ 64 → sink_fits k s ≡ true → p < 64
    → bit (sunk (quarter m q) (quarter m o) k s) p ≡ cell m (sink_from k s q o p)
unfolding sink_from sink_fits
sink_cell m k s q o p h f l =
    sink_digit (quarter m q) (quarter m o) k s p h l
    ∙ pick_same (bit k p) (bit (quarter m q) p) (bit (quarter m o) (s + p)) (cell m (q * 64 + p)) (cell m (o * 64 + (s + p)))
    (λ e. sym (cell_at m q p l))
    (λ e. sym
    (cell_at m o (s + p) (ltb-true (s + p) 64 (other_test (bit k p) (ltb (s + p) 64) e (every_at (λ x. eqb (bit k x) 1 || ltb (s + x) 64) 64 p l f)))))
    (bit_le k p)
    ∙ push (cell m) (eqb (bit k p) 1) (q * 64 + p) (o * 64 + (s + p))

-- ---- between words

fits_four : (rise_fits 1085102592571150095 4 ≡ true) × (sink_fits 17361641481138401520 4 ≡ true)
unfolding rise_fits sink_fits every bit
fits_four = (refl, refl)

fits_eight : (rise_fits 71777214294589695 8 ≡ true) × (sink_fits 18374966859414961920 8 ≡ true)
unfolding rise_fits sink_fits every bit
fits_eight = (refl, refl)

unfoldable four_from : ℕ → ℕ → ℕ
four_from zero p = rise_from 1085102592571150095 4 0 1 p
four_from (suc zero) p = sink_from 17361641481138401520 4 1 0 p
four_from (suc (suc zero)) p = rise_from 1085102592571150095 4 2 3 p
four_from (suc (suc (suc q))) p = sink_from 17361641481138401520 4 3 2 p

four_cell : (m : Matrix) (q p : ℕ) → p < 64 → bit (quarter (by_four m) q) p ≡ cell m (four_from q p)
unfolding by_four four_from quarter
four_cell m zero p l = rise_cell m 1085102592571150095 4 0 1 p (omega arith) fits_four.0 l
four_cell m (suc zero) p l = sink_cell m 17361641481138401520 4 1 0 p (omega arith) fits_four.1 l
four_cell m (suc (suc zero)) p l = rise_cell m 1085102592571150095 4 2 3 p (omega arith) fits_four.0 l
four_cell m (suc (suc (suc q))) p l = sink_cell m 17361641481138401520 4 3 2 p (omega arith) fits_four.1 l

unfoldable eight_from : ℕ → ℕ → ℕ
eight_from zero p = rise_from 71777214294589695 8 0 2 p
eight_from (suc zero) p = rise_from 71777214294589695 8 1 3 p
eight_from (suc (suc zero)) p = sink_from 18374966859414961920 8 2 0 p
eight_from (suc (suc (suc q))) p = sink_from 18374966859414961920 8 3 1 p

eight_cell : (m : Matrix) (q p : ℕ) → p < 64 → bit (quarter (by_eight m) q) p ≡ cell m (eight_from q p)
unfolding by_eight eight_from quarter
eight_cell m zero p l = rise_cell m 71777214294589695 8 0 2 p (omega arith) fits_eight.0 l
eight_cell m (suc zero) p l = rise_cell m 71777214294589695 8 1 3 p (omega arith) fits_eight.0 l
eight_cell m (suc (suc zero)) p l = sink_cell m 18374966859414961920 8 2 0 p (omega arith) fits_eight.1 l
eight_cell m (suc (suc (suc q))) p l = sink_cell m 18374966859414961920 8 3 1 p (omega arith) fits_eight.1 l

within_words : (m : Matrix) (q : ℕ) → quarter (within m) q ≡ by_two (by_one (quarter m q))
unfolding within quarter
within_words m zero = refl
within_words m (suc zero) = refl
within_words m (suc (suc zero)) = refl
within_words m (suc (suc (suc q))) = refl

-- what stays within a word
unfoldable stays : (ℕ → ℕ) → Bool
stays f = every 64 (λ p. ltb (f p) 64)

stay : (stays one_from ≡ true) × (stays two_from ≡ true)
unfolding stays one_from two_from swap_from every bit
stay = (refl, refl)

stays_at : (f : ℕ → ℕ) (p : ℕ) → stays f ≡ true → p < 64 → f p < 64
unfolding stays
stays_at f p e l = ltb-true (f p) 64 (every_at (λ x. ltb (f x) 64) 64 p l e)

within_cell : (m : Matrix) (q p : ℕ) → p < 64 → bit (quarter (within m) q) p ≡ cell m (q * 64 + one_from (two_from p))
within_cell m q p l =
    let two : two_from p < 64 = stays_at two_from p stay.1 l in
    let one : one_from (two_from p) < 64 = stays_at one_from (two_from p) stay.0 two in
    ap (λ (x : ℕ). bit x p) (within_words m q) ∙ two_digit (by_one (quarter m q)) p l ∙ one_digit (quarter m q) (two_from p) two
    ∙ sym (cell_at m q (one_from (two_from p)) one)

-- ---- all four steps

unfoldable within_from : ℕ → ℕ
within_from place = place / 64 * 64 + one_from (two_from (place % 64))

unfoldable apart : (ℕ → ℕ → ℕ) → ℕ → ℕ
apart f place = f (place / 64) (place % 64)

unfoldable across_from : ℕ → ℕ
across_from place = within_from (apart four_from (apart eight_from place))

-- row for column
unfoldable across : ℕ → ℕ
across place = place % 16 * 16 + place / 16

across_all : every 256 (λ place. eqb (across_from place) (across place)) ≡ true
unfolding every across_from across apart within_from one_from two_from swap_from four_from eight_from rise_from sink_from bit
across_all = refl

turned_from : (m : Matrix) (place : ℕ) → cell (columns m) place ≡ cell m (across_from place)
unfolding columns across_from apart within_from cell
turned_from m place =
    let eight : ℕ = eight_from (place / 64) (place % 64) in
    let four : ℕ = four_from (eight / 64) (eight % 64) in
    eight_cell (by_four (within m)) (place / 64) (place % 64) (omega arith)
    ∙ four_cell (within m) (eight / 64) (eight % 64) (omega arith)
    ∙ within_cell m (four / 64) (four % 64) (omega arith)

turned_cell : (m : Matrix) (place : ℕ) → place < 256 → cell (columns m) place ≡ cell m (across place)
turned_cell m place h =
    turned_from m place
    ∙ ap (cell m) (eqb-true (across_from place) (across place) (every_at (λ x. eqb (across_from x) (across x)) 256 place h across_all))

-- ---- 16 rows

-- 16 digits of a number are those of the row that they are
field_digit : (m row s c : ℕ) → c < 16 → m / 2 ^ s % 2 ^ 16 ≡ row → bit m (s + c) ≡ bit row c
field_digit m row s c h e = sym (bit_shr m s c) ∙ sym (bit_low 16 (m / 2 ^ s) c h) ∙ ap (λ (x : ℕ). bit x c) e

four_digit : (row : ℕ → ℕ) (k t c : ℕ) → ((a : ℕ) → row a < 65536) → t < 4 → c < 16 → bit (four row k) (t * 16 + c) ≡ bit (row (k + t)) c
unfolding four
four_digit row k zero c b h l =
    let here : four row k / 2 ^ 0 % 2 ^ 16 ≡ row k = omega (arith, b k, b (k + 1), b (k + 2), b (k + 3)) in
    let at : k ≡ k + 0 = omega arith in
    field_digit (four row k) (row k) 0 c l here ∙ ap (λ (x : ℕ). bit (row x) c) at
four_digit row k (suc zero) c b h l =
    let here : four row k / 2 ^ 16 % 2 ^ 16 ≡ row (k + 1) = omega (arith, b k, b (k + 1), b (k + 2), b (k + 3)) in
    field_digit (four row k) (row (k + 1)) 16 c l here
four_digit row k (suc (suc zero)) c b h l =
    let here : four row k / 2 ^ 32 % 2 ^ 16 ≡ row (k + 2) = omega (arith, b k, b (k + 1), b (k + 2), b (k + 3)) in
    field_digit (four row k) (row (k + 2)) 32 c l here
four_digit row k (suc (suc (suc zero))) c b h l =
    let here : four row k / 2 ^ 48 % 2 ^ 16 ≡ row (k + 3) = omega (arith, b k, b (k + 1), b (k + 2), b (k + 3)) in
    field_digit (four row k) (row (k + 3)) 48 c l here
four_digit row k (suc (suc (suc (suc t)))) c b h l = absurd (omega arith)

pub four_lt : (row : ℕ → ℕ) (k : ℕ) → ((a : ℕ) → row a < 65536) → four row k < 2 ^ 64
unfolding four
four_lt row k b = omega (arith, b k, b (k + 1), b (k + 2), b (k + 3))

pub matrix_words : (row : ℕ → ℕ) (q : ℕ) → q < 4 → quarter (matrix_of row) q ≡ four row (q * 4)
unfolding matrix_of quarter
matrix_words row zero h = refl
matrix_words row (suc zero) h = refl
matrix_words row (suc (suc zero)) h = refl
matrix_words row (suc (suc (suc zero))) h = refl
matrix_words row (suc (suc (suc (suc q)))) h = absurd (omega arith)

pub matrix_cell : (row : ℕ → ℕ) (r c : ℕ) → ((a : ℕ) → row a < 65536) → r < 16 → c < 16 → cell (matrix_of row) (r * 16 + c) ≡ bit (row r) c
unfolding cell
matrix_cell row r c b h l =
    let word : (r * 16 + c) / 64 ≡ r / 4 = omega arith in
    let digit : (r * 16 + c) % 64 ≡ r % 4 * 16 + c = omega arith in
    let same : r / 4 * 4 + r % 4 ≡ r = omega arith in
    rw (word, digit, matrix_words row (r / 4) (omega arith))
    (four_digit row (r / 4 * 4) (r % 4) c b (omega arith) l ∙ ap (λ (x : ℕ). bit (row x) c) same)

-- ---- the same in every word

xor_none : (a b : ℕ) → bit_xor a b ≡ 0 → a ≡ b
xor_none a b e = omega (arith, xor_add_and a b, and_le_l a b, and_le_r a b)

or_none : (a b : ℕ) → bit_or a b ≡ 0 → (a ≡ 0) × (b ≡ 0)
or_none a b e = (omega (arith, or_add_and a b, and_le_l a b, and_le_r a b), omega (arith, or_add_and a b, and_le_l a b, and_le_r a b))

same_quarters : (m o : Matrix) → difference m o ≡ 0 → (q : ℕ) → quarter m q ≡ quarter o q
unfolding difference quarter
same_quarters m o e = go
  where
    x : ℕ → ℕ
    x q = bit_xor (quarter m q) (quarter o q)

    halves : (bit_or (x 0) (x 1) ≡ 0) × (bit_or (x 2) (x 3) ≡ 0)
    halves = or_none (bit_or (x 0) (x 1)) (bit_or (x 2) (x 3)) e

    go : (q : ℕ) → quarter m q ≡ quarter o q
    go zero = xor_none (quarter m 0) (quarter o 0) (or_none (x 0) (x 1) halves.0).0
    go (suc zero) = xor_none (quarter m 1) (quarter o 1) (or_none (x 0) (x 1) halves.0).1
    go (suc (suc zero)) = xor_none (quarter m 2) (quarter o 2) (or_none (x 2) (x 3) halves.1).0
    go (suc (suc (suc q))) = xor_none (quarter m 3) (quarter o 3) (or_none (x 2) (x 3) halves.1).1

-- ---- the same in every place

pub turned_lt : (m : Matrix) (q : ℕ) → quarter (columns m) q < 2 ^ 64
unfolding columns by_eight quarter risen sunk
turned_lt m zero = joined_lt (by_four (within m)).first ((by_four (within m)).third * 2 ^ 8 % 2 ^ 64) 71777214294589695 (omega arith)
turned_lt m (suc zero) = joined_lt (by_four (within m)).second ((by_four (within m)).fourth * 2 ^ 8 % 2 ^ 64) 71777214294589695 (omega arith)
turned_lt m (suc (suc zero)) = joined_lt (by_four (within m)).third ((by_four (within m)).first / 2 ^ 8) 18374966859414961920 (omega arith)
turned_lt m (suc (suc (suc q))) = joined_lt (by_four (within m)).fourth ((by_four (within m)).second / 2 ^ 8) 18374966859414961920 (omega arith)

pub same_words : (m o : Matrix) (q : ℕ) → q < 4 → quarter m q < 2 ^ 64 → quarter o q < 2 ^ 64
    → ((place : ℕ) → place < 256 → cell m place ≡ cell o place) → quarter m q ≡ quarter o q
same_words m o q h k l s =
    bit_ext (quarter m q) (quarter o q) (λ p. elim (dec_lt p 64) [
      | yes f ↦ sym (cell_at m q p f) ∙ s (q * 64 + p) (omega arith) ∙ cell_at o q p f
      | no f ↦ bit_above 64 (quarter m q) p k (omega arith) ∙ sym (bit_above 64 (quarter o q) p l (omega arith))
    ])

-- where nothing differs, all places are the same
pub same_cells : (m o : Matrix) → difference m o ≡ 0 → (place : ℕ) → cell m place ≡ cell o place
unfolding cell
same_cells m o e place = ap (λ (x : ℕ). bit x (place % 64)) (same_quarters m o e (place / 64))

pub quarters_same : (m o : Matrix) → ((q : ℕ) → q < 4 → quarter m q ≡ quarter o q) → difference m o ≡ 0
unfolding difference quarter
quarters_same m o s =
    let a : m.first ≡ o.first = s 0 (omega arith) in
    let b : m.second ≡ o.second = s 1 (omega arith) in
    let c : m.third ≡ o.third = s 2 (omega arith) in
    let e : m.fourth ≡ o.fourth = s 3 (omega arith) in
    rw (a, b, c, e, xor_self o.first, xor_self o.second, xor_self o.third, xor_self o.fourth)

-- a place of what is turned, by row and column
pub mirror : (m : Matrix) (r c : ℕ) → r < 16 → c < 16 → cell (columns m) (r * 16 + c) ≡ cell m (c * 16 + r)
unfolding across
mirror m r c h l =
    let at : (r * 16 + c) % 16 * 16 + (r * 16 + c) / 16 ≡ c * 16 + r = omega arith in
    turned_cell m (r * 16 + c) (omega arith) ∙ ap (cell m) at

-- ---- the rows of four words

-- word a of some before others
four_at : (x t : ℕ) (rest : List ℕ) → t < 4 → get_or (four_of x ++ rest) t 0 ≡ word_at x (t * 16)
unfolding four_of
four_at x zero rest h = refl
four_at x (suc zero) rest h = refl
four_at x (suc (suc zero)) rest h = refl
four_at x (suc (suc (suc zero))) rest h = refl
four_at x (suc (suc (suc (suc t)))) rest h = absurd (omega arith)

four_last : (x t : ℕ) → t < 4 → get_or (four_of x) t 0 ≡ word_at x (t * 16)
four_last x t h = ap (λ (l : List ℕ). get_or l t 0) (sym (append-nil (four_of x))) ∙ four_at x t [] h

four_past : (x k : ℕ) (rest : List ℕ) → get_or (four_of x ++ rest) (4 + k) 0 ≡ get_or rest k 0
unfolding four_of
four_past x k rest = get_or-append-add (word_at x 0 ∷ word_at x 16 ∷ word_at x 32 ∷ word_at x 48 ∷ []) rest k 0

rows_at : (m : Matrix) (q t : ℕ) → q < 4 → t < 4 → get_or (rows_of m) (q * 4 + t) 0 ≡ word_at (quarter m q) (t * 16)
unfolding rows_of quarter
rows_at m q t h k = go q h
  where
    last : List ℕ
    last = four_of m.fourth

    half : List ℕ
    half = four_of m.third ++ last

    rest : List ℕ
    rest = four_of m.second ++ half

    go : (q : ℕ) → q < 4 → get_or (four_of m.first ++ rest) (q * 4 + t) 0 ≡ word_at (quarter m q) (t * 16)
    go zero l = let e : zero * 4 + t ≡ t = omega arith in rw e (four_at m.first t rest k)
    go (suc zero) l = let e : suc zero * 4 + t ≡ 4 + t = omega arith in
        rw e (four_past m.first t rest ∙ four_at m.second t half k)
    go (suc (suc zero)) l = let e : suc (suc zero) * 4 + t ≡ 4 + (4 + t) = omega arith in
        rw e (four_past m.first (4 + t) rest ∙ four_past m.second t half ∙ four_at m.third t last k)
    go (suc (suc (suc zero))) l = let e : suc (suc (suc zero)) * 4 + t ≡ 4 + (4 + (4 + t)) = omega arith in
        rw e (four_past m.first (4 + (4 + t)) rest ∙ four_past m.second (4 + t) half ∙ four_past m.third t last ∙ four_last m.fourth t k)
    go (suc (suc (suc (suc q)))) l = absurd (omega arith)

row_at : (m : Matrix) (a : ℕ) → a < 16 → get_or (rows_of m) a 0 ≡ word_at (quarter m (a / 4)) (a % 4 * 16)
row_at m a h =
    let at : a ≡ a / 4 * 4 + a % 4 = omega arith in
    ap (λ (k : ℕ). get_or (rows_of m) k 0) at ∙ rows_at m (a / 4) (a % 4) (omega arith) (omega arith)

row_digit : (m : Matrix) (a b : ℕ) → a < 16 → b < 16 → bit (get_or (rows_of m) a 0) b ≡ cell m (a * 16 + b)
unfolding cell word_at
row_digit m a b h k =
    let word : (a * 16 + b) / 64 ≡ a / 4 = omega arith in
    let digit : (a * 16 + b) % 64 ≡ a % 4 * 16 + b = omega arith in
    rw (word, digit)
    (ap (λ (x : ℕ). bit x b) (row_at m a h) ∙ bit_low 16 (quarter m (a / 4) / 2 ^ (a % 4 * 16)) b k ∙ bit_shr (quarter m (a / 4)) (a % 4 * 16) b)

row_lt : (m : Matrix) (a : ℕ) → a < 16 → get_or (rows_of m) a 0 < 65536
unfolding word_at
row_lt m a h = rw (row_at m a h) (omega arith)

rows_long : (m : Matrix) → length (rows_of m) ≡ 16
unfolding rows_of four_of
rows_long m = refl

all_turned : (rows : List ℕ) → Words rows → Turned rows (rows_of (columns (matrix_of (row_in rows))))
unfolding row_in
all_turned rows w = record {
  long = rows_long (columns (matrix_of (row_in rows)));
  small = row_lt (columns (matrix_of (row_in rows)));
  mirror = λ a b h k.
      row_digit (columns (matrix_of (row_in rows))) a b h k ∙ mirror (matrix_of (row_in rows)) a b h k ∙ matrix_cell (row_in rows) b a w k h;
}

-- What is packed, turned and taken apart again is turned.
pub turned_made : (rows r : List ℕ) (m o : Matrix) → Words rows → m ≡ matrix_of (row_in rows) → o ≡ columns m → r ≡ rows_of o → Turned rows r
turned_made rows r m o w em eo er = rw (er, eo, em) (all_turned rows w)

-- Two that are turned of the same rows are the same.
pub turned_same : (rows r s : List ℕ) → Turned rows r → Turned rows s → r ≡ s
turned_same rows r s t u = ext_get_or 0 r s (t.long ∙ sym u.long) (λ a h.
    let l : a < 16 = omega (arith, t.long) in
    bit_ext (get_or r a 0) (get_or s a 0) (λ b. elim (dec_lt b 16) [
      | yes f ↦ t.mirror a b l f ∙ sym (u.mirror a b l f)
      | no f ↦ bit_above 16 (get_or r a 0) b (t.small a l) (omega arith) ∙ sym (bit_above 16 (get_or s a 0) b (u.small a l) (omega arith))
    ]))
