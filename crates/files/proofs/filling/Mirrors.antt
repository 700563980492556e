-- The masks in the words of a content, as the code reads them and puts them together.
-- Assumes nothing.
use mathlib.Core.Path.{◌≡◌, refl, sym, ap, ◌∙◌}
use mathlib.Core.Bool.{cond}
use mathlib.Core.List.{List, ◌++◌, map}
use Prim.Native.Nat.{ℕ, zero, suc, ◌+◌, ◌-◌, ◌*◌, ◌/◌, ◌^◌, ◌≤◌, ◌<◌}
use native.Mathlib.Omega.{arith}
use native.Mathlib.Nat.{mul-le-mul, zero-mul, zero-add, add-zero, add-suc}
use native.Mathlib.Numerals.{add-one}
use lib.ListN.{length, get_or, take, drop, replicate, length-drop, length-replicate, get_or-eq_default}
use lib.Seq.{get_or-take, get_or-drop, length-take-le}
use lib.Dec.{ltb}
use borrow.Author.Tests.{lt-ltb, le-ltb}
use Rattle.problem.specs.Masks.{bit}
use Rattle.problem.specs.Lists.{total, below, splice}
use Rattle.problem.proofs.mask.Masks.{bit_above}
use Rattle.problem.specs.Matrix.{Turned}
use Rattle.problem.proofs.Copies.{zeros_at, drop_zeros}
use Rattle.blocks.specs.Reading.{content_word}
use Rattle.files.specs.Reading.{said_n, said_d, said_allowed, triangle_words, triangle_place, gathered, agenda_from}
use Rattle.files.specs.Loops.Said.{Numbers, mask_in, allowed_in, column_of, column_part, pair_part, part_in, slots_part}
use Rattle.blocks.proofs.Lists.{map_is, map_same, padded_at}
use Rattle.files.proofs.Triangle.{place_lt}
use Rattle.files.proofs.Gathered.{gathered_same, gathered_bits}

-- ---- the pairs before those of i

-- Twice the pairs before those of i.
pairs_double : (n i : ℕ) → i ≤ n → total i (λ h. n - suc h) * 2 + i * (i + 1) ≡ n * i * 2
unfolding total
pairs_double n zero h = omega arith
pairs_double n (suc i) h = omega (arith, pairs_double n i (omega arith))

-- Their number worked out by a product, and that it fits.
pub record Pairs (n i : ℕ) : Type 0 where
  pub closed : n * i - i * (i + 1) / 2 ≡ total i (λ h. n - suc h)
  pub enough : i * (i + 1) / 2 ≤ n * i
  pub few : n * i ≤ 1024
  pub half : i * (i + 1) ≤ 2048

-- They are few enough to work out.
pub pairs : (n i : ℕ) → n ≤ 32 → i ≤ n → Pairs n i
pairs n i few h =
    let twice = pairs_double n i h in
    let low : i ≤ 32 = omega arith in
    let product : n * i ≤ 32 * 32 = mul-le-mul few low in
    record { closed = omega arith; enough = omega arith; few = omega arith; half = omega arith }

-- ---- the words of the tables

-- At most 32 × 31.
pub square_few : (n d : ℕ) → Numbers n d → n * (n - 1) ≤ 992
square_few n d s =
    let less : n - 1 ≤ 31 = omega (arith, s.variables) in
    let all : n * (n - 1) ≤ 32 * 31 = mul-le-mul s.variables less in
    omega arith

-- The words of the tables are at most 496 × 16.
pub triangle_few : (n d : ℕ) → Numbers n d → n * (n - 1) / 2 * d ≤ 7936
triangle_few n d s =
    let half : n * (n - 1) / 2 ≤ 496 = omega (arith, square_few n d s) in
    let all : n * (n - 1) / 2 * d ≤ 496 * 16 = mul-le-mul half s.values in
    omega arith

-- The words of slots are at most 512 × 34.
pub slots_few : (n k count : ℕ) → n ≤ 32 → k ≤ count → count ≤ 512 → k * (n + 2) ≤ 17408
slots_few n k count h l m =
    let few : k ≤ 512 = omega arith in
    let wide : n + 2 ≤ 34 = omega arith in
    mul-le-mul few wide

-- The masks of two variables stand within the content.
pub place_within : (n d i j p : ℕ) → Numbers n d → i < j → j < n → p ≡ total i (λ h. n - suc h) → 9 + n + (p + (j - (i + 1))) * d + d ≤ 7977
unfolding triangle_place
place_within n d i j p s h l e =
    let last : (total i (λ h. n - suc h) + (j - suc i)) * d + (d - 1) < triangle_words n d = place_lt n d i j (d - 1) h l
    (omega (arith, s.some_value)) in
    let same : (p + (j - (i + 1))) * d ≡ (total i (λ h. n - suc h) + (j - suc i)) * d = rw (e, add-one) refl in
    omega (arith, triangle_few n d s, s.variables, s.some_value)

-- Where they begin.
pub place_made : (n d i j p : ℕ) → p ≡ total i (λ h. n - suc h) → 9 + n + (p + (j - (i + 1))) * d ≡ 9 + n + triangle_place n d i j 0
unfolding triangle_place
place_made n d i j p e = rw (e, add-one) (omega arith)

-- ---- columns

-- Digits that are 0 add nothing.
gathered_less : (d k : ℕ) (f : ℕ → ℕ) → ((b : ℕ) → d ≤ b → f b ≡ 0) → gathered (d + k) f ≡ gathered d f
unfolding gathered total
gathered_less d zero f h = rw add-zero refl
gathered_less d (suc k) f h =
    let none : f (d + k) * 2 ^ (d + k) ≡ 0 = rw (h (d + k) (omega arith), zero-mul) refl in
    let more : gathered (d + k) f + f (d + k) * 2 ^ (d + k) ≡ gathered (d + k) f = rw none (add-zero (gathered (d + k) f)) in
    rw add-suc (more ∙ gathered_less d k f h)

module _ (rows all turned : List ℕ) (few : length rows ≤ 16) (e : all ≡ rows ++ replicate (16 - length rows) 0) (t : Turned all turned) where
  -- Digit b of a column.
  column_bit : (c b : ℕ) → c < 16 → b < 16 → bit (get_or turned c 0) b ≡ column_of rows c b
  unfolding column_of
  column_bit c b h l =
      t.mirror c b h l ∙ ap (λ (x : ℕ). bit x c) (ap (λ (x : List ℕ). get_or x b 0) e ∙ padded_at rows (16 - length rows) b)

  -- Past the rows it is 0.
  column_past : (c b : ℕ) → length rows ≤ b → column_of rows c b ≡ 0
  unfolding column_of
  column_past c b h = rw (get_or-eq_default rows 0 h) (bit_above 0 0 c (omega arith) (omega arith))

  -- A column is gathered of its digits.
  column_is : (c : ℕ) → c < 16 → get_or turned c 0 ≡ gathered (length rows) (column_of rows c)
  column_is c h =
      let whole : length rows + (16 - length rows) ≡ 16 = omega arith in
      sym (gathered_bits 16 (get_or turned c 0) (t.small c h)) ∙ gathered_same 16 (bit (get_or turned c 0)) (column_of rows c) (λ b l. column_bit c b h l)
      ∙ ap (λ (k : ℕ). gathered k (column_of rows c)) (sym whole) ∙ gathered_less (length rows) (16 - length rows) (column_of rows c) (column_past c)

  -- The first columns of the rows with zeros after them, rows for columns.
  columns_made : take (length rows) turned ≡ column_part rows (length rows)
  unfolding column_part
  columns_made =
      let size : length (take (length rows) turned) ≡ length rows = length-take-le (length rows) turned (omega (arith, t.long)) in
      sym (map_is (λ c. gathered (length rows) (column_of rows c)) (length rows) (take (length rows) turned) size
      (λ c q. sym (get_or-take (length rows) turned c 0 (omega arith) ∙ column_is c (omega arith))))

-- The rows are copied over zeros, turned, and the first columns written.
pub columns_put : (rows all turned l m : List ℕ) (at end : ℕ) → length rows ≤ 16 → all ≡ splice (replicate 16 0) 0 rows → Turned all turned
    → m ≡ splice l at (take (length rows) turned) → end ≡ at + length (take (length rows) turned)
    → (m ≡ splice l at (column_part rows (length rows))) × (end ≡ at + length rows)
unfolding splice
columns_put rows all turned l m at end few e t s is-end =
    let rest : drop {A = ℕ} (0 + length rows) (replicate 16 0) ≡ replicate (16 - length rows) 0 =
    ap (λ (k : ℕ). drop {A = ℕ} k (replicate 16 0)) (zero-add (length rows)) ∙ drop_zeros 16 (length rows) in (
      s ∙ ap (splice l at) (columns_made rows all turned few (e ∙ ap (λ (x : List ℕ). rows ++ x) rest) t),
      is-end ∙ ap (λ (k : ℕ). at + k) (length-take-le (length rows) turned (omega (arith, t.long))),
    )

-- ---- what is allowed

module _ (words : List ℕ) (n d i j : ℕ) where
  -- For i below j the mask stands there.
  allowed_above : (a : ℕ) → i < j → allowed_in words n d i j a ≡ mask_in words n d i j a
  unfolding allowed_in
  allowed_above a h = rw (lt-ltb i j h) refl

  -- For i above j it is gathered.
  allowed_below : (a : ℕ) → j < i → allowed_in words n d i j a ≡ gathered d (λ b. bit (mask_in words n d j i b) a)
  unfolding allowed_in
  allowed_below a h = rw (le-ltb i j (omega arith), lt-ltb j i h) refl

  -- Of i with itself nothing is allowed.
  pub allowed_self : (a : ℕ) → j ≤ i → i ≤ j → allowed_in words n d i j a ≡ 0
  unfolding allowed_in
  allowed_self a h l = rw (le-ltb i j h, le-ltb j i l) refl

-- That of the k-th variable after i.
pub mask_at : (words : List ℕ) (n d i k p x v : ℕ) → p ≡ total i (λ h. n - suc h) → x ≡ 9 + n + p * d + k * d + v
    → get_or words x 0 ≡ allowed_in words n d i (i + (1 + k)) v
unfolding mask_in triangle_place
mask_at words n d i k p x v is-p is_x =
    let back : i + (1 + k) - suc i ≡ k = omega arith in
    let place : x ≡ 9 + n + ((total i (λ h. n - suc h) + (i + (1 + k) - suc i)) * d + v) = is_x ∙ rw (is-p, back) (omega arith) in
    ap (λ (y : ℕ). get_or words y 0) place ∙ sym (allowed_above words n d i (i + (1 + k)) v (omega arith))

-- The words of a part.
pub part_at : (l : List ℕ) (at w k : ℕ) → k < w → get_or (take ((at + w) - at) (drop at l)) k 0 ≡ get_or l (at + k) 0
part_at l at w k h = get_or-take ((at + w) - at) (drop at l) k 0 (omega arith) ∙ get_or-drop at l k 0

-- A part is as long as it is to be.
pub part_long : (l : List ℕ) (at w : ℕ) → at + w ≤ length l → length (take ((at + w) - at) (drop at l)) ≡ w
part_long l at w h = length-take-le ((at + w) - at) (drop at l) (omega (arith, length-drop at l)) ∙ omega arith

module _ (words : List ℕ) (n d i j at : ℕ) (e : at ≡ 9 + n + triangle_place n d i j 0) where
  -- The masks for i below j stand one after the other.
  mask_row : (a : ℕ) → a < d → get_or (take ((at + d) - at) (drop at words)) a 0 ≡ mask_in words n d i j a
  unfolding mask_in triangle_place
  mask_row a h = part_at words at d a h ∙ ap (λ (k : ℕ). get_or words k 0) (omega arith)

  -- The other way round they are turned.
  pub pair_turned : (rows : List ℕ) → rows ≡ part_in words at d → length rows ≡ d → i < j → column_part rows (length rows) ≡ pair_part words n d j i d
  unfolding part_in pair_part column_part column_of
  pair_turned rows e size l =
      ap (λ (k : ℕ). map (λ c. gathered k (λ b. bit (get_or rows b 0) c)) (below k)) size
      ∙ map_same (λ c. gathered d (λ b. bit (get_or rows b 0) c)) (allowed_in words n d j i) d
      (λ c q. gathered_same d (λ b. bit (get_or rows b 0) c) (λ b. bit (mask_in words n d i j b) c)
      (λ b k. ap (λ (x : ℕ). bit x c) (ap (λ (x : List ℕ). get_or x b 0) e ∙ mask_row b k))
      ∙ sym (allowed_below words n d j i c l))

-- Of one with itself they are zeros.
pub pair_zeros : (words : List ℕ) (n d i j : ℕ) → j ≤ i → i ≤ j → replicate d 0 ≡ pair_part words n d i j d
unfolding pair_part
pair_zeros words n d i j h k =
    sym (map_is (allowed_in words n d i j) d (replicate d 0) (length-replicate d 0) (λ a q. allowed_self words n d i j a h k ∙ sym (zeros_at d a)))

-- ---- parts of the words

-- A part that was lent.
pub part_in_lem : (words out : List ℕ) (from w : ℕ) → out ≡ take ((from + w) - from) (drop from words) → out ≡ part_in words from w
unfolding part_in
part_in_lem words out from w e = e

-- Slots fit into memory, and zeros stand after them.
module _ (words slots : List ℕ) (n d m all : ℕ) (found : (slots ≡ part_in words (agenda_from n d) (m * (n + 2))) × (length slots ≡ m * (n + 2))) where
  pub slots_room : m * (n + 2) ≤ all → length slots ≤ all
  slots_room h = rw found.1 h

  pub slots_put : (out : List ℕ) → out ≡ slots ++ replicate (all - length slots) 0 → out ≡ slots_part words n d m all
  unfolding slots_part
  slots_put out s = s ∙ rw (found.1, found.0) refl

-- What the words allow at the numbers that the file says is what the file says.
pub allowed_said : (file words : List ℕ) → ((k : ℕ) → get_or words k 0 ≡ content_word file k) → (i j a : ℕ)
    → allowed_in words (said_n file) (said_d file) i j a ≡ said_allowed file i j a
unfolding said_allowed allowed_in mask_in
allowed_said file words says i j a =
    let n : ℕ = said_n file in
    let d : ℕ = said_d file in
    let read : (λ (k : ℕ). get_or words k 0) ≡ content_word file = λ t k. says k t in
    ap (λ (f : ℕ → ℕ). cond (ltb i j) (f (9 + n + triangle_place n d i j a))
    (cond (ltb j i) (gathered d (λ b. bit (f (9 + n + triangle_place n d j i b)) a)) 0)) read
