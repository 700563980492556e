-- The bits of many words together: they are below a bound, or zero, where each word is.
-- Assumes nothing.
use mathlib.Core.Path.{◌≡◌, refl, sym, ap, ◌∙◌}
use mathlib.Core.Bool.{Bool, true, false, ◌&&◌, and-true, or-true}
use mathlib.Core.List.{List}
use mathlib.Core.Logic.{⊎_elim}
use Prim.Native.Nat.{ℕ, zero, suc, ◌+◌, ◌-◌, ◌*◌, ◌/◌, ◌%◌, ◌^◌, ◌≤◌, ◌<◌}
use native.Mathlib.Omega.{arith}
use native.Mathlib.Decide.{ℕ_discrete, dec_lt}
use native.Mathlib.Numerals.{add-one}
use native.Mathlib.Nat.{le_antisymm, mul-le-mul, mul-le-mul_right, add-mul}
use lib.Arith.{lt-one}
use lib.Bits.{bit_or, or_lt}
use lib.Pow.{pow_pos, shr-shr}
use lib.Dec.{eqb, ltb}
use lib.ListN.{length, get_or, take, drop, length-take, length-drop}
use lib.Seq.{get_or-take, get_or-drop}
use borrow.Author.Tests.{lt-ltb, ltb-true, eq-eqb, eqb-true}
use Rattle.problem.specs.Masks.{bit}
use Rattle.problem.specs.Problem.{Table, table_of}
use Rattle.problem.specs.Lists.{every, row_in, joined}
use Rattle.problem.specs.Ranges.{Sized}
use Rattle.problem.proofs.tables.Ranges.{word_at}
use Rattle.problem.proofs.mask.Masks.{bit-bit_or, bit_above, bit_lt}
use Rattle.problem.proofs.Tests.{and_left, and_right, or_cases, every_at, every_all, same_test, and_both, every_same}
use Rattle.problem.specs.Loops.FirstTests.{domain_below, mask_below, pair_below, span_below, row_below}

-- a digit of a word shifted down
pub bit_shr : (m s p : ℕ) → bit (m / 2 ^ s) p ≡ bit m (s + p)
unfolding bit
bit_shr m s p = ap (λ (x : ℕ). x % 2) (shr-shr m s p)

-- ---- two words, then all

or_below : (w a b : ℕ) → bit_or a b < 2 ^ w → (a < 2 ^ w) × (b < 2 ^ w)
or_below w a b h = (
  bit_lt w a (λ v l. omega (arith, bit-bit_or a b v, bit_above w (bit_or a b) v h l)),
  bit_lt w b (λ v l. omega (arith, bit-bit_or a b v, bit_above w (bit_or a b) v h l)),
)

joined_lt : (w n : ℕ) (f : ℕ → ℕ) → ((i : ℕ) → i < n → f i < 2 ^ w) → joined n f < 2 ^ w
unfolding joined
joined_lt w zero f h = pow_pos w
joined_lt w (suc n) f h = or_lt w (joined n f) (f n) (joined_lt w n f (λ i l. h i (omega arith))) (h n (omega arith))

joined_each : (w n : ℕ) (f : ℕ → ℕ) → joined n f < 2 ^ w → (i : ℕ) → i < n → f i < 2 ^ w
unfolding joined
joined_each w zero f h i l = absurd (omega arith)
joined_each w (suc n) f h i l =
    let both = or_below w (joined n f) (f n) h in
    elim (ℕ_discrete i n) [ yes e ↦ rw e both.1 | no e ↦ joined_each w n f both.0 i (omega arith) ]

-- the bound of all is the bound of each
pub joined_below : (w n : ℕ) (f : ℕ → ℕ) → ltb (joined n f) (2 ^ w) ≡ every n (λ i. ltb (f i) (2 ^ w))
joined_below w n f =
    same_test (ltb (joined n f) (2 ^ w)) (every n (λ i. ltb (f i) (2 ^ w)))
    (λ e. every_all (λ i. ltb (f i) (2 ^ w)) n (λ i l. lt-ltb (f i) (2 ^ w) (joined_each w n f (ltb-true (joined n f) (2 ^ w) e) i l)))
    (λ e. lt-ltb (joined n f) (2 ^ w) (joined_lt w n f (λ i l. ltb-true (f i) (2 ^ w) (every_at (λ x. ltb (f x) (2 ^ w)) n i l e))))

-- below 2 ^ 0 is zero
pub joined_zero : (n : ℕ) (f : ℕ → ℕ) → eqb (joined n f) 0 ≡ every n (λ i. eqb (f i) 0)
joined_zero n f =
    same_test (eqb (joined n f) 0) (every n (λ i. eqb (f i) 0))
    (λ e.
    let none : joined n f < 2 ^ 0 = omega (arith, eqb-true (joined n f) 0 e) in
    every_all (λ i. eqb (f i) 0) n (λ i l. eq-eqb (f i) 0 (lt-one (joined_each 0 n f none i l))))
    (λ e.
    let each : (i : ℕ) → i < n → f i < 2 ^ 0 = λ i l. omega (arith, eqb-true (f i) 0 (every_at (λ x. eqb (f x) 0) n i l e)) in
    eq-eqb (joined n f) 0 (lt-one (joined_lt 0 n f each)))

pub joined_none : (f : ℕ → ℕ) → 0 ≡ joined 0 f
unfolding joined
joined_none f = refl

-- one word more
pub joined_more : (f : ℕ → ℕ) (k x b : ℕ) → b ≡ joined k f → x ≡ f k → bit_or b x ≡ joined (k + 1) f
unfolding joined
joined_more f k x b e h = rw (add-one, e, h)

pub joined_end : (f : ℕ → ℕ) (n k b : ℕ) → k ≤ n → n ≤ k → b ≡ joined k f → b ≡ joined n f
joined_end f n k b h l e = e ∙ ap (λ (x : ℕ). joined x f) (le_antisymm h l)

-- ---- words as they stand

-- no domain has a bit at d or above
pub domains_found : (n d : ℕ) (domains : List ℕ) (b : ℕ) (r : Bool) → length domains ≡ n → b ≡ joined (length domains) (row_in domains)
    → r ≡ ltb b (2 ^ d) → r ≡ every n (domain_below d domains)
unfolding domain_below row_in
domains_found n d domains b r l e h =
    h ∙ ap (λ (x : ℕ). ltb x (2 ^ d)) (e ∙ ap (λ (k : ℕ). joined k (row_in domains)) l) ∙ joined_below d n (row_in domains)

-- ---- the masks of one variable with some in a row

and_assoc : (a b c : Bool) → ((a && b) && c) ≡ (a && (b && c))
and_assoc true b c = refl
and_assoc false b c = refl

every_add : (m n : ℕ) (f : ℕ → Bool) → every (m + n) f ≡ (every m f && every n (λ k. f (m + k)))
unfolding every
every_add m zero f = let e : m + 0 ≡ m = omega arith in rw (e, and-true)
every_add m (suc n) f =
    let e : m + suc n ≡ suc (m + n) = omega arith in
    rw (e, every_add m n f) (and_assoc (every m f) (every n (λ k. f (m + k))) (f (m + n)))

-- block by block
every_blocks : (c d : ℕ) (f : ℕ → Bool) → every (c * d) f ≡ every c (λ j. every d (λ a. f (j * d + a)))
unfolding every
every_blocks zero d f = let e : 0 * d ≡ 0 = omega arith in rw e
every_blocks (suc c) d f =
    let e : suc c * d ≡ c * d + d = omega arith in
    rw (e, every_add (c * d) d f, every_blocks c d f)

-- a span lies within the tables
pub record Span (n d i from to words : ℕ) : Type 0 where
  pub row : i * n ≤ 1024
  pub start : (i * n + from) * d ≤ (i * n + to) * d
  pub end : (i * n + to) * d ≤ words
  pub few : words ≤ 16384

pub in_span : (n d i from to : ℕ) (t : List ℕ) → Sized n d t → i < n → from ≤ to → to ≤ n → Span n d i from to (length t)
in_span n d i from to t s h k l =
    let square : n * n ≤ 32 * 32 = mul-le-mul s.few s.few in
    let all : n * n * d ≤ 1024 * 16 = mul-le-mul square s.small in
    let up : i * n + n ≤ n * n = omega (arith, mul-le-mul_right n h) in
    let first : (i * n + from) * d ≤ (i * n + to) * d = mul-le-mul_right d (omega arith) in
    let last : (i * n + to) * d ≤ n * n * d = mul-le-mul_right d (omega arith) in
    record { row = omega arith; start = first; end = omega (arith, s.words); few = omega (arith, s.words) }

pub span_found : (n d i from to : ℕ) (t : List ℕ) (b : ℕ) (r : Bool) → Span n d i from to (length t) → from ≤ to
    → b ≡ joined (length (take ((i * n + to) * d - (i * n + from) * d) (drop ((i * n + from) * d) t))) (row_in (take ((i * n + to) * d - (i * n + from) * d) (drop ((i * n + from) * d) t)))
    → r ≡ ltb b (2 ^ d) → r ≡ span_below d (table_of n d t) i from (to - from)
unfolding span_below mask_below row_in
span_found n d i from to t b r s h e q =
    let start : ℕ = (i * n + from) * d in
    let count : ℕ = to - from in
    let part : List ℕ = take ((i * n + to) * d - start) (drop start t) in
    let wide : (i * n + to) * d - start ≡ count * d = apart in
    let long : length part ≡ count * d = simp (length-take, length-drop) (omega (arith, s.end, s.start)) in
    q ∙ ap (λ (x : ℕ). ltb x (2 ^ d)) e ∙ joined_below d (length part) (row_in part)
    ∙ ap (λ (k : ℕ). every k (λ x. ltb (get_or part x 0) (2 ^ d))) long
    ∙ every_same (λ x. ltb (get_or part x 0) (2 ^ d)) (λ x. ltb (get_or t (start + x) 0) (2 ^ d)) (count * d)
    (λ x l. ap (λ (y : ℕ). ltb y (2 ^ d)) (get_or-take ((i * n + to) * d - start) (drop start t) x 0 (omega arith) ∙ get_or-drop start t x 0))
    ∙ every_blocks count d (λ x. ltb (get_or t (start + x) 0) (2 ^ d))
    ∙ every_same (λ k. every d (λ a. ltb (get_or t (start + (k * d + a)) 0) (2 ^ d))) (λ k. every d (λ a. ltb (table_of n d t i (from + k) a) (2 ^ d)))
    count
    (λ k l. every_same (λ a. ltb (get_or t (start + (k * d + a)) 0) (2 ^ d)) (λ a. ltb (table_of n d t i (from + k) a) (2 ^ d)) d
    (λ a m. ap (λ (y : ℕ). ltb y (2 ^ d)) (ap (λ (y : ℕ). get_or t y 0) (place k a) ∙ sym (word_at n d t i (from + k) a m))))
  where
    apart : (i * n + to) * d - (i * n + from) * d ≡ (to - from) * d
    apart =
        let same : i * n + to ≡ i * n + from + (to - from) = omega arith in
        let wide : (i * n + to) * d ≡ (i * n + from) * d + (to - from) * d = ap (λ (x : ℕ). x * d) same ∙ add-mul (i * n + from) (to - from) d in
        omega arith

    place : (k a : ℕ) → (i * n + from) * d + (k * d + a) ≡ (i * n + (from + k)) * d + a
    place k a =
        let same : i * n + (from + k) ≡ i * n + from + k = omega arith in
        let wide : (i * n + (from + k)) * d ≡ (i * n + from) * d + k * d = ap (λ (x : ℕ). x * d) same ∙ add-mul (i * n + from) k d in
        omega arith

-- those before the variable and those after it are all others
row_spans : (n d : ℕ) (allowed : Table) (i : ℕ) → i < n
    → (span_below d allowed i 0 (i - 0) && span_below d allowed i (i + 1) (n - (i + 1))) ≡ row_below n d allowed i
unfolding span_below row_below pair_below
row_spans n d allowed i h =
    same_test (every (i - 0) before && every (n - (i + 1)) after) (every n (pair_below d allowed i))
    (λ e. every_all (pair_below d allowed i) n (λ j l. elim (dec_lt j i) [
      | yes m ↦
          simp (at j (every_at before (i - 0) j (omega arith) (and_left (every (i - 0) before) (every (n - (i + 1)) after) e)) (omega arith), or-true)
      | no m ↦ elim (ℕ_discrete i j) [
        | yes s ↦ simp (eq-eqb i j s)
        | no s ↦
            simp (
              at j (every_at after (n - (i + 1)) (j - (i + 1)) (omega arith) (and_right (every (i - 0) before) (every (n - (i + 1)) after) e))
                  (omega arith),
              or-true,
            )
      ]
    ]))
    (λ e. and_both (every (i - 0) before) (every (n - (i + 1)) after)
    (every_all before (i - 0) (λ k l. other e (0 + k) (omega arith) (λ s. absurd (omega arith))))
    (every_all after (n - (i + 1)) (λ k l. other e (i + 1 + k) (omega arith) (λ s. absurd (omega arith)))))
  where
    row : ℕ → Bool
    row j = every d (mask_below d allowed i j)

    before : ℕ → Bool
    before k = every d (mask_below d allowed i (0 + k))

    after : ℕ → Bool
    after k = every d (mask_below d allowed i (i + 1 + k))

    at : (j : ℕ) {k : ℕ} → row k ≡ true → k ≡ j → row j ≡ true
    at j e s = rw s at e

    other : every n (pair_below d allowed i) ≡ true → (j : ℕ) → j < n → (i ≡ j → ⊥) → row j ≡ true
    other e j l f = ⊎_elim (λ s. absurd (f (eqb-true i j s))) (λ s. s) (or_cases (eqb i j) (row j) (every_at (pair_below d allowed i) n j l e))

pub row_stop : (n d : ℕ) (allowed : Table) (i : ℕ) (b : Bool) → i < n → b ≡ span_below d allowed i 0 (i - 0) → b ≡ false
    → b ≡ row_below n d allowed i
row_stop n d allowed i b h e y = y ∙ rw (sym e ∙ y) at (row_spans n d allowed i h)

pub row_last : (n d : ℕ) (allowed : Table) (i : ℕ) (b r : Bool) → i < n → b ≡ span_below d allowed i 0 (i - 0) → b ≡ true
    → r ≡ span_below d allowed i (i + 1) (n - (i + 1)) → r ≡ row_below n d allowed i
row_last n d allowed i b r h e y s = s ∙ (rw (sym e ∙ y) at (row_spans n d allowed i h))
