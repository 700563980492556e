-- Sets of variables in halves, words kept by their lanes, and the piece for a variable, as the loops over 32 masks make them.
-- Assumes nothing.
use mathlib.Core.Path.{◌≡◌, refl, sym, ap, ◌∙◌}
use mathlib.Core.Bool.{true, cond}
use mathlib.Core.List.{List, ◌++◌}
use Prim.Native.Nat.{ℕ, ◌+◌, ◌-◌, ◌*◌, ◌/◌, ◌%◌, ◌^◌, ◌≤◌, ◌<◌, min, max}
use native.Mathlib.Omega.{arith}
use native.Mathlib.Decide.{dec_lt, ℕ_discrete}
use lib.ListN.{length, get_or, set, take, drop, replicate, length-set, length-append, length-take, length-drop, length-replicate, get_or-append, get_or-replicate}
use lib.Seq.{length-take-le, get_or-set_same, get_or-set_other, get_or-take, get_or-append-add, take-take, ext_get_or}
use lib.Bits.{bit_or, or_zero_r}
use lib.Dec.{eqb, leb}
use borrow.Author.Tests.{eqb-true, le-leb, lt-leb}
use Rattle.problem.specs.Masks.{bit, common, size}
use Rattle.problem.specs.Lists.{every}
use Rattle.problem.proofs.mask.Masks.{bit_le, bit_ext, bit_above, bit_common, bit-bit_or, all_set, all_common, common_none}
use Rattle.problem.proofs.Tests.{every_at}
use Rattle.search.specs.Agenda.{holding, subproblem_of, slot_at}
use Rattle.search.specs.Loops.Slots.{SlotIn}
use Rattle.search.specs.Loops.Lanes.{Half, Beyond, Below, Kept, KeptTo, key_of, Widened}
use Rattle.problem.proofs.Copies.{drop_zeros, zeros_at}
use Rattle.search.proofs.Encoding.{slot_lies}
use Rattle.problem.proofs.first_checks.Joining.{bit_shr}
use Rattle.problem.proofs.matrix.Turning.{bit_low}

-- ---- sets

-- A half of a set.
pub half_is : (set from : ℕ) → Half set from (set / 2 ^ from % 65536)
half_is set from i h = bit_low 16 (set / 2 ^ from) i h ∙ bit_shr set from i

-- A key by its half.
pub key_in : (set from half m i : ℕ) → Half set from half → i < 16 → (v : ℕ) → v ≡ from + i → (k : ℕ) → k ≡ size m * 32 + v + 1024 * bit half i
    → k ≡ key_of m set v
unfolding key_of
key_in set from half m i e h v s k f = f ∙ rw (e i h, ← s) refl

-- The set from each variable on, digit by digit.
all_beyond : every 33 (λ i. every 32 (λ j. eqb (bit (4294967296 - 2 ^ i) j) (cond (leb i j) 1 0))) ≡ true
unfolding every bit
all_beyond = refl

pub beyond_is : (i : ℕ) → i ≤ 32 → Beyond i (4294967296 - 2 ^ i)
beyond_is i h = record {
  before = λ j l. at j (omega arith) ∙ rw (lt-leb i j l) refl;
  after = λ j l k. at j k ∙ rw (le-leb i j l) refl;
}
  where
    at : (j : ℕ) → j < 32 → bit (4294967296 - 2 ^ i) j ≡ cond (leb i j) 1 0
    at j k =
        eqb-true _ _ (every_at (λ j. eqb (bit (4294967296 - 2 ^ i) j) (cond (leb i j) 1 0)) 32 j k
        (every_at (λ i. every 32 (λ j. eqb (bit (4294967296 - 2 ^ i) j) (cond (leb i j) 1 0))) 33 i (omega arith) all_beyond))

-- ---- lanes

-- The first lanes filled.
pub below_is : (n : ℕ) → n ≤ 32 → Below n (replicate n 65535 ++ drop n (replicate 32 0))
below_is n h = record {
  long = simp (length-append, length-replicate, length-drop) (omega arith);
  all = λ i k. get_or-append (replicate n 65535) (drop n (replicate 32 0)) 0 i (simp length-replicate k) ∙ get_or-replicate n i 65535 0 k;
  none = λ i k.
      let up : i ≡ length {A = ℕ} (replicate n 65535) + (i - n) = simp length-replicate (omega arith) in
      ap (λ (x : ℕ). get_or (replicate n 65535 ++ drop n (replicate 32 0)) x 0) up
      ∙ get_or-append-add (replicate n 65535) (drop n (replicate 32 0)) (i - n) 0 ∙ rw (drop_zeros 32 n) (zeros_at (32 - n) (i - n));
}

-- One word more kept.
pub kept_more : (lanes words r : List ℕ) (i x : ℕ) → KeptTo lanes words i r → i < 32 → Kept (get_or words i 0) (get_or lanes i 0) x
    → KeptTo lanes words (i + 1) (set r i x)
kept_more lanes words r i x k h e = record {
  long = length-set r i x ∙ k.long;
  each = λ j l. elim (ℕ_discrete j i) [
    | yes s ↦ rw (s, get_or-set_same r i x 0 (omega (arith, k.long))) e
    | no s ↦ rw (get_or-set_other r i j x 0 s) (k.each j (omega arith))
  ];
}

-- A word kept by all bits, and by none.
pub kept_is : (x lane : ℕ) → x < 2 ^ 16 → Kept x lane (common x lane)
kept_is x lane h = (λ e. rw e (all_common 16 x h), λ e. rw e (common_none x))

-- All of them kept are the domains that a slot holds.
pub kept_holding : (n marked : ℕ) (lanes words D : List ℕ) → n ≤ 32 → n ≤ length words → Below n lanes → KeptTo lanes words 32 D
    → record { domains = D; marked = marked } ≡ holding n words marked
unfolding holding
kept_holding n marked lanes words D few h b k = λ t. record { domains = same t; marked = marked }
  where
    whole : length (take n words) ≡ n
    whole = length-take-le n words h

    both : length D ≡ length (take n words ++ replicate {A = ℕ} (32 - n) 0)
    both = k.long ∙ rw (length-append, whole, length-replicate) (omega arith)

    at : (i : ℕ) → i < length D → get_or D i 0 ≡ get_or (take n words ++ replicate (32 - n) 0) i 0
    at i l = elim (dec_lt i n) [
      | yes q ↦
          (k.each i (omega (arith, k.long))).0 (b.all i q) ∙ sym
          (get_or-append (take n words) (replicate (32 - n) 0) 0 i (omega (arith, whole)) ∙ get_or-take n words i 0 q)
      | no q ↦
          let up : i ≡ length (take n words) + (i - n) = omega (arith, whole) in
          (k.each i (omega (arith, k.long))).1 (b.none i (omega arith))
          ∙ sym
          (ap (λ (x : ℕ). get_or (take n words ++ replicate (32 - n) 0) x 0) up ∙ get_or-append-add (take n words) (replicate (32 - n) 0) (i - n) 0 ∙
          zeros_at (32 - n) (i - n))
    ]

    same : D ≡ take n words ++ replicate (32 - n) 0
    same = ext_get_or 0 _ _ both at

-- So they are of the words of slot k and those after it.
pub slot_lanes : (n k : ℕ) (agenda lanes D : List ℕ) (m : ℕ) → SlotIn n k (length agenda) → k * (n + 2) + 32 ≤ length agenda → Below n lanes
    → KeptTo lanes (take ((k * (n + 2) + 32) - k * (n + 2)) (drop (k * (n + 2)) agenda)) 32 D
    → m ≡ get_or agenda (k * (n + 2) + n) 0 * 65536 + get_or agenda (k * (n + 2) + n + 1) 0 → record { domains = D; marked = m } ≡ subproblem_of n (slot_at n agenda k)
slot_lanes n k agenda lanes D m slot fits b kept e =
    let long : (k * (n + 2) + 32) - k * (n + 2) ≡ 32 = omega arith in
    let inside : n ≤ length (take ((k * (n + 2) + 32) - k * (n + 2)) (drop (k * (n + 2)) agenda)) = rw (long, length-take, length-drop)
    (omega (arith, slot.few)) in
    kept_holding n m lanes _ D slot.few inside b kept ∙ slot_lies n k m agenda _ (rw long (take-take n 32 (drop (k * (n + 2)) agenda) slot.few))
    e

-- ---- the piece for a variable

-- A mask that stays by no bits, and is all bits by all.
pub widened_is : (mask lane : ℕ) → Widened mask lane (bit_or mask lane)
widened_is mask lane = (
  λ e. rw (e, or_zero_r) refl,
  λ e m h. rw e (bit_ext (common m (bit_or mask 65535)) m (λ v. rw (bit_common, bit-bit_or) (whole m h v))),
)
  where
    whole : (m : ℕ) → m < 65536 → (v : ℕ) → min (bit m v) (max (bit mask v) (bit 65535 v)) ≡ bit m v
    whole m h v = elim (dec_lt v 16) [
      | yes k ↦ let all : bit 65535 v ≡ 1 = all_set 16 v k in rw all (omega (arith, bit_le m v, bit_le mask v))
      | no k ↦ rw (bit_above 16 m v h (omega arith)) (omega arith)
    ]
