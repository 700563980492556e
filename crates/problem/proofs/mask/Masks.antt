-- The laws of masks as sets of values, over any width: a mask by its digits, its size, its parts, its lowest values.
-- Assumes nothing.
use mathlib.Core.Path.{◌≡◌, refl, sym, ap, ◌∙◌}
use mathlib.Core.Logic.{◌≢◌}
use Prim.Native.Nat.{ℕ, zero, suc, ◌+◌, ◌-◌, ◌/◌, ◌%◌, ◌^◌, ◌≤◌, ◌<◌, min, max, ◌*◌}
use native.Mathlib.Omega.{arith}
use native.Mathlib.Nat.{div-one, div-eq_of_lt, lt_of_lt_of_le, lt_of_not-le, one-mul, mod-eq_of_lt}
use native.Mathlib.Numerals.{one-add}
use native.Mathlib.Decide.{ℕ_discrete}
use lib.Arith.{lt-one, bin_ind}
use lib.Bits.{bit_and, bit_or, and_step, or_step, and_le_l, and_self, and_zero_l, and_zero_r, or_disjoint}
use lib.Count.{ones, ones_step, count_trailing_zeros, under}
use lib.Pow.{pow_mono, pow-lt, pow_pos, shr-shr}
use borrow.Author.Tests.{lt-ltb}
use Rattle.problem.specs.Calls.{Only}
use Rattle.problem.specs.Masks.{bit, ◌∈◌, Part, single, common, minus, all_values, size, lowest, lowest_of, smallest_of, smaller_half_of}

-- ---- a mask by its digits

pub bit_zero : (m : ℕ) → bit m 0 ≡ m % 2
unfolding bit
bit_zero m = ap (λ (x : ℕ). x % 2) (div-one m)

pub bit_suc : (m v : ℕ) → bit m (suc v) ≡ bit (m / 2) v
unfolding bit
bit_suc m v = rw (shr-shr m 1 v, one-add)

pub bit_le : (m v : ℕ) → bit m v ≤ 1
unfolding bit
bit_le m v = omega arith

pub bit_outside : (m v : ℕ) → (v ∈ m → ⊥) → bit m v ≡ 0
bit_outside m v f = omega (arith, bit_le m v)

pub bit_none : (v : ℕ) → bit 0 v ≡ 0
bit_none zero = bit_zero 0
bit_none (suc v) = bit_suc 0 v ∙ bit_none v

-- by recursion on a bound f of both
ext : (f a b : ℕ) → a ≤ f → b ≤ f → ((v : ℕ) → bit a v ≡ bit b v) → a ≡ b
ext zero a b k l h = omega arith
ext (suc f) a b k l h =
    let e : a / 2 ≡ b / 2 = ext f (a / 2) (b / 2) (omega arith) (omega arith) (λ v. sym (bit_suc a v) ∙ h (suc v) ∙ bit_suc b v) in
    omega (arith, bit_zero a, bit_zero b, h 0)

-- Masks with the same members are the same.
pub bit_ext : (a b : ℕ) → ((v : ℕ) → bit a v ≡ bit b v) → a ≡ b
bit_ext a b = ext (a + b) a b (omega arith) (omega arith)

pub bit_above : (w m v : ℕ) → m < 2 ^ w → w ≤ v → bit m v ≡ 0
unfolding bit
bit_above w m v h l = ap (λ (x : ℕ). x % 2) (div-eq_of_lt (lt_of_lt_of_le h (pow_mono l)))

-- An operation that works digit by digit, the lowest as `g` does, works as `g` at every value.
digitwise : (f g : ℕ → ℕ → ℕ) → ((a b : ℕ) → f a b / 2 ≡ f (a / 2) (b / 2)) → ((a b : ℕ) → f a b % 2 ≡ g (a % 2) (b % 2))
    → (a b v : ℕ) → bit (f a b) v ≡ g (bit a v) (bit b v)
digitwise f g half odd a b zero = simp bit_zero (odd a b)
digitwise f g half odd a b (suc v) = simp (bit_suc, half) (digitwise f g half odd (a / 2) (b / 2) v)

common_half : (a b : ℕ) → bit_and a b / 2 ≡ bit_and (a / 2) (b / 2)
common_half a b = omega (arith, and_step a b)

common_odd : (a b : ℕ) → bit_and a b % 2 ≡ min (a % 2) (b % 2)
common_odd a b = omega (arith, and_step a b)

pub bit_common : (a b v : ℕ) → bit (common a b) v ≡ min (bit a v) (bit b v)
bit_common = digitwise bit_and min common_half common_odd

minus_half : (a b : ℕ) → minus a b / 2 ≡ minus (a / 2) (b / 2)
unfolding minus
minus_half a b = omega (arith, and_step a b, and_le_l (a / 2) (b / 2))

minus_odd : (a b : ℕ) → minus a b % 2 ≡ a % 2 - b % 2
unfolding minus
minus_odd a b = omega (arith, and_step a b, and_le_l (a / 2) (b / 2))

pub bit_minus : (a b v : ℕ) → bit (minus a b) v ≡ bit a v - bit b v
bit_minus = digitwise minus ◌-◌ minus_half minus_odd

pub bit_split : (a b v : ℕ) → bit (common a b) v + bit (minus a b) v ≡ bit a v
bit_split a b v = omega (arith, bit_common a b v, bit_minus a b v)

pub bit-bit_or : (a b v : ℕ) → bit (bit_or a b) v ≡ max (bit a v) (bit b v)
bit-bit_or = digitwise bit_or max (λ a b. omega (arith, or_step a b)) (λ a b. omega (arith, or_step a b))

single_half : (v : ℕ) → 2 ^ suc v / 2 ≡ 2 ^ v
single_half v = omega arith

single_even : (v : ℕ) → 2 ^ suc v % 2 ≡ 0
single_even v = omega arith

pub bit_single_same : (v : ℕ) → bit (single v) v ≡ 1
bit_single_same zero = bit_zero 1
bit_single_same (suc v) = rw (bit_suc, single_half v) (bit_single_same v)

pub bit_single_other : (v u : ℕ) → (u ≡ v → ⊥) → bit (single v) u ≡ 0
bit_single_other zero zero h = absurd (h refl)
bit_single_other zero (suc u) h = bit_suc 1 u ∙ bit_none u
bit_single_other (suc v) zero h = bit_zero (single (suc v)) ∙ single_even v
bit_single_other (suc v) (suc u) h = rw (bit_suc, single_half v) (bit_single_other v u (λ e. h (ap suc e)))

pub common_none : (a : ℕ) → common a 0 ≡ 0
common_none = and_zero_r

pub none_common : (b : ℕ) → common 0 b ≡ 0
none_common = and_zero_l

pub minus_self : (a : ℕ) → minus a a ≡ 0
unfolding minus
minus_self a = omega (arith, and_self a)

pub none_minus : (b : ℕ) → minus 0 b ≡ 0
unfolding minus
none_minus b = refl

-- A mask with no member from w on is one of w digits.
pub bit_lt : (w m : ℕ) → ((v : ℕ) → w ≤ v → bit m v ≡ 0) → m < 2 ^ w
bit_lt zero m h =
    let e : m ≡ 0 = bit_ext m 0 (λ v. omega (arith, h v (omega arith), bit_none v)) in
    omega arith
bit_lt (suc w) m h =
    let l : m / 2 < 2 ^ w = bit_lt w (m / 2) (λ v l. sym (bit_suc m v) ∙ h (suc v) (omega arith)) in
    omega arith

flip_half : (w b : ℕ) → b < 2 ^ suc w → (2 ^ suc w - 1 - b) / 2 ≡ 2 ^ w - 1 - b / 2
flip_half w b h = omega arith

flip_odd : (w b : ℕ) → b < 2 ^ suc w → (2 ^ suc w - 1 - b) % 2 ≡ 1 - b % 2
flip_odd w b h = omega arith

-- All of d digits set: every value below d is a member.
pub all_set : (d v : ℕ) → v < d → v ∈ (2 ^ d - 1)
all_set zero v l = omega arith
all_set (suc d) zero l = bit_zero _ ∙ omega (arith, pow_pos d)
all_set (suc d) (suc v) l =
    let half : (2 ^ suc d - 1) / 2 ≡ 2 ^ d - 1 = omega (arith, pow_pos d) in
    bit_suc _ v ∙ ap (λ (m : ℕ). bit m v) half ∙ all_set d v (omega arith)

-- numbers with the same lowest digit and the same rest are the same
halves : (a b : ℕ) → a / 2 ≡ b / 2 → a % 2 ≡ b % 2 → a ≡ b
halves a b h o = omega arith

flip_min : (a b : ℕ) → min (a % 2) (1 - b % 2) ≡ a % 2 - b % 2
flip_min a b = omega arith

-- `a & !b`, in a word of w digits
pub not_minus : (w a b : ℕ) → a < 2 ^ w → b < 2 ^ w → bit_and a ((2 ^ w - 1) - b) ≡ minus a b
not_minus zero a b h k = rw (lt-one h) (sym (none_minus b))
not_minus (suc w) a b h k =
    halves _ _
    (common_half a _ ∙ ap (bit_and (a / 2)) (flip_half w b k) ∙ not_minus w (a / 2) (b / 2) (omega arith) (omega arith) ∙ sym (minus_half a b))
    (common_odd a _ ∙ ap (min (a % 2)) (flip_odd w b k) ∙ flip_min a b ∙ sym (minus_odd a b))

-- a mask cut to all values of its width stays, and has nothing outside them
pub all_common : (w x : ℕ) → x < 2 ^ w → common x (all_values w) ≡ x
unfolding minus
all_common w x h = let whole : (2 ^ w - 1) - 0 ≡ 2 ^ w - 1 = omega arith in rw whole at (not_minus w x 0 h (pow_pos w)) ∙ rw (common_none x) (omega arith)

pub all_minus : (w x : ℕ) → x < 2 ^ w → minus x (all_values w) ≡ 0
unfolding minus
all_minus w x h = rw (all_common w x h) (omega arith)

pub single_lt : (w v : ℕ) → v < w → single v < 2 ^ w
single_lt w v h = pow-lt h

-- ---- the size

pub size_of_none : size 0 ≡ 0
unfolding ones
size_of_none = refl

pub size_split : (a b : ℕ) → size (common a b) + size (minus a b) ≡ size a
size_split =
    bin_ind (λ (a : ℕ). (b : ℕ) → size (common a b) + size (minus a b) ≡ size a) (λ b. rw none_minus (omega (arith, size_of_none)))
    (λ a ih b. omega (
      arith,
      ih (b / 2),
      ones_step a,
      common_odd a b,
      minus_odd a b,
      rw (common_half a b) at (ones_step (bit_and a b)),
      rw (minus_half a b) at (ones_step (minus a b)),
    ))

pub size_single : (v : ℕ) → size (single v) ≡ 1
size_single zero = omega (arith, ones_step 1, size_of_none)
size_single (suc v) = rw (ones_step, single_half v, single_even v) (omega (arith, size_single v))

pub size_none : (m : ℕ) → size m ≡ 0 → m ≡ 0
size_none =
    bin_ind (λ (m : ℕ). size m ≡ 0 → m ≡ 0) (λ h. refl)
    (λ m ih h. omega (arith, ones_step m, ih (omega (arith, ones_step m))))

pub size_some : (m : ℕ) → (m ≡ 0 → ⊥) → 1 ≤ size m
size_some m h = lt_of_not-le (λ l. h (size_none m (omega arith)))

-- ---- members

pub member_some : (m v : ℕ) → v ∈ m → m ≡ 0 → ⊥
member_some m v h e = omega (arith, bit_none v, rw e at h)

-- The zeros below the lowest member are as many as its value.
pub trailing_member : (w m : ℕ) → m < 2 ^ w → (m ≡ 0 → ⊥) → count_trailing_zeros w m ∈ m
unfolding count_trailing_zeros
trailing_member zero m l h = absurd (h (lt-one l))
trailing_member (suc w) m l h = go (m % 2) refl (trailing_member w (m / 2) (omega arith))
  where
    go : (d : ℕ) → m % 2 ≡ d → ((m / 2 ≡ 0 → ⊥) → count_trailing_zeros w (m / 2) ∈ m / 2) → under d (count_trailing_zeros w (m / 2)) ∈ m
    go zero e rest = bit_suc m (count_trailing_zeros w (m / 2)) ∙ rest (λ k. h (omega arith))
    go (suc d) e rest = omega (arith, bit_zero m)

self_lt : (n : ℕ) → n < 2 ^ n
self_lt zero = omega arith
self_lt (suc n) = omega (arith, self_lt n)

pub some_member : (m : ℕ) → (m ≡ 0 → ⊥) → (v : ℕ) × (v ∈ m)
some_member m h = (count_trailing_zeros m m, trailing_member m m (self_lt m) h)

pub member_lt : (w m v : ℕ) → m < 2 ^ w → v ∈ m → v < w
member_lt w m v l h = lt_of_not-le (λ k. omega (arith, bit_above w m v l k))

pub single_member : (v u : ℕ) → u ∈ single v → u ≡ v
single_member v u h = elim (ℕ_discrete u v) [ yes e ↦ e | no f ↦ absurd (omega (arith, bit_single_other v u f)) ]

-- ---- parts

pub common_part : (a b : ℕ) → Part (common a b) a
common_part a b v h = omega (arith, bit_common a b v, bit_le a v)

pub common_part_right : (a b : ℕ) → Part (common a b) b
common_part_right a b v h = omega (arith, bit_common a b v, bit_le b v)

pub minus_part : (a b : ℕ) → Part (minus a b) a
minus_part a b v h = omega (arith, bit_minus a b v, bit_le a v)

pub part_le : (a b v : ℕ) → Part a b → bit a v ≤ bit b v
part_le a b v p = elim (ℕ_discrete (bit a v) 1) [ yes e ↦ omega (arith, p v e) | no f ↦ omega (arith, bit_le a v) ]

pub part_common : (t m : ℕ) → Part t m → common m t ≡ t
part_common t m p = bit_ext (common m t) t (λ v. omega (arith, bit_common m t v, part_le t m v p))

pub part_minus : (t m : ℕ) → Part t m → minus t m ≡ 0
part_minus t m p = bit_ext (minus t m) 0 (λ v. omega (arith, bit_minus t m v, bit_none v, part_le t m v p))

pub minus_part_of : (t m : ℕ) → minus t m ≡ 0 → Part t m
minus_part_of t m e v h = omega (arith, bit_le m v, rw e at (bit_minus t m v), bit_none v)

pub part_antisym : (a b : ℕ) → Part a b → Part b a → a ≡ b
part_antisym a b p q = bit_ext a b (λ v. omega (arith, part_le a b v p, part_le b a v q))

pub part_lt : (w a b : ℕ) → Part a b → b < 2 ^ w → a < 2 ^ w
part_lt w a b p h = bit_lt w a (λ v l. omega (arith, part_le a b v p, bit_above w b v h l))

pub no_member : (m : ℕ) → ((v : ℕ) → v ∈ m → ⊥) → m ≡ 0
no_member m h = part_antisym m 0 (λ v k. absurd (h v k)) (λ v k. absurd (omega (arith, bit_none v)))

-- To take a part away is to subtract it.
pub part_rest : (t m : ℕ) → Part t m → m - t ≡ minus m t
unfolding minus
part_rest t m p = ap (λ (x : ℕ). m - x) (sym (part_common t m p))

pub size_part : (a b : ℕ) → Part a b → size a ≤ size b
size_part a b p = omega (arith, rw (part_common a b p) at (size_split b a))

pub part_single : (m v : ℕ) → v ∈ m → Part (single v) m
part_single m v h u k = rw (single_member v u k) h

-- Of a mask of one value: the value makes up the mask.
pub single_of : (m v : ℕ) → size m ≡ 1 → v ∈ m → m ≡ single v
single_of m v e h =
    let p : Part (single v) m = part_single m v h in
    let none : size (minus m (single v)) ≡ 0 = omega (arith, size_single v, rw (part_common (single v) m p) at (size_split m (single v))) in
    part_antisym m (single v) (minus_part_of m (single v) (size_none (minus m (single v)) none)) p

pub one_value : (m u v : ℕ) → size m ≡ 1 → u ∈ m → v ∈ m → u ≡ v
one_value m u v e h k = single_member v u (rw (single_of m v e k) at h)

-- ---- masks with nothing in common are joined by adding

pub bit_add : (a b v : ℕ) → common a b ≡ 0 → bit (a + b) v ≡ bit a v + bit b v
bit_add a b v e = omega (arith, rw (or_disjoint a b e) at (bit-bit_or a b v), rw e at (bit_common a b v), bit_none v)

pub size_add : (a b : ℕ) → common a b ≡ 0 → size (a + b) ≡ size a + size b
size_add a b e =
    let same : common (a + b) a ≡ a = part_common a (a + b) (λ v h. omega (arith, bit_add a b v e, bit_le (a + b) v)) in
    let rest : minus (a + b) a ≡ b = bit_ext (minus (a + b) a) b (λ v. omega (arith, bit_minus (a + b) a v, bit_add a b v e)) in
    omega (arith, rw (same, rest) at (size_split (a + b) a))

pub common_single : (m v : ℕ) → bit m v ≡ 0 → common m (single v) ≡ 0
common_single m v h =
    no_member (common m (single v)) (λ u k.
    let e : u ≡ v = single_member v u (common_part_right m (single v) u k) in
    omega (arith, rw e at (common_part m (single v) u k)))

-- ---- the lowest value, which `trailing_member` says is one

under_le : (d t k : ℕ) → t ≤ k → under d t ≤ suc k
under_le zero t k h = omega arith
under_le (suc d) t k h = omega arith

pub trailing_least : (w m u : ℕ) → u ∈ m → count_trailing_zeros w m ≤ u
unfolding count_trailing_zeros
trailing_least zero m u h = omega arith
trailing_least (suc w) m zero h = rw (sym (bit_zero m) ∙ h) (omega arith)
trailing_least (suc w) m (suc u) h = under_le (m % 2) (count_trailing_zeros w (m / 2)) u (trailing_least w (m / 2) u (sym (bit_suc m u) ∙ h))

pub lowest_member : (m : ℕ) → m < 2 ^ 16 → (m ≡ 0 → ⊥) → lowest m ∈ m
lowest_member = trailing_member 16

pub lowest_least : (m u : ℕ) → m < 2 ^ 16 → u ∈ m → lowest m ≤ u
lowest_least m u h = trailing_least 16 m u

-- ---- the smallest values

-- s is the k smallest values of m.
record Kept (k m s : ℕ) : Type 0 where
  part : Part s m
  count : size s ≡ k
  below : (u v : ℕ) → u ∈ s → v ∈ m → (v ∈ s → ⊥) → u < v

-- With the least of the values left it is the k + 1 smallest.
kept_more : (k m s v : ℕ) → Kept k m s → v ∈ minus m s → ((u : ℕ) → u ∈ minus m s → v ≤ u) → Kept (suc k) m (s + single v)
kept_more k m s v q h least = record {
  part = λ u hu. elim (ℕ_discrete u v) [ yes e ↦ rw e (minus_part m s v h) | no f ↦ q.part u (old u f hu) ];
  count = omega (arith, size_add s (single v) apart, size_single v, q.count);
  below = λ u x hu hx left.
      let gone : bit s x ≡ 0 = omega (arith, bit_add s (single v) x apart, bit_le (s + single v) x) in
      let other : x ≢ v = λ e. left (rw e new) in
      let least-x : v ≤ x = least x (omega (arith, bit_minus m s x)) in
      elim (ℕ_discrete u v) [ yes e ↦ omega arith | no f ↦ q.below u x (old u f hu) hx (omega arith) ];
}
  where
    apart : common s (single v) ≡ 0
    apart = common_single s v (omega (arith, bit_minus m s v, bit_le m v))

    new : v ∈ s + single v
    new = omega (arith, bit_add s (single v) v apart, bit_single_same v, bit_le (s + single v) v)

    old : (u : ℕ) → (u ≡ v → ⊥) → u ∈ s + single v → u ∈ s
    old u f hu = omega (arith, bit_add s (single v) u apart, bit_single_other v u f)

kept : (w k m : ℕ) → m < 2 ^ w → k ≤ size m → Kept k m (smallest_of w k m)
unfolding smallest_of
kept w zero m l h = record {
  part = λ v k. absurd (member_some 0 v k refl);
  count = size_of_none;
  below = λ u v k. absurd (member_some 0 u k refl);
}
kept w (suc k) m l h =
    let s : ℕ = smallest_of w k m in
    let q : Kept k m s = kept w k m l (omega arith) in
    let more : 1 ≤ size (minus m s) = omega (arith, rw (part_common s m q.part) at (size_split m s), q.count) in
    let some : minus m s ≡ 0 → ⊥ = λ e. omega (arith, size_of_none, rw e at more) in
    let fits : minus m s < 2 ^ w = part_lt w (minus m s) m (minus_part m s) l in
    rw (part_rest s m q.part)
    (kept_more k m s (lowest_of w (minus m s)) q (trailing_member w (minus m s) fits some) (λ u. trailing_least w (minus m s) u))

pub smallest_part : (w k m : ℕ) → m < 2 ^ w → k ≤ size m → Part (smallest_of w k m) m
smallest_part w k m l h = (kept w k m l h).part

pub smallest_size : (w k m : ℕ) → m < 2 ^ w → k ≤ size m → size (smallest_of w k m) ≡ k
smallest_size w k m l h = (kept w k m l h).count

-- Every value kept is smaller than every value left.
pub smallest_below : (w k m u v : ℕ) → m < 2 ^ w → k ≤ size m → u ∈ smallest_of w k m → v ∈ m → (v ∈ smallest_of w k m → ⊥) → u < v
smallest_below w k m u v l h = (kept w k m l h).below u v

pub smallest_rest : (w k m : ℕ) → m < 2 ^ w → k ≤ size m → m - smallest_of w k m ≡ minus m (smallest_of w k m)
smallest_rest w k m l h = part_rest (smallest_of w k m) m (smallest_part w k m l h)

pub half_part : (w m : ℕ) → m < 2 ^ w → Part (smaller_half_of w m) m
unfolding smaller_half_of
half_part w m l = smallest_part w ((size m + 1) / 2) m l (omega arith)

pub half_size : (w m : ℕ) → m < 2 ^ w → size (smaller_half_of w m) ≡ (size m + 1) / 2
unfolding smaller_half_of
half_size w m l = smallest_size w ((size m + 1) / 2) m l (omega arith)

pub half_below : (w m u v : ℕ) → m < 2 ^ w → u ∈ smaller_half_of w m → v ∈ m → (v ∈ smaller_half_of w m → ⊥) → u < v
unfolding smaller_half_of
half_below w m u v l = smallest_below w ((size m + 1) / 2) m u v l (omega arith)

-- the bit that the code shifts up
pub shifted : (n : ℕ) → n ≤ 32 → 1 * 2 ^ n % 2 ^ 64 ≡ 2 ^ n
shifted n h = let small : n < 64 = omega arith in simp one-mul (mod-eq_of_lt (pow-lt small))

-- the mask that `only` makes of one of the 16 values
pub only_is : (v r : ℕ) → v < 16 → Only v r → r ≡ single v
only_is v r h e = e ∙ simp (lt-ltb v 16 h)
