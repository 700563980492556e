-- Digits exchanged between two words, or two places of a word, by what differs: the same as picked one by one.
-- Assumes nothing.
use mathlib.Core.Path.{◌≡◌, refl, sym, ap, ◌∙◌}
use Prim.Native.Nat.{ℕ, zero, suc, ◌+◌, ◌-◌, ◌*◌, ◌/◌, ◌%◌, ◌^◌, ◌≤◌, ◌<◌, min, max}
use native.Mathlib.Omega.{arith}
use native.Mathlib.Decide.{dec_lt}
use native.Mathlib.Nat.{mul-mod_left, mod-lt, lt_of_le_of_lt}
use lib.Bits.{bit_and, bit_or, bit_xor, and_le_r, xor_add_and, xor_shr, xor_lt}
use lib.Pow.{pow_pos}
use Rattle.problem.specs.Masks.{bit}
use Rattle.problem.proofs.mask.Masks.{bit_zero, bit_suc, bit_le, bit_none, bit_common, bit-bit_or, bit_above, bit_ext}
use Rattle.problem.specs.Loops.Matrices.{risen, sunk, unlike}
use Rattle.problem.proofs.first_checks.Joining.{bit_shr}
use Rattle.problem.proofs.matrix.Turning.{bit_low, bit_shl, bit_not}

pub bit-bit_xor : (a b v : ℕ) → bit (bit_xor a b) v ≡ (bit a v + bit b v) % 2
bit-bit_xor a b zero = simp bit_zero (omega (arith, xor_add_and a b))
bit-bit_xor a b (suc v) =
    let half : bit_xor a b / 2 ≡ bit_xor (a / 2) (b / 2) = xor_shr a b 1 in
    simp (bit_suc, half) (bit-bit_xor (a / 2) (b / 2) v)

-- what is shifted up has nothing below
bit_under : (m s p : ℕ) → p < s → bit (m * 2 ^ s) p ≡ 0
bit_under m s p h =
    let none : m * 2 ^ s % 2 ^ s ≡ 0 = mul-mod_left m (2 ^ s) in
    sym (bit_low s (m * 2 ^ s) p h) ∙ ap (λ (x : ℕ). bit x p) none ∙ bit_none p

unlike_digit : (a b mask s p : ℕ) → bit (unlike a b mask s) p ≡ min ((bit a (s + p) + bit b p) % 2) (bit mask p)
unfolding unlike
unlike_digit a b mask s p =
    bit_common (bit_xor (a / 2 ^ s) b) mask p ∙ ap (λ (x : ℕ). min x (bit mask p))
    (bit-bit_xor (a / 2 ^ s) b p ∙ ap (λ (x : ℕ). (x + bit b p) % 2) (bit_shr a s p))

unlike_lt : (a b mask s : ℕ) → mask < 2 ^ 64 → unlike a b mask s < 2 ^ 64
unfolding unlike
unlike_lt a b mask s k = lt_of_le_of_lt (and_le_r (bit_xor (a / 2 ^ s) b) mask) k

-- ---- one digit

-- x, changed where it differs from y and m says so
pick : (x y m o : ℕ) → x ≤ 1 → y ≤ 1 → m ≤ 1 → min x o ≡ min x (1 - m) → (x + min ((y + x) % 2) m) % 2 ≡ max (min x o) (min y m)
pick x y zero o h k l e = omega (arith, e)
pick x y (suc zero) o h k l e = omega (arith, e)
pick x y (suc (suc m)) o h k l e = absurd (omega arith)

-- what a mask leaves, of a word that has no more digits
kept : (a mask p : ℕ) → a < 2 ^ 64 → mask < 2 ^ 64 → min (bit a p) (bit (2 ^ 64 - 1 - mask) p) ≡ min (bit a p) (1 - bit mask p)
kept a mask p h k = elim (dec_lt p 64) [
  | yes l ↦ ap (min (bit a p)) (bit_not 64 mask p k l)
  | no l ↦ let none : bit a p ≡ 0 = bit_above 64 a p h (omega arith) in rw none (omega arith)
]

-- a word picked by a mask from two
picked : (a b mask p : ℕ) → mask < 2 ^ 64
    → bit (bit_or (bit_and a (2 ^ 64 - 1 - mask)) (bit_and b (2 ^ 64 - 1 - (2 ^ 64 - 1 - mask)))) p
    ≡ max (min (bit a p) (bit (2 ^ 64 - 1 - mask) p)) (min (bit b p) (bit mask p))
picked a b mask p h =
    let back : 2 ^ 64 - 1 - (2 ^ 64 - 1 - mask) ≡ mask = omega arith in
    rw back
    (bit-bit_or (bit_and a (2 ^ 64 - 1 - mask)) (bit_and b mask) p
    ∙ ap (λ (x : ℕ). max x (bit (bit_and b mask) p)) (bit_common a (2 ^ 64 - 1 - mask) p)
    ∙ ap (max (min (bit a p) (bit (2 ^ 64 - 1 - mask) p))) (bit_common b mask p))

-- a word changed where it differs from another and the mask says so is picked from the two
changed_word : (a b u mask : ℕ) → a < 2 ^ 64 → mask < 2 ^ 64 → ((p : ℕ) → bit u p ≡ min ((bit b p + bit a p) % 2) (bit mask p))
    → bit_xor a u ≡ bit_or (bit_and a (2 ^ 64 - 1 - mask)) (bit_and b (2 ^ 64 - 1 - (2 ^ 64 - 1 - mask)))
changed_word a b u mask h k d = bit_ext (bit_xor a u) (bit_or (bit_and a (2 ^ 64 - 1 - mask)) (bit_and b (2 ^ 64 - 1 - (2 ^ 64 - 1 - mask)))) (λ p.
    bit-bit_xor a u p ∙ ap (λ (x : ℕ). (bit a p + x) % 2) (d p)
    ∙ pick (bit a p) (bit b p) (bit mask p) (bit (2 ^ 64 - 1 - mask) p) (bit_le a p) (bit_le b p) (bit_le mask p) (kept a mask p h k)
    ∙ sym (picked a b mask p k))

-- ---- down

pub sunk_made : (a b mask s : ℕ) → a < 2 ^ 64 → mask < 2 ^ 64 → bit_xor a (unlike b a mask s) ≡ sunk a b (2 ^ 64 - 1 - mask) s
unfolding sunk
sunk_made a b mask s h k = changed_word a (b / 2 ^ s) (unlike b a mask s) mask h k (λ p.
    unlike_digit b a mask s p ∙ ap (λ (x : ℕ). min ((x + bit a p) % 2) (bit mask p)) (sym (bit_shr b s p)))

-- ---- up

shl_digit : (x s p : ℕ) → p < 64 → s ≤ p → bit (x * 2 ^ s % 2 ^ 64) p ≡ bit x (p - s)
shl_digit x s p h l =
    let at : p ≡ s + (p - s) = omega arith in
    bit_low 64 (x * 2 ^ s) p h ∙ ap (bit (x * 2 ^ s)) at ∙ bit_shl x s (p - s)

shl_none : (x s p : ℕ) → p < s → bit (x * 2 ^ s % 2 ^ 64) p ≡ 0
shl_none x s p h = elim (dec_lt p 64) [
  | yes l ↦ bit_low 64 (x * 2 ^ s) p l ∙ bit_under x s p h
  | no l ↦ bit_above 64 (x * 2 ^ s % 2 ^ 64) p (mod-lt (x * 2 ^ s) (pow_pos 64)) (omega arith)
]

shl_past : (x s p : ℕ) → 64 ≤ p → bit (x * 2 ^ s % 2 ^ 64) p ≡ 0
shl_past x s p h = bit_above 64 (x * 2 ^ s % 2 ^ 64) p (mod-lt (x * 2 ^ s) (pow_pos 64)) h

-- the digits of what differs, moved up
unlike_up : (a b mask s p : ℕ) → bit (unlike a b mask s * 2 ^ s % 2 ^ 64) p
    ≡ min ((bit (b * 2 ^ s % 2 ^ 64) p + bit a p) % 2) (bit (mask * 2 ^ s % 2 ^ 64) p)
unlike_up a b mask s p = elim (dec_lt p 64) [
  | yes l ↦ elim (dec_lt p s) [
    | yes k ↦ none (shl_none (unlike a b mask s) s p k) (shl_none mask s p k)
    | no k ↦
        let at : s + (p - s) ≡ p = omega arith in
        shl_digit (unlike a b mask s) s p l (omega arith) ∙ unlike_digit a b mask s (p - s)
        ∙ rw (at, shl_digit b s p l (omega arith), shl_digit mask s p l (omega arith)) (ap (λ (x : ℕ). min (x % 2) (bit mask (p - s))) (omega arith))
  ]
  | no l ↦ none (shl_past (unlike a b mask s) s p (omega arith)) (shl_past mask s p (omega arith))
]
  where
    none : bit (unlike a b mask s * 2 ^ s % 2 ^ 64) p ≡ 0 → bit (mask * 2 ^ s % 2 ^ 64) p ≡ 0
        → bit (unlike a b mask s * 2 ^ s % 2 ^ 64) p ≡ min ((bit (b * 2 ^ s % 2 ^ 64) p + bit a p) % 2) (bit (mask * 2 ^ s % 2 ^ 64) p)
    none e f = omega (arith, e, f)

pub risen_made : (a b mask s : ℕ) → a < 2 ^ 64
    → bit_xor a (unlike a b mask s * 2 ^ s % 2 ^ 64) ≡ risen a b (2 ^ 64 - 1 - mask * 2 ^ s % 2 ^ 64) s
unfolding risen
risen_made a b mask s h =
    changed_word a (b * 2 ^ s % 2 ^ 64) (unlike a b mask s * 2 ^ s % 2 ^ 64) (mask * 2 ^ s % 2 ^ 64) h (mod-lt (mask * 2 ^ s) (pow_pos 64))
    (unlike_up a b mask s)

-- ---- within a word, where the places do not meet

pub swapped_made : (x mask s : ℕ) → x < 2 ^ 64 → mask < 2 ^ 64 → bit_and mask (mask * 2 ^ s % 2 ^ 64) ≡ 0
    → bit_xor (bit_xor x (unlike x x mask s)) (unlike x x mask s * 2 ^ s % 2 ^ 64)
    ≡ risen (sunk x x (2 ^ 64 - 1 - mask) s) x (2 ^ 64 - 1 - mask * 2 ^ s % 2 ^ 64) s
unfolding risen
swapped_made x mask s h k apart =
    ap (λ (y : ℕ). bit_xor y (unlike x x mask s * 2 ^ s % 2 ^ 64)) (sunk_made x x mask s h k)
    ∙ changed_word (sunk x x (2 ^ 64 - 1 - mask) s) (x * 2 ^ s % 2 ^ 64) (unlike x x mask s * 2 ^ s % 2 ^ 64) (mask * 2 ^ s % 2 ^ 64)
    (sunk_lt x x mask s h k) (mod-lt (mask * 2 ^ s) (pow_pos 64)) (λ p.
    unlike_up x x mask s p
    ∙ same (bit x p) (bit (sunk x x (2 ^ 64 - 1 - mask) s) p) (bit (x * 2 ^ s % 2 ^ 64) p) (bit mask p) (bit (mask * 2 ^ s % 2 ^ 64) p)
    (bit_le mask p) (bit_le (mask * 2 ^ s % 2 ^ 64) p) (sym (bit_common mask (mask * 2 ^ s % 2 ^ 64) p) ∙ ap (λ (y : ℕ). bit y p) apart ∙ bit_none p)
    (λ e. ap (λ (y : ℕ). bit y p) (sym (sunk_made x x mask s h k)) ∙ bit-bit_xor x (unlike x x mask s) p ∙ still p e))
  where
    same : (x y z m o : ℕ) → m ≤ 1 → o ≤ 1 → min m o ≡ 0 → (m ≡ 0 → y ≡ x) → min ((z + x) % 2) o ≡ min ((z + y) % 2) o
    same x y z m zero h k e f = omega arith
    same x y z zero (suc o) h k e f = rw (f refl) refl
    same x y z (suc m) (suc o) h k e f = absurd (omega (arith, e))

    still : (p : ℕ) → bit mask p ≡ 0 → (bit x p + bit (unlike x x mask s) p) % 2 ≡ bit x p
    still p e = omega (arith, unlike_digit x x mask s p, e, bit_le x p)

    sunk_lt : (a b mask s : ℕ) → a < 2 ^ 64 → mask < 2 ^ 64 → sunk a b (2 ^ 64 - 1 - mask) s < 2 ^ 64
    sunk_lt a b mask s h k = rw (← sunk_made a b mask s h k) (xor_lt 64 a (unlike b a mask s) h (unlike_lt b a mask s k))
