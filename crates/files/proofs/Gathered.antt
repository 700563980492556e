-- A mask put together of its digits.
-- Assumes nothing.
use mathlib.Core.Path.{◌≡◌, refl, sym, ap, ap₂, ◌∙◌}
use Prim.Native.Nat.{ℕ, zero, suc, ◌+◌, ◌*◌, ◌/◌, ◌^◌, ◌≤◌, ◌<◌}
use native.Mathlib.Omega.{arith}
use native.Mathlib.Nat.{mul_assoc, le_of_suc-le-suc}
use lib.Arith.{lt-one}
use Rattle.problem.specs.Masks.{bit}
use Rattle.problem.specs.Lists.{total}
use Rattle.problem.proofs.mask.Masks.{bit_zero, bit_suc}
use Rattle.files.specs.Reading.{gathered}
use Rattle.blocks.proofs.Lists.{total_same}
use Rattle.files.proofs.Triangle.{total_mul}

-- A sum by its first.
total_first : (n : ℕ) (f : ℕ → ℕ) → total (suc n) f ≡ f 0 + total n (λ i. f (suc i))
unfolding total
total_first zero f = omega arith
total_first (suc n) f = omega (arith, total_first n f)

-- The lowest digit, and the rest.
lowest_first : (d : ℕ) (f : ℕ → ℕ) → gathered (suc d) f ≡ f 0 + gathered d (λ b. f (suc b)) * 2
unfolding gathered
lowest_first d f =
    total_first d (λ b. f b * 2 ^ b)
    ∙ ap₂ ◌+◌ (omega arith)
    (total_same d (λ b. f (suc b) * 2 ^ suc b) (λ b. f (suc b) * 2 ^ b * 2)
    (λ b l. let e : 2 ^ suc b ≡ 2 ^ b * 2 = omega arith in rw e (sym (mul_assoc (f (suc b)) (2 ^ b) 2)))
    ∙ total_mul d (λ b. f (suc b) * 2 ^ b) 2)

none : (f : ℕ → ℕ) → gathered 0 f ≡ 0
unfolding gathered total
none f = refl

-- It depends on the digits below d alone.
pub gathered_same : (d : ℕ) (f g : ℕ → ℕ) → ((b : ℕ) → b < d → f b ≡ g b) → gathered d f ≡ gathered d g
unfolding gathered
gathered_same d f g h = total_same d (λ b. f b * 2 ^ b) (λ b. g b * 2 ^ b) (λ b l. ap (λ (x : ℕ). x * 2 ^ b) (h b l))

-- A mask of d digits is gathered of them.
pub gathered_bits : (d m : ℕ) → m < 2 ^ d → gathered d (bit m) ≡ m
gathered_bits zero m h = none (bit m) ∙ sym (lt-one h)
gathered_bits (suc d) m h =
    lowest_first d (bit m)
    ∙ rw (bit_zero m, gathered_same d (λ b. bit m (suc b)) (bit (m / 2)) (λ b l. bit_suc m b), gathered_bits d (m / 2) (omega arith)) (omega arith)

-- What is gathered has d digits, and these are its digits.
pub gathered_lt : (d : ℕ) (f : ℕ → ℕ) → ((b : ℕ) → f b ≤ 1) → gathered d f < 2 ^ d
gathered_lt zero f h = omega (arith, none f)
gathered_lt (suc d) f h = omega (arith, lowest_first d f, gathered_lt d (λ b. f (suc b)) (λ b. h (suc b)), h 0)

-- Digit v is the one gathered.
pub gathered_bit : (d : ℕ) (f : ℕ → ℕ) → ((b : ℕ) → f b ≤ 1) → (v : ℕ) → v < d → bit (gathered d f) v ≡ f v
gathered_bit zero f h v l = absurd (omega arith)
gathered_bit (suc d) f h zero l = bit_zero (gathered (suc d) f) ∙ omega (arith, lowest_first d f, h 0)
gathered_bit (suc d) f h (suc v) l =
    let half : gathered (suc d) f / 2 ≡ gathered d (λ b. f (suc b)) = omega (arith, lowest_first d f, h 0) in
    bit_suc (gathered (suc d) f) v ∙ rw half (gathered_bit d (λ b. f (suc b)) (λ b. h (suc b)) v (le_of_suc-le-suc l))
