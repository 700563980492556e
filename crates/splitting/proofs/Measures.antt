-- Why the measure falls: pieces that are not empty, sum to at most P's size, and are each smaller or leave fewer variables.
-- Assumes nothing.
use mathlib.Core.Logic.{◌⊎◌, ⊎_elim}
use mathlib.Core.List.{List, [], ◌∷◌, Memᴰ}
use mathlib.Core.Path.{refl}
use Prim.Native.Nat.{ℕ, ◌+◌, ◌-◌, ◌*◌, ◌≤◌, ◌<◌}
use native.Mathlib.Omega.{arith}
use native.Mathlib.Nat.{mul-le-mul, mul-le-mul_left, mul-le-mul_right, mul-lt-mul_of_pos_left, mul-lt-mul_of_pos_right}
use lib.ListN.{length}
use Rattle.problem.specs.Lists.{sum}

-- A piece of size s that leaves u variables, of P's U, has s × (u + 1) − 1, and s × (U + 1) exceeds that.
one_more : (s u U : ℕ) → 1 ≤ s → u ≤ U → s * (u + 1) - 1 + 1 ≤ s * (U + 1)
one_more s u U h k =
    let a : 1 * 1 ≤ s * (u + 1) = mul-le-mul {m₁ = 1} h (omega arith) in
    let b : s * (u + 1) ≤ s * (U + 1) = mul-le-mul_left s (omega arith) in
    omega arith

module _ {A : Type 0} (s u : A → ℕ) (S U : ℕ) where
  -- So of several pieces.
  many_more : (l : List A) → ((x : A) → Memᴰ x l → (1 ≤ s x) × (u x ≤ U))
      → sum (λ x. s x * (u x + 1) - 1) l + length l ≤ sum s l * (U + 1)
  unfolding sum
  many_more [] h = omega arith
  many_more (x ∷ l) h =
      let (q, k) = h x (Memᴰ.head refl) in
      omega (arith, one_more (s x) (u x) U q k, many_more l (λ y m. h y (Memᴰ.tail m)))

  -- With none, one, or two pieces and more, the sum falls.
  pub measure_falls : (l : List A) → ((x : A) → Memᴰ x l → (1 ≤ s x) × (u x ≤ U)) → ((x : A) → Memᴰ x l → (s x < S) ⊎ (u x < U))
      → sum s l ≤ S → 1 ≤ S → 1 ≤ U → sum (λ x. s x * (u x + 1) - 1) l + 1 ≤ S * (U + 1) - 1
  unfolding sum
  measure_falls [] h less fit some free = let a : 1 * 2 ≤ S * (U + 1) = mul-le-mul {m₁ = 2} some (omega arith) in omega arith
  measure_falls (x ∷ []) h less fit some free =
      let (q, k) = h x (Memᴰ.head refl) in
      let a : 1 * 1 ≤ s x * (u x + 1) = mul-le-mul {m₁ = 1} q (omega arith) in
      let b : s x * (u x + 1) ≤ s x * (U + 1) = mul-le-mul_left (s x) (omega arith) in
      let c : s x * (U + 1) ≤ S * (U + 1) = mul-le-mul_right (U + 1) (omega arith) in
      ⊎_elim
      (λ (e : s x < S). omega (arith, mul-lt-mul_of_pos_right {k = U + 1} e (omega arith)))
      (λ (e : u x < U). let f : u x + 1 < U + 1 = omega arith in omega (arith, mul-lt-mul_of_pos_left {k = s x} f q))
      (less x (Memᴰ.head refl))
  measure_falls (x ∷ y ∷ l) h less fit some free = omega (arith, many_more (x ∷ y ∷ l) h, mul-le-mul_right (U + 1) fit)
