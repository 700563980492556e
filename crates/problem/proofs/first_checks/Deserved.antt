-- Each test of a problem refuses exactly what deserves its number, and what passes them is proper.
-- Assumes nothing.
use mathlib.Core.Path.{◌≡◌, sym, ◌∙◌}
use mathlib.Core.Logic.{inl, inr, ⊎_elim}
use mathlib.Core.Bool.{Bool, true, ◌||◌}
use Prim.Native.Nat.{ℕ, zero, suc, ◌/◌, ◌^◌, ◌≤◌, ◌<◌}
use native.Mathlib.Omega.{arith}
use native.Mathlib.Decide.{ℕ_discrete}
use lib.Dec.{eqb, ltb}
use borrow.Author.Tests.{eqb-true, ltb-true}
use Rattle.problem.specs.Masks.{bit}
use Rattle.problem.specs.Problem.{Problem, Proper}
use Rattle.problem.specs.Lists.{every}
use Rattle.problem.proofs.mask.Masks.{bit_suc, bit_le, bit_above, some_member}
use Rattle.problem.proofs.Tests.{and_left, and_right, or_cases, every_at}
use Rattle.problem.specs.FirstChecks.{Deserves1, Deserves2, Over, Deserves4, Deserves5}
use Rattle.problem.specs.Tests.FirstChecks.{masks_below, symmetric}
use Rattle.problem.proofs.Decisions.{Decides, Refutes, refutes_iff, decides_lt, decides_or, refutes_lt, refutes_eq, refutes_and, refutes_or, refutes_every}
use Rattle.problem.proofs.first_checks.Parts.{SymmetricAt, symmetric_true, Numbers}

-- 1: n not 1 to 32
pub decides_1 : (n : ℕ) → Decides (ltb n 1 || ltb 32 n) (Deserves1 n)
decides_1 n = decides_or (ltb n 1) (ltb 32 n) (n < 1) (32 < n) (decides_lt n 1) (decides_lt 32 n)

-- 2: d not 1 to 16
pub decides_2 : (d : ℕ) → Decides (ltb d 1 || ltb 16 d) (Deserves2 d)
decides_2 d = decides_or (ltb d 1) (ltb 16 d) (d < 1) (16 < d) (decides_lt d 1) (decides_lt 16 d)

-- a mask of 2 ^ d or more has a bit at d or above
pub over_of : (d m : ℕ) → 2 ^ d ≤ m → Over d m
over_of zero m h = let r = some_member m (λ e. absurd (omega arith)) in (r.0, omega arith, r.1)
over_of (suc d) m h =
    let r : Over d (m / 2) = over_of d (m / 2) (omega arith) in
    (suc r.0, omega (arith, r.1), bit_suc m r.0 ∙ r.2)

-- A mask below 2 ^ d has no such bit.
pub over_not : (d m : ℕ) → m < 2 ^ d → Over d m → ⊥
over_not d m h (v, l, e) = omega (arith, bit_above d m v h l)

refutes_over : (d m : ℕ) → Refutes (ltb m (2 ^ d)) (Over d m)
refutes_over d m =
    let s = refutes_lt m (2 ^ d) in
    record {
      holds = λ e. over_of d m (s.holds e);
      fails = λ e. over_not d m (ltb-true m (2 ^ d) e);
    }

-- 4: the domains, and the masks of two different variables
pub refutes_4 : (p : Problem) → Refutes (masks_below p) (Deserves4 p)
unfolding masks_below
refutes_4 p =
    let Mask : ℕ → ℕ → ℕ → Type 0 = λ i j a. Over p.d (p.allowed i j a) in
    let mask : ℕ → ℕ → ℕ → Bool = λ i j a. ltb (p.allowed i j a) (2 ^ p.d) in
    let Pair : ℕ → ℕ → Type 0 = λ i j. (i ≡ j → ⊥) × ((a : ℕ) × (a < p.d) × Mask i j a) in
    let pair : ℕ → ℕ → Bool = λ i j. eqb i j || every p.d (mask i j) in
    let domains = refutes_every (λ i. ltb (p.domain i) (2 ^ p.d)) (λ i. Over p.d (p.domain i)) p.n (λ i h. refutes_over p.d (p.domain i))
    in
    let tables = refutes_every (λ i. every p.n (pair i)) (λ i. (j : ℕ) × (j < p.n) × Pair i j) p.n
    (λ i h. refutes_every (pair i) (Pair i) p.n
    (λ j k. refutes_or (eqb i j) (every p.d (mask i j)) (i ≡ j → ⊥) ((a : ℕ) × (a < p.d) × Mask i j a) (refutes_eq i j)
    (refutes_every (mask i j) (Mask i j) p.d (λ a l. refutes_over p.d (p.allowed i j a))))) in
    refutes_iff
    (λ x. ⊎_elim inl
    (λ t. inr (t.0, t.2.0, t.2.2.1.0, t.1, t.2.1, t.2.2.0, t.2.2.1.1, t.2.2.1.2)) x)
    (λ x. ⊎_elim inl
    (λ t. inr (t.0, t.3, (t.1, t.4, (t.5, (t.2, t.6, t.7))))) x)
    (refutes_and (every p.n (λ i. ltb (p.domain i) (2 ^ p.d))) (every p.n (λ i. every p.n (pair i)))
    ((i : ℕ) × (i < p.n) × Over p.d (p.domain i)) ((i : ℕ) × (i < p.n) × ((j : ℕ) × (j < p.n) × Pair i j)) domains tables)

-- of two values that differ one way only, one of the two ways is allowed
one_way_lem : (p : Problem) (i j a b : ℕ) → i < p.n → j < p.n → (i ≡ j → ⊥) → a < p.d → b < p.d
    → (bit (p.allowed i j a) b ≡ bit (p.allowed j i b) a → ⊥) → Deserves5 p
one_way_lem p i j a b h k f l m g = elim (ℕ_discrete (bit (p.allowed i j a) b) 1) [
  | yes e ↦ (i, j, a, b, h, k, f, l, m, e, (λ e'. g (e ∙ sym e')))
  | no x ↦
      let none : bit (p.allowed i j a) b ≡ 0 = omega (arith, bit_le (p.allowed i j a) b) in
      elim (ℕ_discrete (bit (p.allowed j i b) a) 1) [
        | yes e ↦ (j, i, b, a, k, h, (λ s. f (sym s)), m, l, e, x)
        | no y ↦ absurd (g (omega (arith, bit_le (p.allowed j i b) a)))
      ]
]

-- 5: two variables, a value of each
pub refutes_5 : (p : Problem) → Refutes (symmetric p) (Deserves5 p)
unfolding symmetric
refutes_5 p =
    let two : ℕ → ℕ → ℕ → ℕ → Bool = λ i j a b. eqb (bit (p.allowed i j a) b) (bit (p.allowed j i b) a) in
    let Two : ℕ → ℕ → ℕ → ℕ → Type 0 = λ i j a b. bit (p.allowed i j a) b ≡ bit (p.allowed j i b) a → ⊥ in
    let Value : ℕ → ℕ → ℕ → Type 0 = λ i j a. (b : ℕ) × (b < p.d) × Two i j a b in
    let Values : ℕ → ℕ → Type 0 = λ i j. (a : ℕ) × (a < p.d) × Value i j a in
    let Pair : ℕ → ℕ → Type 0 = λ i j. (i ≡ j → ⊥) × Values i j in
    let value : ℕ → ℕ → ℕ → Bool = λ i j a. every p.d (two i j a) in
    let pair : ℕ → ℕ → Bool = λ i j. eqb i j || every p.d (value i j) in
    refutes_iff
    (λ x. let y = x.2 in let z = y.2 in let a = z.1 in let b = a.2 in
    one_way_lem p x.0 y.0 a.0 b.0 x.1 y.1 z.0 a.1 b.1 b.2)
    (λ x. (x.0, x.4, (x.1, x.5, (x.6, (x.2, x.7, (x.3, x.8, (λ e. x.10 (sym e ∙ x.9))))))))
    (refutes_every (λ i. every p.n (pair i)) (λ i. (j : ℕ) × (j < p.n) × Pair i j) p.n
    (λ i h. refutes_every (pair i) (Pair i) p.n
    (λ j k. refutes_or (eqb i j) (every p.d (value i j)) (i ≡ j → ⊥) (Values i j) (refutes_eq i j)
    (refutes_every (value i j) (Value i j) p.d
    (λ a l. refutes_every (two i j a) (Two i j a) p.d
    (λ b m. refutes_eq (bit (p.allowed i j a) b) (bit (p.allowed j i b) a)))))))

-- the numbers, the masks and the symmetry
pub proper_of : (p : Problem) → Numbers p.n p.d → masks_below p ≡ true → symmetric p ≡ true → Proper p
unfolding masks_below SymmetricAt
proper_of p numbers e s =
    let mask : ℕ → ℕ → ℕ → Bool = λ i j a. ltb (p.allowed i j a) (2 ^ p.d) in
    let pair : ℕ → ℕ → Bool = λ i j. eqb i j || every p.d (mask i j) in
    let domains : every p.n (λ i. ltb (p.domain i) (2 ^ p.d)) ≡ true =
    and_left (every p.n (λ i. ltb (p.domain i) (2 ^ p.d))) (every p.n (λ i. every p.n (pair i))) e in
    let tables : every p.n (λ i. every p.n (pair i)) ≡ true =
    and_right (every p.n (λ i. ltb (p.domain i) (2 ^ p.d))) (every p.n (λ i. every p.n (pair i))) e in
    record {
      some_variable = numbers.some_variable;
      variables = numbers.variables;
      some_value = numbers.some_value;
      values = numbers.values;
      domains = λ i h. ltb-true (p.domain i) (2 ^ p.d) (every_at (λ i. ltb (p.domain i) (2 ^ p.d)) p.n i h domains);
      masks = λ i j a h k f l.
          let at : pair i j ≡ true = every_at (pair i) p.n j k (every_at (λ i. every p.n (pair i)) p.n i h tables) in
          ⊎_elim (λ x. absurd (f (eqb-true i j x))) (λ x. ltb-true (p.allowed i j a) (2 ^ p.d) (every_at (mask i j) p.d a l x))
          (or_cases (eqb i j) (every p.d (mask i j)) at);
      symmetric = λ i j a b h k f l m. symmetric_true p s i j h k f a b l m;
    }
