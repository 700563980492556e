-- Each part of the first checks of a problem passes exactly where nothing of it is deserved.
-- Assumes nothing.
use mathlib.Core.Path.{◌≡◌, refl}
use mathlib.Core.Logic.{inl, inr, ◌↔◌}
use mathlib.Core.Bool.{Bool, true, false, cond, ◌||◌}
use Prim.Native.Nat.{◌≤◌, ℕ}
use native.Mathlib.Omega.{arith}
use native.Mathlib.Nat.{lt_of_not-le}
use Rattle.problem.specs.Problem.{Problem, Proper}
use Rattle.problem.specs.FirstChecks.{Deserves1, Deserves2, Deserves4, Deserves5}
use Rattle.problem.specs.Tests.FirstChecks.{masks_below, symmetric, refusal_of_numbers, refusal_of_problem}
use Rattle.problem.proofs.Decisions.{Refutes, Decides}
use Rattle.problem.proofs.first_checks.Deserved.{refutes_4, refutes_5, proper_of, decides_1, decides_2}
use lib.Dec.{ltb}
use Rattle.problem.proofs.first_checks.Parts.{given_not}

-- a test that refutes nothing passes
pub passes : (b : Bool) (D : Type 0) → Refutes b D → (D → ⊥) → b ≡ true
passes true D s f = refl
passes false D s f = absurd (f (s.holds refl))

-- where none of 1, 2, 4 and 5 is deserved the problem is proper
pub proper_where : (p : Problem) → (Deserves1 p.n → ⊥) → (Deserves2 p.d → ⊥) → (Deserves4 p → ⊥) → (Deserves5 p → ⊥) → Proper p
proper_where p f g h k =
    proper_of p (record {
      some_variable = omega (arith, lt_of_not-le (λ (l : p.n ≤ 0). f (inl (omega arith))));
      variables = omega (arith, lt_of_not-le (λ (l : 33 ≤ p.n). f (inr (omega arith))));
      some_value = omega (arith, lt_of_not-le (λ (l : p.d ≤ 0). g (inl (omega arith))));
      values = omega (arith, lt_of_not-le (λ (l : 17 ≤ p.d). g (inr (omega arith))));
    }) (passes (masks_below p) (Deserves4 p) (refutes_4 p) h) (passes (symmetric p) (Deserves5 p) (refutes_5 p) k)

-- a test of what does not hold fails
fails_not : (b : Bool) (D : Type 0) → Decides b D → (D → ⊥) → b ≡ false
fails_not true D s f = absurd (f (s.holds refl))
fails_not false D s f = refl

-- 1 and 2
pub numbers_none : (n d : ℕ) → (refusal_of_numbers n d ≡ 0) ↔ ((Deserves1 n → ⊥) × (Deserves2 d → ⊥))
unfolding refusal_of_numbers
numbers_none n d =
    let one : Bool = ltb n 1 || ltb 32 n in
    let two : Bool = ltb d 1 || ltb 16 d in (
      (λ e.
          let a = given_not one 1 (cond two 2 0) (λ z. absurd (omega arith)) e in
          let b = given_not two 2 0 (λ z. absurd (omega arith)) a.1 in
          ((decides_1 n).fails a.0, (decides_2 d).fails b.0)),
      (λ t. simp (fails_not one (Deserves1 n) (decides_1 n) t.0, fails_not two (Deserves2 d) (decides_2 d) t.1)),
    )

-- of a test that gives k where it fails
pub gives_none : (b : Bool) (D : Type 0) (k : ℕ) → (k ≡ 0 → ⊥) → Refutes b D → (cond b 0 k ≡ 0) ↔ (D → ⊥)
gives_none true D k f s = ((λ e. s.fails refl), (λ g. refl))
gives_none false D k f s = ((λ e. absurd (f e)), (λ g. absurd (g (s.holds refl))))

-- 4 and 5
pub problem_none : (p : Problem) → (refusal_of_problem p ≡ 0) ↔ ((Deserves4 p → ⊥) × (Deserves5 p → ⊥))
unfolding refusal_of_problem
problem_none p = go (masks_below p) (symmetric p) (refutes_4 p) (refutes_5 p)
  where
    go : (a b : Bool) → Refutes a (Deserves4 p) → Refutes b (Deserves5 p)
        → (◌≡◌ {A = ℕ} (cond a (cond b 0 5) 4) 0) ↔ ((Deserves4 p → ⊥) × (Deserves5 p → ⊥))
    go true true s t = ((λ e. (s.fails refl, t.fails refl)), (λ x. refl))
    go true false s t = ((λ e. absurd (omega arith)), (λ x. absurd (x.1 (t.holds refl))))
    go false b s t = ((λ e. absurd (omega arith)), (λ x. absurd (x.0 (s.holds refl))))

-- Numbers and a problem that pass are a proper problem.
pub proper_is_passed : (p : Problem) → refusal_of_numbers p.n p.d ≡ 0 → refusal_of_problem p ≡ 0 → Proper p
proper_is_passed p e h =
    let f = (numbers_none p.n p.d).0 e in
    let g = (problem_none p).0 h in
    proper_where p f.0 f.1 g.0 g.1
