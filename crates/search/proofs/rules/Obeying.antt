-- Two variables whose values are allowed together if both are instantiated, and how small the numbers on the way to a mask of theirs are.
-- Assumes nothing.
use mathlib.Core.Path.{◌≡◌, ◌∙◌}
use mathlib.Core.Bool.{Bool, true, false, not, ◌||◌, or-true}
use Prim.Native.Nat.{ℕ}
use native.Mathlib.Omega.{arith}
use lib.Dec.{eqb}
use borrow.Author.Tests.{eq-eqb, ne_eqb}
use Rattle.problem.specs.Masks.{bit, lowest}
use Rattle.problem.specs.Problem.{Table}
use Rattle.splits.specs.Subproblems.{domain}
use Rattle.splits.specs.declared.subproblem.Subproblem.{Subproblem}
use Rattle.splits.proofs.refusal.Refusals.{lacks}

abbrev pub pair_allowed : Table → Subproblem → ℕ → ℕ → Bool
pair_allowed allowed P i j = eqb (bit (allowed i j (lowest (domain P i))) (lowest (domain P j))) 1

unfoldable pub pair_agrees : Table → Subproblem → ℕ → ℕ → Bool
pair_agrees allowed P i j = eqb i j || eqb (bit P.marked i) 0 || eqb (bit P.marked j) 0 || pair_allowed allowed P i j

-- a variable in the set is not out of it
pub is_marked : (P : Subproblem) (marked i : ℕ) → marked ≡ P.marked → bit marked i ≡ 1 → eqb (bit P.marked i) 0 ≡ false
is_marked P marked i e h = rw (← e) (ne_eqb (bit marked i) 0 (λ z. absurd (omega arith)))

module _ (allowed : Table) (P : Subproblem) (i j : ℕ) where
  pub agrees_same : i ≡ j → true ≡ pair_agrees allowed P i j
  unfolding pair_agrees
  agrees_same e = simp (eq-eqb i j e)

  -- one of them is not instantiated
  pub agrees_first : (b : Bool) → b ≡ eqb (bit P.marked i) 1 → not b ≡ true → true ≡ pair_agrees allowed P i j
  unfolding pair_agrees
  agrees_first b e y = simp (lacks P.marked i b e ∙ y, or-true)

  pub agrees_second : (b : Bool) → b ≡ eqb (bit P.marked j) 1 → not b ≡ true → true ≡ pair_agrees allowed P i j
  unfolding pair_agrees
  agrees_second b e y = simp (lacks P.marked j b e ∙ y, or-true)

  -- both are: their values decide
  pub agrees_both : (r : Bool) (marked : ℕ) → marked ≡ P.marked → bit marked i ≡ 1 → bit marked j ≡ 1 → (i ≡ j → ⊥)
      → r ≡ pair_allowed allowed P i j → r ≡ pair_agrees allowed P i j
  unfolding pair_agrees
  agrees_both r marked e h k f q = simp (ne_eqb i j f, is_marked P marked i e h, is_marked P marked j e k) q
