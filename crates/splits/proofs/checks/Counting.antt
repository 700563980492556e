-- The loops that count checks find what the rules count. Assumes nothing.
use mathlib.Core.Path.{◌≡◌, refl, sym, ap, subst, ◌∙◌}
use mathlib.Core.Bool.{Bool, true, false, not, ◌&&◌, and-true, and-false}
use mathlib.Core.List.{List}
use Prim.Native.Nat.{ℕ, zero, suc, ◌+◌, ◌≤◌, ◌<◌}
use native.Mathlib.Omega.{arith}
use native.Mathlib.Numerals.{add-one}
use native.Mathlib.Nat.{add-zero, le_antisymm}
use lib.ListN.{length}
use lib.Dec.{eqb}
use borrow.Author.Tests.{eq-eqb, ne_eqb}
use Rattle.problem.specs.Masks.{bit, size, lowest}
use Rattle.problem.specs.Problem.{table_of}
use Rattle.problem.specs.Lists.{total, below, keep}
use Rattle.splits.specs.Subproblems.{domain}
use Rattle.splits.specs.Splits.{forbids, forbidden, instantiated_other}
use Rattle.splits.specs.Checks.{values_in, others, tried}
use Rattle.splits.specs.Loops.Around.{allowed, LookedAt}
use Rattle.splits.specs.declared.around.Around.{Around}
use Rattle.splits.specs.declared.subproblem.Subproblem.{Subproblem}
use Rattle.problem.proofs.mask.Masks.{bit_le}
use Rattle.problem.proofs.Tests.{some_more, some_at}
use Rattle.splits.proofs.checks.Looking.{counted_more, counted_same, looked_all, looked_stop}

-- the values of one variable more, or of V, which is not counted
module _ (P : Subproblem) (V' i sum : ℕ) (so_far : sum ≡ values_in (others V') i P) where
  pub values_more : (m s : ℕ) → (i ≡ V' → ⊥) → m ≡ domain P i → s ≡ size m → sum + s ≡ values_in (others V') (i + 1) P
  unfolding values_in others total
  values_more m s h e k = rw (add-one, ne_eqb i V' h, k, e, so_far)

  pub values_same : i ≡ V' → sum ≡ values_in (others V') (i + 1) P
  unfolding values_in others total
  values_same h = rw (add-one, eq-eqb i V' h, so_far) (sym (add-zero (values_in (others V') i P)))

-- a digit that is not 1 is 0
not_one : (b : ℕ) → b ≤ 1 → not (eqb b 1) ≡ eqb b 0
not_one zero h = refl
not_one (suc zero) h = refl
not_one (suc (suc b)) h = absurd (omega arith)

-- what the code reads of an instantiated variable says whether it forbids v
pub forbids_is : (n d : ℕ) (t : List ℕ) (P : Subproblem) (V' v i m a w : ℕ) (q : Bool) → m ≡ domain P i → a ≡ lowest m
    → w ≡ table_of n d t i V' a → q ≡ eqb (bit w v) 1 → not q ≡ forbids (table_of n d t) P V' v i
unfolding forbids
forbids_is n d t P V' v i m a w q e h s k = rw (k, s, h, e) (not_one _ (bit_le _ v))

-- whether a variable is looked at: another than V, if it is instantiated; V never
pub other_looked : (P : Subproblem) (V' i : ℕ) (q : Bool) → (i ≡ V' → ⊥) → q ≡ eqb (bit P.marked i) 1 → q ≡ instantiated_other P V' i
unfolding instantiated_other
other_looked P V' i q f e = simp (ne_eqb i V' f, and-true) e

pub own_passed : (P : Subproblem) (V' i : ℕ) → i ≡ V' → false ≡ instantiated_other P V' i
unfolding instantiated_other
own_passed P V' i e = simp (eq-eqb i V' e, and-false)

module _ (a : Around) where
  -- what the loop knows before it looks at i
  pub record Looking (i count : ℕ) : Type 0 where
    pub passed : count ≡ length (keep (instantiated_other a.top a.variable) (below i))
    pub none : forbidden i (allowed a) a.top a.variable a.value ≡ false

  module _ (i count : ℕ) (so_far : Looking i count) where
    pub look_more : (q f : Bool) → q ≡ instantiated_other a.top a.variable i → q ≡ true → f ≡ forbids (allowed a) a.top a.variable a.value i → f ≡ false → Looking (i + 1) (count + 1)
    unfolding forbidden
    look_more q f e h k l =
        let looked : instantiated_other a.top a.variable i ≡ true = sym e ∙ h in
        record {
          passed = ap (λ (x : ℕ). x + 1) so_far.passed ∙ sym (counted_more (instantiated_other a.top a.variable) (forbids (allowed a) a.top a.variable a.value) i looked);
          none = some_more (λ j. instantiated_other a.top a.variable j && forbids (allowed a) a.top a.variable a.value j) i so_far.none (rw (looked, ← k) l);
        }

    pub look_skip : (q : Bool) → q ≡ instantiated_other a.top a.variable i → q ≡ false → Looking (i + 1) count
    unfolding forbidden
    look_skip q e h =
        let passed_over : instantiated_other a.top a.variable i ≡ false = sym e ∙ h in
        record {
          passed = so_far.passed ∙ sym (counted_same (instantiated_other a.top a.variable) (forbids (allowed a) a.top a.variable a.value) i passed_over);
          none = some_more (λ j. instantiated_other a.top a.variable j && forbids (allowed a) a.top a.variable a.value j) i so_far.none (rw passed_over refl);
        }

    pub look_stop : (q f : Bool) → i < a.n → q ≡ instantiated_other a.top a.variable i → q ≡ true → f ≡ forbids (allowed a) a.top a.variable a.value i → f ≡ true
        → LookedAt a (count + 1) true
    unfolding forbidden tried others instantiated_other
    look_stop q f m e h k l =
        let looked : instantiated_other a.top a.variable i ≡ true = sym e ∙ h in
        record {
          counted =
              ap (λ (x : ℕ). x + 1) so_far.passed ∙ looked_stop (instantiated_other a.top a.variable) (forbids (allowed a) a.top a.variable a.value) a.n i m so_far.none looked
              (sym k ∙ l);
          met = sym (some_at (λ j. instantiated_other a.top a.variable j && forbids (allowed a) a.top a.variable a.value j) a.n i m (rw (looked, ← k) l));
        }

    pub look_end : (conflict : Bool) → i ≤ a.n → a.n ≤ i → conflict ≡ false → LookedAt a count conflict
    unfolding forbidden tried others instantiated_other
    look_end conflict l m e =
        let end : i ≡ a.n = le_antisymm l m in
        let all : ℕ → Type 0 = λ n. count ≡ tried (others a.variable) n (allowed a) a.top a.variable a.value in
        let none : ℕ → Type 0 = λ n. conflict ≡ forbidden n (allowed a) a.top a.variable a.value in
        record {
          counted =
              subst all end
              (so_far.passed ∙ looked_all (instantiated_other a.top a.variable) (forbids (allowed a) a.top a.variable a.value) i so_far.none);
          met = subst none end (e ∙ sym so_far.none);
        }
