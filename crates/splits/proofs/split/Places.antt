-- The five splits' functions: from what the functions that they call hand back, what stands in the k-th place. Assumes nothing.
use mathlib.Core.Path.{◌≡◌, sym, ap, ◌∙◌}
use mathlib.Core.Bool.{Bool, true, false, cond}
use mathlib.Core.List.{List}
use Prim.Native.Nat.{ℕ, ◌-◌, ◌≤◌, ◌<◌}
use native.Mathlib.Omega.{arith}
use lib.ListN.{length, get_or}
use lib.Dec.{eqb}
use borrow.Author.Tests.{eq-eqb, ne_eqb, lt-ltb}
use Rattle.problem.specs.Masks.{single, smaller_half}
use Rattle.problem.specs.Problem.{Table, table_of}
use Rattle.splits.specs.Subproblems.{domain}
use Rattle.splits.specs.Requests.{target_of}
use Rattle.splits.specs.Splits.{instantiate, without, cut, cut_beside, at_targets, precluded, disjunct, extract, forbidden, backtracked, checked, inferred, halved, extracted}
use Rattle.splits.specs.Calls.{Instantiate, Precluded}
use Rattle.splits.specs.Loops.Kinds.{cut_before}
use Rattle.problem.specs.Beside.{RowOf}
use Rattle.problem.specs.Calls.{Only, Row}
use Rattle.problem.proofs.mask.Masks.{only_is}
use Rattle.splits.proofs.subproblem.Rows.{row_made, before_beside}
use Rattle.problem.specs.Ranges.{Inside}
use Rattle.splits.specs.declared.subproblem.Subproblem.{Subproblem}
use Rattle.problem.proofs.tables.Ranges.{inside_is}

-- of two answers, the one that the test picks
pub picked : {A : Type 0} (t : Bool) (x y : A) → t ≡ true → cond t x y ≡ x
picked t x y e = ap (λ (b : Bool). cond b x y) e

pub passed : {A : Type 0} (t : Bool) (x y : A) → t ≡ false → cond t x y ≡ y
passed t x y e = ap (λ (b : Bool). cond b x y) e

-- the first place, and a later one
first : {A : Type 0} (k : ℕ) (x y : A) → k ≡ 0 → x ≡ cond (eqb k 0) x y
first k x y e = sym (picked (eqb k 0) x y (eq-eqb k 0 e))

later : {A : Type 0} (k : ℕ) (x y : A) → (k ≡ 0 → ⊥) → y ≡ cond (eqb k 0) x y
later k x y f = sym (passed (eqb k 0) x y (ne_eqb k 0 f))

-- the mask of v alone
pub its_only : (n d : ℕ) (t : List ℕ) (V' v m : ℕ) → Inside n d t V' v → Only v m → m ≡ single v
its_only n d t V' v m h e = only_is v m (omega (arith, h.a_value, h.fit.small)) e

module _ (n d : ℕ) (t : List ℕ) (P : Subproblem) (V' v k : ℕ) (Q : Subproblem) (h : Inside n d t V' v) where
  instantiated_is : Instantiate P V' v Q → Q ≡ instantiate P V' v
  instantiated_is e = e ∙ rw (lt-ltb V' 32 (omega (arith, h.a_variable, h.fit.few)), lt-ltb v 16 (omega (arith, h.a_value, h.fit.small)))

  -- by the row of v
  module _ (row : List ℕ) (its : Row n d t V' v row) where
    pub its_row : RowOf n (table_of n d t) V' v row
    its_row = its.within (inside_is n d t V' v h)

    module _ (long : length P.domains ≡ 32) (small : (i : ℕ) → i < 32 → domain P i < 65536) (e : Precluded P V' row Q) where
      precluded_is : Q ≡ precluded n (table_of n d t) P V' v
      precluded_is =
          e ∙ picked _ _ _ (lt-ltb V' 32 (omega (arith, h.a_variable, h.fit.few)))
          ∙ row_made n (table_of n d t) V' v row h.fit.few its_row P long small h.a_variable

      pub checked_first : k ≡ 0 → Q ≡ checked n (table_of n d t) P V' v k
      unfolding checked
      checked_first z = precluded_is ∙ first k _ _ z

      pub inferred_first : k ≡ 0 → Q ≡ inferred n (table_of n d t) P V' v k
      unfolding inferred
      inferred_first z = precluded_is ∙ first k _ _ z

  pub backtracked_none : k ≡ 0 → (b : Bool) → b ≡ forbidden n (table_of n d t) P V' v → b ≡ true → Q ≡ cut P V' 0
      → Q ≡ backtracked n (table_of n d t) P V' v k
  unfolding backtracked
  backtracked_none z b m s e = e ∙ sym (picked _ _ _ (sym m ∙ s)) ∙ first k _ _ z

  pub backtracked_first : k ≡ 0 → (b : Bool) → b ≡ forbidden n (table_of n d t) P V' v → b ≡ false → Instantiate P V' v Q
      → Q ≡ backtracked n (table_of n d t) P V' v k
  unfolding backtracked
  backtracked_first z b m s e = instantiated_is e ∙ sym (passed _ _ _ (sym m ∙ s)) ∙ first k _ _ z

module _ (n : ℕ) (allowed : Table) (P : Subproblem) (V' v k : ℕ) (Q : Subproblem) (f : k ≡ 0 → ⊥) where
  pub backtracked_rest : (m : ℕ) → m ≡ single v → Q ≡ without P V' m → Q ≡ backtracked n allowed P V' v k
  unfolding backtracked
  backtracked_rest m o e = e ∙ ap (without P V') o ∙ later k _ _ f

  pub checked_rest : (m : ℕ) → m ≡ single v → Q ≡ without P V' m → Q ≡ checked n allowed P V' v k
  unfolding checked
  checked_rest m o e = e ∙ ap (without P V') o ∙ later k _ _ f

  pub inferred_none : k - 1 ≡ V' → Q ≡ cut P V' 0 → Q ≡ inferred n allowed P V' v k
  unfolding inferred
  inferred_none s e = e ∙ sym (picked _ _ _ (eq-eqb (k - 1) V' s)) ∙ later k _ _ f

  pub inferred_later : n ≤ 32 → k ≤ n → (k - 1 ≡ V' → ⊥) → (row : List ℕ) → RowOf n allowed V' v row → (m : ℕ) → m ≡ single v → (R : Subproblem)
      → R ≡ without P V' m → (S : Subproblem) → S ≡ cut_before R V' row (k - 1) → Q ≡ without S (k - 1) (get_or row (k - 1) 0)
      → Q ≡ inferred n allowed P V' v k
  unfolding inferred disjunct
  inferred_later few up g row its m o R r S s e =
      e ∙ ap (without S (k - 1)) (its.other (k - 1) (omega (arith, f)) g) ∙ ap (λ (X : Subproblem). without X (k - 1) (allowed V' (k - 1) v))
      (s ∙ before_beside n allowed V' v row few its R (k - 1) (omega arith) ∙ ap (λ (X : Subproblem). cut_beside allowed X V' v (k - 1)) (r ∙ ap (without P V') o))
      ∙ sym (passed _ _ _ (ne_eqb (k - 1) V' g)) ∙ later k _ _ f

module _ (P : Subproblem) (V' k m h : ℕ) (Q : Subproblem) (own : m ≡ domain P V') (half : h ≡ smaller_half m) where
  pub halved_first : k ≡ 0 → Q ≡ cut P V' h → Q ≡ halved P V' k
  unfolding halved
  halved_first z e = e ∙ ap (cut P V') (half ∙ ap smaller_half own) ∙ first k _ _ z

  pub halved_rest : (k ≡ 0 → ⊥) → Q ≡ without P V' h → Q ≡ halved P V' k
  unfolding halved
  halved_rest f e = e ∙ ap (without P V') (half ∙ ap smaller_half own) ∙ later k _ _ f

module _ (n : ℕ) (P : Subproblem) (r : List ℕ) (k : ℕ) (Q : Subproblem) where
  pub extracted_first : k ≡ 0 → Q ≡ at_targets P r n → Q ≡ extracted n P r k
  unfolding extracted
  extracted_first z e = e ∙ first k _ _ z

  pub extracted_later : (k ≡ 0 → ⊥) → (R : Subproblem) → R ≡ at_targets P r (k - 1) → (t : ℕ) → t ≡ target_of r (k - 1)
      → Q ≡ without R (k - 1) t → Q ≡ extracted n P r k
  unfolding extracted extract
  extracted_later f R g t o e =
      e ∙ ap (without R (k - 1)) o ∙ ap (λ (X : Subproblem). without X (k - 1) (target_of r (k - 1))) g ∙ later k _ _ f
