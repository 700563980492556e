-- What the refusal of a request tells: of one that is accepted the words fit, the targets are parts of the domains, and its checks are few.
-- Assumes nothing.
use mathlib.Core.Path.{◌≡◌, refl, sym, ◌∙◌}
use mathlib.Core.Logic.{◌⊎◌, inl, inr}
use mathlib.Core.Bool.{Bool, true, false, cond, ◌||◌}
use mathlib.Core.List.{List}
use Prim.Native.Nat.{ℕ, ◌≤◌, ◌<◌}
use native.Mathlib.Omega.{arith}
use lib.ListN.{length}
use lib.Dec.{eqb, leb, ltb}
use borrow.Author.Tests.{leb-false, ltb-false, le-leb, lt-ltb, eq-eqb, ne_eqb, eqb-true, eqb-false, not-false}
use Rattle.problem.specs.Masks.{bit, Part, minus}
use Rattle.problem.specs.Problem.{table_of}
use Rattle.splits.specs.Subproblems.{domain}
use Rattle.splits.specs.Requests.{kind_of, variable_of, value_of, target_of}
use Rattle.splits.specs.Splits.{pieces}
use Rattle.splits.specs.Tests.Refusals.{refusal_of, refused_7, refused_8, refused_9, refused_10, some_bad, all_same, bad}
use Rattle.splits.specs.Calls.{readable, RefusalOf}
use Rattle.problem.specs.Ranges.{inside, Sized}
use Rattle.splits.specs.declared.subproblem.Subproblem.{Subproblem}
use Rattle.problem.proofs.mask.Masks.{minus_part_of}
use Rattle.problem.proofs.Tests.{or_left, or_right, some_none, true_false}
use Rattle.problem.proofs.tables.Ranges.{inside_is}
use Rattle.splits.proofs.split.ByKind.{kinds}
use Rattle.search.specs.Loops.Steps.{refusal_for}

-- A refusal that is none was not given by the first test, and not by those after it.
pub not_first : (b : Bool) (x y : ℕ) → (x ≡ 0 → ⊥) → cond b x y ≡ 0 → b ≡ false
not_first true x y h e = absurd (h e)
not_first false x y h e = refl

-- Those after it gave none either.
pub then_none : (b : Bool) (x y : ℕ) → (x ≡ 0 → ⊥) → cond b x y ≡ 0 → y ≡ 0
then_none true x y h e = absurd (h e)
then_none false x y h e = e

module _ (n d : ℕ) (P : Subproblem) (r : List ℕ) (accepted : refusal_of n d P r ≡ 0) where
  -- None of the four tests refuses.
  unrefused_7 : refused_7 r ≡ false
  unfolding refusal_of
  unrefused_7 = not_first (refused_7 r) 7 _ (λ z. omega arith) accepted

  -- What the tests after 7 and after 8 gave.
  after_7 : ◌≡◌ {A = ℕ} (cond (refused_8 n P r) 8 (cond (refused_9 d P r) 9 (cond (refused_10 n P r) 10 0))) 0
  unfolding refusal_of
  after_7 = then_none (refused_7 r) 7 _ (λ z. omega arith) accepted

  unrefused_8 : refused_8 n P r ≡ false
  unrefused_8 = not_first (refused_8 n P r) 8 _ (λ z. omega arith) after_7

  after_8 : ◌≡◌ {A = ℕ} (cond (refused_9 d P r) 9 (cond (refused_10 n P r) 10 0)) 0
  after_8 = then_none (refused_8 n P r) 8 _ (λ z. omega arith) after_7

  unrefused_9 : refused_9 d P r ≡ false
  unrefused_9 = not_first (refused_9 d P r) 9 _ (λ z. omega arith) after_8

  unrefused_10 : refused_10 n P r ≡ false
  unrefused_10 = not_first (refused_10 n P r) 10 0 (λ z. omega arith) (then_none (refused_9 d P r) 9 _ (λ z. omega arith) after_8)

  -- Kinds 1 to 4: V is a variable.
  pub its_variable : (k : ℕ) → kind_of r ≡ k → k ≤ 4 → variable_of r < n
  unfolding refused_8
  its_variable k e h =
      leb-false n (variable_of r) (or_left (leb n (variable_of r)) (eqb (bit P.marked (variable_of r)) 1) (rw (e, le-leb k 4 h) at unrefused_8))

  -- Kinds 1 to 3: v is a value.
  pub its_value : (k : ℕ) → kind_of r ≡ k → k ≤ 3 → value_of r < d
  unfolding refused_9
  its_value k e h =
      leb-false d (value_of r) (or_left (leb d (value_of r)) (eqb (bit (domain P (variable_of r)) (value_of r)) 0)
      (or_left (leb d (value_of r) || eqb (bit (domain P (variable_of r)) (value_of r)) 0) _ (rw (e, le-leb k 3 h) at unrefused_9)))

  -- Kind 5: each target is part of the domain.
  pub its_target : kind_of r ≡ 5 → (i : ℕ) → i < n → Part (target_of r i) (domain P i)
  unfolding refused_10 some_bad bad
  its_target e i h =
      let none : some_bad n P r ≡ false = or_left (some_bad n P r) (all_same n P r) (rw e at unrefused_10) in
      let fine : bad (target_of r i) (domain P i) ≡ false = some_none (λ i. bad (target_of r i) (domain P i)) n i h none in
      minus_part_of (target_of r i) (domain P i)
      (eqb-true (minus (target_of r i) (domain P i)) 0 (not-false (eqb (minus (target_of r i) (domain P i)) 0) (or_right (eqb (target_of r i) 0) _ fine)))

  -- Its kind is 1 to 5.
  pub a_kind : (k : ℕ) → kind_of r ≡ k → (k < 1) ⊎ (5 < k) → ⊥
  unfolding refused_7
  a_kind k e (inl h) = true_false (sym (lt-ltb k 1 h) ∙ or_left (ltb k 1) (ltb 5 k) (rw e at unrefused_7))
  a_kind k e (inr h) = true_false (sym (lt-ltb 5 k h) ∙ or_right (ltb k 1) (ltb 5 k) (rw e at unrefused_7))

  -- The words that its kind reads fit.
  pub accepted_reads : (t : List ℕ) → Sized n d t → readable n d t r ≡ true
  unfolding readable
  accepted_reads t f = kinds (λ k. kind_of r ≡ k → readable n d t r ≡ true)
      (λ e. rw e (both (its_variable 1 e (omega arith)) (its_value 1 e (omega arith))))
      (λ e. rw e (both (its_variable 2 e (omega arith)) (its_value 2 e (omega arith))))
      (λ e. rw e (both (its_variable 3 e (omega arith)) (its_value 3 e (omega arith))))
      (λ e. rw (e, le-leb n 32 f.few, lt-ltb (variable_of r) n (its_variable 4 e (omega arith))) refl)
      (λ e. rw (e, le-leb n 32 f.few) refl) (λ k h e. absurd (a_kind k e h)) (kind_of r) refl
    where
      both : variable_of r < n → value_of r < d → inside n d t (variable_of r) (value_of r) ≡ true
      both h k =
          inside_is n d t (variable_of r) (value_of r)
          (record { fit = f; a_variable = h; a_value = k })

-- ---- the refusal, test by test
module _ (n d : ℕ) (t : List ℕ) (P : Subproblem) (r : List ℕ) (steps free : ℕ) where
  -- 11.
  pub refused_at_11 : steps ≡ 4294967295 → 11 ≡ refusal_for n d t P r steps free
  unfolding refusal_for
  refused_at_11 e = rw (eq-eqb steps 4294967295 e) refl

  module _ (go_on : steps ≡ 4294967295 → ⊥) (refused : ℕ) (its : RefusalOf P n d r refused) where
    -- 7 to 10.
    pub refused_by_top : (refused ≡ 0 → ⊥) → refused ≡ refusal_for n d t P r steps free
    unfolding refusal_for
    refused_by_top h = its ∙ rw (ne_eqb steps 4294967295 go_on, ne_eqb (refusal_of n d P r) 0 (λ z. h (its ∙ z))) refl

    -- 12.
    pub refused_at_12 : (b : Bool) → refused ≡ 0 → b ≡ ltb free (length (pieces n (table_of n d t) P r)) → b ≡ true
        → 12 ≡ refusal_for n d t P r steps free
    unfolding refusal_for
    refused_at_12 b h e z = rw (ne_eqb steps 4294967295 go_on, eq-eqb (refusal_of n d P r) 0 (sym its ∙ h), ← e, z) refl

    -- None.
    pub refused_by_none : (b : Bool) → refused ≡ 0 → b ≡ ltb free (length (pieces n (table_of n d t) P r)) → b ≡ false
        → 0 ≡ refusal_for n d t P r steps free
    unfolding refusal_for
    refused_by_none b h e z = rw (ne_eqb steps 4294967295 go_on, eq-eqb (refusal_of n d P r) 0 (sym its ∙ h), ← e, z) refl

-- What a request tells that meets no refusal.
pub record Unrefused (n d : ℕ) (t : List ℕ) (P : Subproblem) (r : List ℕ) (steps free : ℕ) : Type 0 where
  pub more : steps ≡ 4294967295 → ⊥
  pub accepted : refusal_of n d P r ≡ 0
  pub room : length (pieces n (table_of n d t) P r) ≤ free

-- The test of the code tells it.
pub unrefused : (n d : ℕ) (t : List ℕ) (P : Subproblem) (r : List ℕ) (steps free : ℕ) → refusal_for n d t P r steps free ≡ 0
    → Unrefused n d t P r steps free
unfolding refusal_for
unrefused n d t P r steps free e =
    go (eqb (refusal_of n d P r) 0) refl (then_none (eqb steps 4294967295) 11 _ (λ z. omega arith) e)
  where
    go : (b : Bool) → eqb (refusal_of n d P r) 0 ≡ b → cond b (cond (ltb free (length (pieces n (table_of n d t) P r))) 12 0) (refusal_of n d P r) ≡ 0
        → Unrefused n d t P r steps free
    go true s f = record {
      more = eqb-false steps 4294967295 (not_first (eqb steps 4294967295) 11 _ (λ z. omega arith) e);
      accepted = eqb-true (refusal_of n d P r) 0 s;
      room =
          ltb-false free (length (pieces n (table_of n d t) P r))
          (not_first (ltb free (length (pieces n (table_of n d t) P r))) 12 0 (λ z. omega arith) f);
    }
    go false s f = absurd (eqb-false (refusal_of n d P r) 0 s f)
