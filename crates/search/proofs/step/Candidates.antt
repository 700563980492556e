-- The pieces that a request places are its candidates in order, empty ones dropped: what a loop over the candidates gathers.
-- Assumes nothing.
use mathlib.Core.Path.{◌≡◌, refl, sym, ap, ◌∙◌}
use mathlib.Core.Logic.{◌⊎◌, inl, inr, ⊎_elim}
use mathlib.Core.Bool.{Bool, true, false, not, cond}
use mathlib.Core.List.{List, [], ◌∷◌, ◌++◌, map, append_assoc, append-nil}
use Prim.Native.Nat.{ℕ, zero, suc, ◌+◌, ◌-◌, ◌≤◌, ◌<◌}
use native.Mathlib.Omega.{arith}
use native.Mathlib.Numerals.{add-one}
use native.Mathlib.Nat.{le_trans, le_refl}
use native.Mathlib.Decide.{ℕ_discrete}
use lib.ListN.{length, get_or, set, length-append}
use lib.Seq.{get_or-set_same}
use lib.Dec.{eqb}
use borrow.Author.Tests.{eq-eqb, ne_eqb}
use Rattle.problem.specs.Masks.{minus, common, single, smaller_half}
use Rattle.problem.specs.Problem.{table_of}
use Rattle.splits.specs.Subproblems.{domain, empty}
use Rattle.splits.specs.Requests.{kind_of, variable_of, value_of, target_of}
use Rattle.problem.specs.Lists.{below, keep, changed}
use Rattle.splits.specs.Splits.{pieces, named, candidates, candidate, backtracking, forward_checking, idc, halving, extraction, backtracked, checked, inferred, halved, extracted, instantiate, without, cut, at_targets, precluded, disjunct, extract, forbidden}
use Rattle.splits.specs.Calls.{readable}
use Rattle.splits.specs.declared.subproblem.Subproblem.{Subproblem}
use Rattle.problem.proofs.mask.Masks.{common_none, minus_self}
use Rattle.splits.proofs.subproblem.Domains.{length_changed, changed_after}
use Rattle.splits.proofs.subproblem.Subproblems.{empty_at}
use Rattle.problem.proofs.tables.Ranges.{inside_true}
use Rattle.splits.proofs.split.ByKind.{few, kinds, no_kind}

-- A piece if it is not empty.
unfoldable pub one : ℕ → Subproblem → List Subproblem
one n Q = cond (empty n Q) [] (Q ∷ [])

-- The first k candidates, empty ones dropped.
unfoldable pub firsts : ℕ → (ℕ → Subproblem) → ℕ → List Subproblem
firsts n f zero = []
firsts n f (suc k) = firsts n f k ++ one n (f k)

module _ (n : ℕ) where
  -- Those of a list that are not empty.
  filled : List Subproblem → List Subproblem
  filled l = keep (λ Q. not (empty n Q)) l

  -- An empty piece is dropped.
  one_empty : (Q : Subproblem) → empty n Q ≡ true → one n Q ≡ []
  unfolding one
  one_empty Q e = rw e

  -- Those of a list with one more in front.
  filled_more : (Q : Subproblem) (l : List Subproblem) → filled (Q ∷ l) ≡ one n Q ++ filled l
  unfolding filled keep one
  filled_more Q l = go (empty n Q)
    where
      go : (b : Bool)
          → cond (not b) (Q ∷ keep (λ Q. not (empty n Q)) l) (keep (λ Q. not (empty n Q)) l) ≡ cond b [] (Q ∷ []) ++ keep (λ Q. not (empty n Q)) l
      go true = refl
      go false = refl

  -- Those of the empty list.
  filled_none : filled [] ≡ []
  unfolding filled keep
  filled_none = refl

  -- Those of a list of two, and of one.
  filled_two : (Q R : Subproblem) → filled (Q ∷ R ∷ []) ≡ one n Q ++ one n R
  filled_two Q R = filled_more Q (R ∷ []) ∙ ap (λ (l : List Subproblem). one n Q ++ l) (filled_more R [] ∙ rw filled_none (append-nil (one n R)))

  filled_one : (Q : Subproblem) → filled (Q ∷ []) ≡ one n Q
  filled_one Q = filled_more Q [] ∙ rw filled_none (append-nil (one n Q))

  -- Two candidates.
  firsts_two : (f : ℕ → Subproblem) → firsts n f 2 ≡ one n (f 0) ++ one n (f 1)
  unfolding firsts
  firsts_two f = refl

  -- One number more of those that pass.
  peel_last : (h : ℕ → Subproblem) (t : ℕ → Bool) (m : ℕ) (l : List ℕ)
      → filled (map h (keep t (l ++ (m ∷ [])))) ≡ filled (map h (keep t l)) ++ cond (t m) (one n (h m)) []
  unfolding keep
  peel_last h t m [] = go (t m)
    where
      go : (b : Bool) → filled (map h (cond b (m ∷ []) [])) ≡ filled [] ++ cond b (one n (h m)) []
      go true = filled_one (h m) ∙ rw filled_none refl
      go false = sym (append-nil (filled []))
  peel_last h t m (x ∷ l) = go (t x) (peel_last h t m l)
    where
      go : (b : Bool) → filled (map h (keep t (l ++ (m ∷ [])))) ≡ filled (map h (keep t l)) ++ cond (t m) (one n (h m)) []
          → filled (map h (cond b (x ∷ keep t (l ++ (m ∷ []))) (keep t (l ++ (m ∷ [])))))
          ≡ filled (map h (cond b (x ∷ keep t l) (keep t l))) ++ cond (t m) (one n (h m)) []
      go true r =
          filled_more (h x) (map h (keep t (l ++ (m ∷ [])))) ∙ rw (r, filled_more (h x) (map h (keep t l)))
          (sym (append_assoc (one n (h x)) (filled (map h (keep t l))) (cond (t m) (one n (h m)) [])))
      go false r = r

  -- A request's further pieces, one for each variable that passes a test, where the candidate of any other is empty.
  firsts_peel : (f h : ℕ → Subproblem) (t : ℕ → Bool) (m : ℕ) → ((j : ℕ) → j < m → one n (f (suc j)) ≡ cond (t j) (one n (h j)) [])
      → firsts n f (suc m) ≡ one n (f 0) ++ filled (map h (keep t (below m)))
  unfolding firsts below keep
  firsts_peel f h t zero e = rw filled_none (sym (append-nil (one n (f 0))))
  firsts_peel f h t (suc m) e =
      rw (firsts_peel f h t m (λ j l. e j (omega arith)), e m (omega arith)) (append_assoc (one n (f 0)) (filled (map h (keep t (below m)))) (cond (t m) (one n (h m)) [])
      ∙ ap (λ (l : List Subproblem). one n (f 0) ++ l) (sym (peel_last h t m (below m))))

  -- A domain that is written is the one that is read.
  written : (l : List ℕ) (i x : ℕ) → length l ≡ 32 → i < n → n ≤ 32 → get_or (set l i x) i 0 ≡ x
  written l i x e h k = get_or-set_same l i x 0 (rw e (le_trans h k))

  -- V cut to nothing is empty.
  cut_none : (P : Subproblem) (V' : ℕ) → length P.domains ≡ 32 → V' < n → n ≤ 32 → one n (cut P V' 0) ≡ []
  unfolding cut
  cut_none P V' e h k =
      one_empty (cut P V' 0) (sym (empty_at n (cut P V' 0) V' h (written P.domains V' (common (domain P V') 0) e h k ∙ common_none (domain P V'))))

  -- A variable at its target already has an empty piece.
  same_none : (P : Subproblem) (r : List ℕ) (j : ℕ) → length P.domains ≡ 32 → j < n → n ≤ 32 → target_of r j ≡ domain P j
      → one n (extract P r j) ≡ []
  unfolding extract without at_targets
  same_none P r j e h k s =
      let front : List ℕ = changed j (λ i m. target_of r i) P.domains in
      let still : get_or front j 0 ≡ domain P j = changed_after j (λ i m. target_of r i) P.domains j (le_refl j) in
      let long : length front ≡ 32 = length_changed j (λ i m. target_of r i) P.domains ∙ e in
      one_empty (extract P r j) (sym (empty_at n (extract P r j) j h
      (written front j (minus (get_or front j 0) (target_of r j)) long h k ∙ rw (still, s) (minus_self (domain P j)))))

-- The pieces are the candidates that are not empty.
module _ (n d : ℕ) (t : List ℕ) (P : Subproblem) (r : List ℕ) (fits : readable n d t r ≡ true) (long : length P.domains ≡ 32) where
  -- What is to be shown.
  Same : Type 0
  Same = pieces n (table_of n d t) P r ≡ firsts n (candidate n (table_of n d t) P r) (candidates n r)

  -- At most 32 variables.
  low : n ≤ 32
  low = few n d t r fits

  -- Kinds 1 and 3: V is a variable.
  below_n : (kind_of r ≡ 1) ⊎ (kind_of r ≡ 3) → variable_of r < n
  unfolding readable
  below_n h = (inside_true n d t (variable_of r) (value_of r) (⊎_elim (λ e. rw e at fits) (λ e. rw e at fits) h)).a_variable

  -- From the list that is named, and how many candidates there are.
  by : (l : List Subproblem) (m : ℕ) → named n (table_of n d t) P r ≡ l → candidates n r ≡ m
      → filled n l ≡ firsts n (candidate n (table_of n d t) P r) m → Same
  unfolding pieces filled Same
  by l m e c h = rw (e, c) h

  -- Two candidates.
  by_two : (Q R : Subproblem) → named n (table_of n d t) P r ≡ Q ∷ R ∷ [] → candidates n r ≡ 2
      → candidate n (table_of n d t) P r 0 ≡ Q → candidate n (table_of n d t) P r 1 ≡ R → Same
  by_two Q R e c f g =
      by (Q ∷ R ∷ []) 2 e c (filled_two n Q R ∙ sym (firsts_two n (candidate n (table_of n d t) P r) ∙ rw (f, g) refl))

  -- Kind by kind. Backtracking: a value that is forbidden makes an empty candidate.
  of_1 : kind_of r ≡ 1 → Same
  unfolding named candidates candidate backtracking backtracked
  of_1 e = go (forbidden n (table_of n d t) P (variable_of r) (value_of r)) refl
    where
      go : (b : Bool) → forbidden n (table_of n d t) P (variable_of r) (value_of r) ≡ b → Same
      go true s =
          let zeroth : candidate n (table_of n d t) P r 0 ≡ cut P (variable_of r) 0 = rw (e, s) refl in
          let first : candidate n (table_of n d t) P r 1 ≡ without P (variable_of r) (single (value_of r)) = rw e refl in
          by (without P (variable_of r) (single (value_of r)) ∷ []) 2 (rw (e, s) refl) (rw e refl)
          (filled_one n (without P (variable_of r) (single (value_of r))) ∙ sym (firsts_two n (candidate n (table_of n d t) P r)
          ∙ rw (zeroth, first, cut_none n P (variable_of r) long (below_n (inl e)) low) refl))
      go false s =
          by_two (instantiate P (variable_of r) (value_of r)) (without P (variable_of r) (single (value_of r))) (rw (e, s) refl) (rw e refl)
          (rw (e, s) refl) (rw e refl)

  -- Forward checking.
  of_2 : kind_of r ≡ 2 → Same
  unfolding named candidates candidate forward_checking checked
  of_2 e =
      by_two (precluded n (table_of n d t) P (variable_of r) (value_of r)) (without P (variable_of r) (single (value_of r)))
      (rw e refl) (rw e refl) (rw e refl) (rw e refl)

  -- IDC: the candidate for V itself is empty.
  of_3 : kind_of r ≡ 3 → Same
  unfolding named candidates candidate idc inferred
  of_3 e =
      let first : Subproblem = precluded n (table_of n d t) P (variable_of r) (value_of r) in
      let further : ℕ → Subproblem = disjunct (table_of n d t) P (variable_of r) (value_of r) in
      let other : ℕ → Bool = λ j. not (eqb j (variable_of r)) in
      by (first ∷ map further (keep other (below n))) (n + 1) (rw e refl) (rw e refl)
      (filled_more n first (map further (keep other (below n)))
      ∙ sym (rw add-one (firsts_peel n (candidate n (table_of n d t) P r) further other n at ∙ rw e refl)))
    where
      at : (j : ℕ) → j < n → one n (candidate n (table_of n d t) P r (suc j))
          ≡ cond (not (eqb j (variable_of r))) (one n (disjunct (table_of n d t) P (variable_of r) (value_of r) j)) []
      at j l =
          let back : suc j - 1 ≡ j = omega arith in
          let later : eqb (suc j) 0 ≡ false = ne_eqb (suc j) 0 (λ z. omega arith) in
          elim (ℕ_discrete j (variable_of r)) [
            | yes s ↦ rw (e, later, back, eq-eqb j (variable_of r) s) (cut_none n P (variable_of r) long (below_n (inr e)) low)
            | no s ↦ rw (e, later, back, ne_eqb j (variable_of r) s) refl
          ]

  -- Halving.
  of_4 : kind_of r ≡ 4 → Same
  unfolding named candidates candidate halving halved
  of_4 e =
      by_two (cut P (variable_of r) (smaller_half (domain P (variable_of r)))) (without P (variable_of r) (smaller_half (domain P (variable_of r))))
      (rw e refl) (rw e refl) (rw e refl) (rw e refl)

  -- Extraction: the candidate for a variable at its target already is empty.
  of_5 : kind_of r ≡ 5 → Same
  unfolding named candidates candidate extraction extracted
  of_5 e =
      let differs : ℕ → Bool = λ j. not (eqb (target_of r j) (domain P j)) in
      by (at_targets P r n ∷ map (extract P r) (keep differs (below n))) (n + 1) (rw e refl) (rw e refl)
      (filled_more n (at_targets P r n) (map (extract P r) (keep differs (below n)))
      ∙ sym (rw add-one (firsts_peel n (candidate n (table_of n d t) P r) (extract P r) differs n at ∙ rw e refl)))
    where
      at : (j : ℕ) → j < n → one n (candidate n (table_of n d t) P r (suc j))
          ≡ cond (not (eqb (target_of r j) (domain P j))) (one n (extract P r j)) []
      at j l =
          let back : suc j - 1 ≡ j = omega arith in
          let later : eqb (suc j) 0 ≡ false = ne_eqb (suc j) 0 (λ z. omega arith) in
          elim (ℕ_discrete (target_of r j) (domain P j)) [
            | yes s ↦ rw (e, later, back, eq-eqb (target_of r j) (domain P j) s) (same_none n P r j long l low s)
            | no s ↦ rw (e, later, back, ne_eqb (target_of r j) (domain P j) s) refl
          ]

  -- No kind.
  of_none : (k : ℕ) → (k < 1) ⊎ (5 < k) → kind_of r ≡ k → Same
  unfolding named candidates filled keep firsts
  of_none k h e = by [] 0 (rw e (no_kind k _ _ _ _ _ _ h)) (rw e (no_kind k _ _ _ _ _ _ h)) refl

  -- So of any request whose words fit.
  pub pieces_are : pieces n (table_of n d t) P r ≡ firsts n (candidate n (table_of n d t) P r) (candidates n r)
  unfolding Same
  pieces_are = kinds (λ k. kind_of r ≡ k → Same) of_1 of_2 of_3 of_4 of_5 of_none (kind_of r) refl

-- No more of them than candidates.
pub firsts_le : (n : ℕ) (f : ℕ → Subproblem) (k : ℕ) → length (firsts n f k) ≤ k
unfolding firsts one
firsts_le n f zero = le_refl 0
firsts_le n f (suc k) = simp length-append (go (empty n (f k)) (firsts_le n f k))
  where
    go : (b : Bool) → length (firsts n f k) ≤ k → length (firsts n f k) + length (cond b [] (f k ∷ [])) ≤ suc k
    go true h = omega arith
    go false h = omega arith

-- Of no candidates there are none.
pub firsts_start : (n : ℕ) (f : ℕ → Subproblem) → length (firsts n f 0) ≡ 0
unfolding firsts
firsts_start n f = refl

-- One candidate more, empty or not.
pub firsts_drop : (n : ℕ) (f : ℕ → Subproblem) (k : ℕ) → empty n (f k) ≡ true → firsts n f (k + 1) ≡ firsts n f k
unfolding firsts one
firsts_drop n f k e = rw (add-one, e) (append-nil (firsts n f k))

-- A candidate that is not empty comes last.
pub firsts_keep : (n : ℕ) (f : ℕ → Subproblem) (k : ℕ) → empty n (f k) ≡ false → firsts n f (k + 1) ≡ firsts n f k ++ (f k ∷ [])
unfolding firsts one
firsts_keep n f k e = rw (add-one, e) refl
