-- What stands in the tables for a variable with itself is never read: tables that agree elsewhere have the same pieces and the same checks.
-- Assumes nothing.
use mathlib.Core.Path.{◌≡◌, refl, sym, ap, ◌∙◌, subst}
use mathlib.Core.Bool.{Bool, true, false, cond, ◌&&◌}
use mathlib.Core.List.{List, [], ◌∷◌, Memᴰ, map-id}
use Prim.Native.Nat.{ℕ, ◌+◌, ◌-◌, ◌≤◌, ◌<◌}
use native.Mathlib.Omega.{arith}
use native.Mathlib.Nat.{le_refl}
use native.Mathlib.Decide.{dec_lt}
use lib.Dec.{eqb, ltb}
use borrow.Author.Tests.{eqb-true, eqb-false, ltb-true, not-true}
use Rattle.problem.specs.Masks.{bit, single, common, lowest}
use Rattle.problem.specs.Problem.{Table, table_of, AgreeApart}
use Rattle.splits.specs.Subproblems.{domain}
use Rattle.splits.specs.Requests.{kind_of, variable_of, value_of}
use Rattle.problem.specs.Lists.{below, keep}
use Rattle.splits.specs.Splits.{instantiate, without, cut_beside, forbids, instantiated_other, forbidden, precluded, disjunct, by_kind, backtracked, checked, inferred, candidates, candidate}
use Rattle.splits.specs.Checks.{looked_at, others, tried, checks}
use Rattle.problem.specs.Ranges.{sized, inside}
use Rattle.splits.specs.Calls.{readable, Piece, ChecksOf}
use Rattle.splits.specs.declared.subproblem.Subproblem.{Subproblem}
use Rattle.problem.proofs.Tests.{and_left, and_right, some_same}
use Rattle.problem.proofs.tables.Ranges.{inside_true, word_none}
use Rattle.problem.proofs.Lists.{each_of}
use Rattle.splits.proofs.split.ByKind.{one_to_three, kind_3}
use Rattle.splits.proofs.refusal.Refusals.{changed_same}

-- ---- what a test picks

-- two choices by one test are the same where the answers that it can pick are
cond_same : {A : Type 0} {x x' y y' : A} (t : Bool) → (t ≡ true → x ≡ x') → (t ≡ false → y ≡ y') → cond t x y ≡ cond t x' y'
cond_same true h k = h refl
cond_same false h k = k refl

and_same : {b c : Bool} (a : Bool) → (a ≡ true → b ≡ c) → (a && b) ≡ (a && c)
and_same true h = h refl
and_same false h = refl

-- so are two choices by kind, where only kinds 1 to 3 read the tables
pub kind_same : {A : Type 0} {a a' b b' c c' : A} (k : ℕ) (d e other : A) → (k ≡ 1 → a ≡ a') → (k ≡ 2 → b ≡ b') → (k ≡ 3 → c ≡ c')
    → by_kind k a b c d e other ≡ by_kind k a' b' c' d e other
kind_same k d e other one two three =
    cond_same (eqb k 1) (λ z. one (eqb-true k 1 z)) (λ f.
    cond_same (eqb k 2) (λ z. two (eqb-true k 2 z)) (λ g.
    cond_same (eqb k 3) (λ z. three (eqb-true k 3 z)) (λ h. refl)))

-- a number kept of those below n is below n and passes
pub kept_lt : (t : ℕ → Bool) (n j : ℕ) → Memᴰ j (keep t (below n)) → (j < n) × (t j ≡ true)
kept_lt t n j m = each_of (λ j. (j < n) × (t j ≡ true)) (λ j. j) t n (λ j l e. (l, e)) j (rw (map-id (keep t (below n))) m)

looked_same : (f g : ℕ → Bool) (l : List ℕ) → ((j : ℕ) → Memᴰ j l → f j ≡ g j) → looked_at f l ≡ looked_at g l
unfolding looked_at
looked_same f g [] h = refl
looked_same f g (x ∷ l) h = rw (h x (Memᴰ.head refl), looked_same f g l (λ j m. h j (Memᴰ.tail m))) refl

-- ---- two tables that hold the same where V and v read

module _ (n : ℕ) (f g : Table) (P : Subproblem) (V' v : ℕ) where
  -- where the masks beside v are the same
  module _ (same : (i : ℕ) → i < n → (V' ≡ i → ⊥) → f V' i v ≡ g V' i v) where
    beside_same : (Q : Subproblem) (j : ℕ) → j ≤ n → cut_beside f Q V' v j ≡ cut_beside g Q V' v j
    unfolding cut_beside
    beside_same Q j l =
        let e =
        changed_same j (λ i m. cond (eqb i V') m (common m (f V' i v))) (λ i m. cond (eqb i V') m (common m (g V' i v))) Q.domains
        (λ i k m. cond_same (eqb i V') (λ z. refl) (λ z. ap (common m) (same i (omega arith) (λ q. eqb-false i V' z (sym q))))) in
        λ t. record { domains = e t; marked = Q.marked }

    pub precluded_same : precluded n f P V' v ≡ precluded n g P V' v
    unfolding precluded
    precluded_same = ap (λ Q. instantiate Q V' v) (beside_same P n (le_refl n))

    pub disjunct_same : (j : ℕ) → j < n → (V' ≡ j → ⊥) → disjunct f P V' v j ≡ disjunct g P V' v j
    unfolding disjunct
    disjunct_same j l q = rw (beside_same (without P V' (single v)) j (omega arith), same j l q) refl

    inferred_same : (k : ℕ) → k ≤ n → inferred n f P V' v k ≡ inferred n g P V' v k
    unfolding inferred
    inferred_same k l =
        cond_same (eqb k 0) (λ z. precluded_same) (λ z.
        let some : k ≡ 0 → ⊥ = eqb-false k 0 z in
        cond_same (eqb (k - 1) V') (λ y. refl) (λ y. disjunct_same (k - 1) (omega arith) (λ q. eqb-false (k - 1) V' y (sym q))))

  -- where each other variable forbids v in both or in neither
  module _ (same : (i : ℕ) → i < n → (i ≡ V' → ⊥) → forbids f P V' v i ≡ forbids g P V' v i) where
    other_same : (i : ℕ) → i < n → instantiated_other P V' i ≡ true → forbids f P V' v i ≡ forbids g P V' v i
    unfolding instantiated_other
    other_same i l e = same i l (eqb-false i V' (not-true (eqb i V') (and_right (eqb (bit P.marked i) 1) _ e)))

    pub forbidden_same : forbidden n f P V' v ≡ forbidden n g P V' v
    unfolding forbidden
    forbidden_same = some_same _ _ n (λ i l. and_same (instantiated_other P V' i) (other_same i l))

    pub tried_same : tried (others V') n f P V' v ≡ tried (others V') n g P V' v
    unfolding tried others instantiated_other
    tried_same = looked_same _ _ _ (λ i m. let (l, e) = kept_lt (instantiated_other P V') n i m in other_same i l e)

-- of the tables only their length is asked
inside_same : (n d : ℕ) (tables others : List ℕ) → AgreeApart n d tables others → (V' v : ℕ) → inside n d tables V' v ≡ inside n d others V' v
unfolding inside sized
inside_same n d tables others h V' v = rw h.words refl

-- ---- the two calls

module _ (n d : ℕ) (tables others : List ℕ) (h : AgreeApart n d tables others) (P : Subproblem) (r : List ℕ) where
  -- what either list of words allows
  abbrev f : Table
  f = table_of n d tables

  abbrev g : Table
  g = table_of n d others

  -- beside what is none of the d values neither allows anything
  masks_same : (i j a : ℕ) → i < n → j < n → (i ≡ j → ⊥) → f i j a ≡ g i j a
  masks_same i j a l k q = elim (dec_lt a d) [
    | yes m ↦ h.masks i j a l k q m
    | no m ↦ word_none n d tables i j a (omega arith) ∙ sym (word_none n d others i j a (omega arith))
  ]

  forbids_same : variable_of r < n → (i : ℕ) → i < n → (i ≡ variable_of r → ⊥)
      → forbids f P (variable_of r) (value_of r) i ≡ forbids g P (variable_of r) (value_of r) i
  unfolding forbids
  forbids_same l i k q = ap (λ m. eqb (bit m (value_of r)) 0) (masks_same i (variable_of r) (lowest (domain P i)) k l q)

  readable_same : readable n d tables r ≡ readable n d others r
  unfolding readable
  readable_same = rw (inside_same n d tables others h (variable_of r) (value_of r)) refl

  module _ (fits : readable n d tables r ≡ true) where
    -- kinds 1 to 3 name a variable
    a_variable : 1 ≤ kind_of r → kind_of r ≤ 3 → variable_of r < n
    unfolding readable
    a_variable l m =
        (inside_true n d tables (variable_of r) (value_of r)
        (sym (one_to_three (kind_of r) _ _ _ _ (λ z. absurd (omega arith)) (omega arith)) ∙ fits)).a_variable

    candidate_same : (k : ℕ) → k < candidates n r → candidate n f P r k ≡ candidate n g P r k
    unfolding candidate candidates backtracked checked
    candidate_same k more =
        kind_same (kind_of r) _ _ _
        (λ z. rw (forbidden_same n f g P (variable_of r) (value_of r) (forbids_same (a_variable (omega arith) (omega arith)))) refl)
        (λ z. rw (precluded_same n f g P (variable_of r) (value_of r) (λ i. masks_same _ i _ (a_variable (omega arith) (omega arith)))) refl)
        (λ z.
        let last : k < n + 1 = subst (λ m. k < m) (kind_3 (kind_of r) _ _ _ _ _ _ z) more in
        inferred_same n f g P (variable_of r) (value_of r) (λ i. masks_same _ i _ (a_variable (omega arith) (omega arith))) k (omega arith))

    checks_same : checks n f P r ≡ checks n g P r
    unfolding checks
    checks_same =
        kind_same (kind_of r) _ _ _
        (λ z. tried_same n f g P (variable_of r) (value_of r) (forbids_same (a_variable (omega arith) (omega arith)))) (λ z. refl) (λ z. refl)

  pub apart_piece : (k : ℕ) (Q : Subproblem) → Piece P n d tables r k Q → Piece P n d others r k Q
  apart_piece k Q e =
      rw (← readable_same)
      (e ∙ cond_same (readable n d tables r && ltb k (candidates n r))
      (λ z. candidate_same (and_left _ _ z) k (ltb-true k (candidates n r) (and_right (readable n d tables r) _ z))) (λ z. refl))

  pub apart_checks : (count : ℕ) → ChecksOf P n d tables r count → ChecksOf P n d others r count
  apart_checks count e = rw (← readable_same) (e ∙ cond_same (readable n d tables r) checks_same (λ z. refl))
