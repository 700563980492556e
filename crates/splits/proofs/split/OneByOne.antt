-- The pieces made one by one are the split's, those that are not named being empty. Assumes nothing.
use mathlib.Core.Path.{◌≡◌, refl, sym, ap, ap₂, ◌∙◌}
use mathlib.Core.Logic.{inl}
use mathlib.Core.Bool.{Bool, true, false, not, cond}
use mathlib.Core.List.{List, [], ◌∷◌, ◌++◌, map, map-append}
use Prim.Native.Nat.{ℕ, zero, suc, ◌+◌, ◌≤◌, ◌<◌}
use native.Mathlib.Omega.{arith}
use native.Mathlib.Numerals.{add-one}
use native.Mathlib.Nat.{le_refl, add-sub_cancel, lt_of_not-le}
use lib.ListN.{get_or, set}
use lib.Dec.{eqb}
use borrow.Author.Tests.{ne_eqb, eqb-true, not-true, not-false}
use Rattle.problem.specs.Masks.{single}
use Rattle.problem.specs.Problem.{Table}
use Rattle.splits.specs.Subproblems.{domain, empty}
use Rattle.splits.specs.Requests.{kind_of, variable_of, value_of, target_of}
use Rattle.problem.specs.Lists.{below, keep}
use Rattle.splits.specs.Splits.{filled, pieces, named, candidates, candidate, backtracked, checked, inferred, halved, extracted, backtracking, forward_checking, idc, halving, extraction, forbidden, cut, without, instantiate, precluded, disjunct, extract, at_targets, by_kind}
use Rattle.splits.specs.Refusals.{Accepted}
use Rattle.splits.specs.declared.subproblem.Subproblem.{Subproblem}
use Rattle.problem.proofs.mask.Masks.{common_none, minus_self}
use Rattle.splits.proofs.subproblem.Domains.{changed_after}
use Rattle.splits.proofs.subproblem.Subproblems.{empty_at}
use Rattle.splits.proofs.checks.Looking.{keep_append}
use Rattle.splits.proofs.split.ByKind.{five}

-- what is set at i is there, or the default stands past the end
set_none : (l : List ℕ) (i : ℕ) → get_or (set l i 0) i 0 ≡ 0
set_none [] i = refl
set_none (x ∷ l) zero = refl
set_none (x ∷ l) (suc i) = set_none l i

-- a piece with V's domain cut to nothing is empty
pub cut_none : (n : ℕ) (P : Subproblem) (i : ℕ) → i < n → true ≡ empty n (cut P i 0)
unfolding cut
cut_none n P i h = empty_at n (cut P i 0) i h (rw (common_none (domain P i)) (set_none P.domains i))

-- so is the extraction's piece for a variable whose target is its domain
pub extract_none : (n : ℕ) (P : Subproblem) (r : List ℕ) (j : ℕ) → j < n → target_of r j ≡ domain P j → true ≡ empty n (extract P r j)
unfolding extract without at_targets
extract_none n P r j h e =
    empty_at n (extract P r j) j h
    (rw (changed_after j (λ i m. target_of r i) P.domains j (le_refl j), e, minus_self (domain P j)) (set_none (at_targets P r j).domains j))

filled_append : (n : ℕ) (a b : List Subproblem) → filled n (a ++ b) ≡ filled n a ++ filled n b
unfolding filled
filled_append n a b = keep_append (λ Q. not (empty n Q)) a b

-- what the test keeps is h's, and what it does not keep is empty: so that may be left out beforehand
module _ (n : ℕ) (g h : ℕ → Subproblem) (t : ℕ → Bool) where
  pub left_out : (m : ℕ) → ((j : ℕ) → j < m → t j ≡ true → g j ≡ h j) → ((j : ℕ) → j < m → t j ≡ false → true ≡ empty n (g j))
      → filled n (map g (below m)) ≡ filled n (map h (keep t (below m)))
  unfolding filled below keep
  left_out zero same none = refl
  left_out (suc m) same none =
      ap (filled n) (map-append g (below m) (m ∷ [])) ∙ filled_append n (map g (below m)) (g m ∷ [])
      ∙ ap₂ (λ (x y : List Subproblem). x ++ y) (left_out m (λ j l. same j (omega arith)) (λ j l. none j (omega arith)))
      (go (t m) (same m (le_refl (suc m))) (none m (le_refl (suc m))))
      ∙ sym (ap (λ (l : List ℕ). filled n (map h l)) (keep_append t (below m) (m ∷ []))
      ∙ ap (filled n) (map-append h (keep t (below m)) (keep t (m ∷ [])))
      ∙ filled_append n (map h (keep t (below m))) (map h (keep t (m ∷ []))))
    where
      go : (b : Bool) → (b ≡ true → g m ≡ h m) → (b ≡ false → true ≡ empty n (g m)) → filled n (g m ∷ []) ≡ filled n (map h (cond b (m ∷ []) []))
      go true x y = ap (λ (Q : Subproblem). filled n (Q ∷ [])) (x refl)
      go false x y = rw (← y refl) refl

filled_then : (n : ℕ) (Q : Subproblem) (a b : List Subproblem) → filled n a ≡ filled n b → filled n (Q ∷ a) ≡ filled n (Q ∷ b)
filled_then n Q a b e = filled_append n (Q ∷ []) a ∙ ap (λ (l : List Subproblem). filled n (Q ∷ []) ++ l) e ∙ sym (filled_append n (Q ∷ []) b)

-- the candidate before the others
pub first_then : {A : Type 0} (g : ℕ → A) (n : ℕ) → map g (below (n + 1)) ≡ g 0 ∷ map (λ j. g (j + 1)) (below n)
unfolding below
first_then {A} g n = rw add-one (go n)
  where
    go : (m : ℕ) → map g (below (suc m)) ≡ g 0 ∷ map (λ j. g (j + 1)) (below m)
    go zero = refl
    go (suc m) =
        map-append g (below (suc m)) (suc m ∷ []) ∙ ap (λ (l : List A). l ++ (g (suc m) ∷ [])) (go m)
        ∙ ap (λ (x : A). (g 0 ∷ map (λ j. g (j + 1)) (below m)) ++ (x ∷ [])) (ap g (sym (add-one m)))
        ∙ sym (ap (λ (l : List A). g 0 ∷ l) (map-append (λ j. g (j + 1)) (below m) (m ∷ [])))

module _ (n : ℕ) (allowed : Table) (P : Subproblem) where
  pub one_1 : (V' v : ℕ) → V' < n → filled n (map (backtracked n allowed P V' v) (below 2)) ≡ filled n (backtracking n allowed P V' v)
  unfolding below backtracked backtracking filled keep
  one_1 V' v h = go (forbidden n allowed P V' v)
    where
      rest : List Subproblem
      rest = without P V' (single v) ∷ []

      go : (b : Bool) → filled n (cond b (cut P V' 0) (instantiate P V' v) ∷ rest) ≡ filled n (cond b [] (instantiate P V' v ∷ []) ++ rest)
      go true = rw (← cut_none n P V' h) refl
      go false = refl

  pub one_2 : (V' v : ℕ) → filled n (map (checked n allowed P V' v) (below 2)) ≡ filled n (forward_checking n allowed P V' v)
  unfolding below checked forward_checking
  one_2 V' v = refl

  pub one_3 : (V' v : ℕ) → V' < n → filled n (map (inferred n allowed P V' v) (below (n + 1))) ≡ filled n (idc n allowed P V' v)
  unfolding inferred idc
  one_3 V' v h =
      ap (filled n) (first_then (inferred n allowed P V' v) n)
      ∙ filled_then n (precluded n allowed P V' v) _ _
      (left_out n (λ j. inferred n allowed P V' v (j + 1)) (disjunct allowed P V' v) (λ j. not (eqb j V')) n
      (λ j l e. rw (ne_eqb (j + 1) 0 (omega arith), add-sub_cancel j 1, not-true (eqb j V') e) refl)
      (λ j l e. rw (ne_eqb (j + 1) 0 (omega arith), add-sub_cancel j 1, not-false (eqb j V') e) (cut_none n P V' h)))

  pub one_4 : (V' : ℕ) → filled n (map (halved P V') (below 2)) ≡ filled n (halving P V')
  unfolding below halved halving
  one_4 V' = refl

  pub one_5 : (r : List ℕ) → filled n (map (extracted n P r) (below (n + 1))) ≡ filled n (extraction n P r)
  unfolding extracted extraction
  one_5 r =
      ap (filled n) (first_then (extracted n P r) n)
      ∙ filled_then n (at_targets P r n) _ _
      (left_out n (λ j. extracted n P r (j + 1)) (extract P r) (λ j. not (eqb (target_of r j) (domain P j))) n
      (λ j l e. rw (ne_eqb (j + 1) 0 (omega arith), add-sub_cancel j 1) refl)
      (λ j l e.
      rw (ne_eqb (j + 1) 0 (omega arith), add-sub_cancel j 1)
      (extract_none n P r j l (eqb-true (target_of r j) (domain P j) (not-false (eqb (target_of r j) (domain P j)) e)))))

-- of an accepted request the variable is one of the n, where its kind reads one
pub variable_lt : (n d : ℕ) (P : Subproblem) (r : List ℕ) → Accepted n d P r → 1 ≤ kind_of r → kind_of r ≤ 4 → variable_of r < n
variable_lt n d P r h a b = lt_of_not-le (λ l. h.not_8 ((a, b), inl l))

pub all_one_by_one : (n d : ℕ) (allowed : Table) (P : Subproblem) (r : List ℕ) → Accepted n d P r
    → filled n (map (candidate n allowed P r) (below (candidates n r))) ≡ pieces n allowed P r
unfolding candidate candidates pieces named
all_one_by_one n d allowed P r h =
    five
    (λ k. kind_of r ≡ k → filled n
    (map (λ m. by_kind k (backtracked n allowed P x v m) (checked n allowed P x v m) (inferred n allowed P x v m) (halved P x m) (extracted n P r m) P) (below (by_kind k 2 2 (n + 1) 2 (n + 1) 0)))
    ≡ filled n (by_kind k (backtracking n allowed P x v) (forward_checking n allowed P x v) (idc n allowed P x v) (halving P x) (extraction n P r) []))
    (kind_of r) h.not_7
    (λ e. one_1 n allowed P x v (variable_lt n d P r h (omega arith) (omega arith)))
    (λ e. one_2 n allowed P x v)
    (λ e. one_3 n allowed P x v (variable_lt n d P r h (omega arith) (omega arith)))
    (λ e. one_4 n allowed P x)
    (λ e. one_5 n allowed P r) refl
  where
    x : ℕ
    x = variable_of r

    v : ℕ
    v = value_of r
