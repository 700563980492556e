-- When a search is unsolvable, solved or running, and that it is finished when it is not running.
-- Assumes nothing.
use mathlib.Core.Path.{◌≡◌, refl, sym, ap}
use mathlib.Core.Logic.{◌↔◌}
use mathlib.Core.Bool.{Bool, true, false, not, cond}
use mathlib.Core.List.{List, [], ◌∷◌}
use Prim.Native.Nat.{ℕ, ◌<◌}
use native.Mathlib.Omega.{arith}
use lib.Dec.{eqb}
use borrow.Author.Tests.{eq-eqb, ne_eqb, eqb-true, eqb-false, not-true, not-false}
use Rattle.problem.specs.Masks.{bit, single, lowest}
use Rattle.problem.specs.Problem.{Problem, Solution}
use Rattle.splits.specs.Subproblems.{domain, Instantiated, all_instantiated}
use Rattle.splits.specs.declared.subproblem.Subproblem.{Subproblem}
use Rattle.problem.proofs.mask.Masks.{single_of}
use Rattle.splitting.proofs.Pieces.{Held}
use Rattle.splitting.proofs.Splitting.{lowest_in}
use Rattle.problem.proofs.Tests.{true_false, every_at, every_all}
use Rattle.searches.specs.Verdicts.{number_of, verdict_of, finished}
use Rattle.problem.specs.declared.verdict.Verdict.{Verdict}
use Rattle.problem.specs.declared.verdict.Verdict.TheVariants.{None, Running, Solved, Unsolvable}

-- Verdicts are told apart.
pub solved_running : Solved ≡ Running → ⊥
solved_running e = let z : ◌≡◌ {A = ℕ} 0 1 = cc in omega arith

pub unsolvable_running : Unsolvable ≡ Running → ⊥
unsolvable_running e = let z : ◌≡◌ {A = ℕ} 0 1 = cc in omega arith

pub unsolvable_solved : Unsolvable ≡ Solved → ⊥
unsolvable_solved e = let z : ◌≡◌ {A = ℕ} 0 1 = cc in omega arith

-- A stack is not both empty and not.
pub some_none : (P : Subproblem) (S : List Subproblem) → P ∷ S ≡ [] → ⊥
some_none P S e = let z : ◌≡◌ {A = ℕ} 0 1 = cc in omega arith

-- The test of the top, and what it says.
pub all_instantiated_lem : (n : ℕ) (P : Subproblem) → all_instantiated n P ≡ true → (i : ℕ) → i < n → Instantiated P i
unfolding all_instantiated
all_instantiated_lem n P e i l = eqb-true (bit P.marked i) 1 (every_at (λ i. eqb (bit P.marked i) 1) n i l e)

pub instantiated_all : (n : ℕ) (P : Subproblem) → ((i : ℕ) → i < n → Instantiated P i) → all_instantiated n P ≡ true
unfolding all_instantiated
instantiated_all n P h = every_all (λ i. eqb (bit P.marked i) 1) n (λ i l. eq-eqb (bit P.marked i) 1 (h i l))

pub top_solved : (n : ℕ) (P : Subproblem) (S : List Subproblem) → verdict_of n (P ∷ S) ≡ Solved → all_instantiated n P ≡ true
unfolding verdict_of
top_solved n P S e = go (all_instantiated n P) e
  where
    go : (b : Bool) → cond b Solved Running ≡ Solved → b ≡ true
    go true e = refl
    go false e = absurd (solved_running (sym e))

-- ---- verdicts by their numbers

pub is_unsolvable : (v : Verdict) → number_of v ≡ 3 → v ≡ Unsolvable
is_unsolvable None e = absurd (omega (arith, e))
is_unsolvable Running e = absurd (omega (arith, e))
is_unsolvable Solved e = absurd (omega (arith, e))
is_unsolvable Unsolvable e = refl

pub is_solved : (v : Verdict) → number_of v ≡ 2 → v ≡ Solved
is_solved None e = absurd (omega (arith, e))
is_solved Running e = absurd (omega (arith, e))
is_solved Solved e = refl
is_solved Unsolvable e = absurd (omega (arith, e))

pub is_run_on : (v : Verdict) → number_of v ≡ 1 → v ≡ Running
is_run_on None e = absurd (omega (arith, e))
is_run_on Running e = refl
is_run_on Solved e = absurd (omega (arith, e))
is_run_on Unsolvable e = absurd (omega (arith, e))

-- ---- finished is not running

pub finished_not : (n : ℕ) (S : List Subproblem) → finished n S ≡ true → verdict_of n S ≡ Running → ⊥
unfolding finished
finished_not n S e h = eqb-false (number_of (verdict_of n S)) 1 (not-true (eqb (number_of (verdict_of n S)) 1) e) (ap number_of h)

pub running : (n : ℕ) (S : List Subproblem) → finished n S ≡ false → verdict_of n S ≡ Running
unfolding finished
running n S e = is_run_on (verdict_of n S) (eqb-true (number_of (verdict_of n S)) 1 (not-false (eqb (number_of (verdict_of n S)) 1) e))

pub not_running : (n : ℕ) (S : List Subproblem) → (verdict_of n S ≡ Running → ⊥) → finished n S ≡ true
unfolding finished
not_running n S h = ap not (ne_eqb (number_of (verdict_of n S)) 1 (λ e. h (is_run_on (verdict_of n S) e)))

pub is_running : (n : ℕ) (S : List Subproblem) → verdict_of n S ≡ Running → finished n S ≡ false
unfolding finished
is_running n S h = ap not (eq-eqb (number_of (verdict_of n S)) 1 (ap number_of h))

-- Where there is a top, its test says it.
pub finished_top : (n : ℕ) (P : Subproblem) (S : List Subproblem) → finished n (P ∷ S) ≡ all_instantiated n P
unfolding finished verdict_of
finished_top n P S = go (all_instantiated n P)
  where
    go : (b : Bool) → not (eqb (number_of (cond b Solved Running)) 1) ≡ b
    go true = refl
    go false = refl

-- A running search has a top.
pub running_top : (n : ℕ) (S : List Subproblem) → finished n S ≡ false → (P : Subproblem) × (T : List Subproblem) × (S ≡ P ∷ T)
unfolding finished verdict_of
running_top n [] e = absurd (true_false e)
running_top n (P ∷ T) e = (P, T, refl)

-- ---- when each verdict is given

pub unsolvable_if : (n : ℕ) (S : List Subproblem) → (verdict_of n S ≡ Unsolvable) ↔ (S ≡ [])
unfolding verdict_of
unsolvable_if n [] = (λ e. refl, λ e. refl)
unsolvable_if n (P ∷ S) = (λ e. absurd (go (all_instantiated n P) e), λ e. absurd (some_none P S e))
  where
    go : (b : Bool) → cond b Solved Running ≡ Unsolvable → ⊥
    go true e = unsolvable_solved (sym e)
    go false e = unsolvable_running (sym e)

pub solved_if : (n : ℕ) (P : Subproblem) (S : List Subproblem) → (verdict_of n (P ∷ S) ≡ Solved) ↔ ((i : ℕ) → i < n → Instantiated P i)
unfolding verdict_of
solved_if n P S = (λ e. all_instantiated_lem n P (top_solved n P S e), λ h. rw (instantiated_all n P h))

pub running_if : (n : ℕ) (S : List Subproblem)
    → (verdict_of n S ≡ Running) ↔ ((verdict_of n S ≡ Unsolvable → ⊥) × (verdict_of n S ≡ Solved → ⊥))
unfolding verdict_of
running_if n [] = (λ e. absurd (unsolvable_running e), λ h. absurd (h.0 refl))
running_if n (P ∷ S) = go (all_instantiated n P)
  where
    go : (b : Bool) → (cond b Solved Running ≡ Running) ↔ ((cond b Solved Running ≡ Unsolvable → ⊥) × (cond b Solved Running ≡ Solved → ⊥))
    go true = (λ e. absurd (solved_running e), λ h. absurd (h.1 refl))
    go false = (λ e. (λ f. unsolvable_running (sym f), λ f. solved_running (sym f)), λ h. refl)

-- ---- what "solved" shows

pub solved_top : (n : ℕ) (S : List Subproblem) → verdict_of n S ≡ Solved
    → (P : Subproblem) × (T : List Subproblem) × (S ≡ P ∷ T) × (all_instantiated n P ≡ true)
unfolding verdict_of
solved_top n [] e = absurd (unsolvable_solved e)
solved_top n (P ∷ T) e = (P, T, refl, top_solved n P T e)

-- A subproblem on the agenda with every variable instantiated is a solution of the problem, each variable at its one value.
pub shown : {p : Problem} {P : Subproblem} → Held p P → ((i : ℕ) → i < p.n → Instantiated P i)
    → ((i : ℕ) → i < p.n → domain P i ≡ single (lowest (domain P i))) × Solution p.n p.allowed p.domain (λ i. lowest (domain P i))
shown {p} {P} held all = (
  λ i k. single_of (domain P i) (lowest (domain P i)) (held.rules.one_value i k (all i k)) (lowest_in held i k),
  record {
    possible = λ i k. held.rules.part i k (lowest (domain P i)) (lowest_in held i k);
    consistent = λ i j k l d. held.rules.mutual_values i j _ _ k l d (all i k) (all j l) (lowest_in held i k) (lowest_in held j l);
  },
)
