-- A run and the chooser one request at a time, as a loop takes them.
-- Assumes nothing.
use mathlib.Core.Path.{◌≡◌, refl, sym, ◌∙◌}
use mathlib.Core.Bool.{Bool, true, false}
use mathlib.Core.List.{List, [], ◌∷◌}
use Prim.Native.Nat.{ℕ, suc, ◌+◌}
use native.Mathlib.Omega.{arith}
use lib.Dec.{eqb}
use borrow.Author.Tests.{eq-eqb, ne_eqb}
use Rattle.problem.specs.Problem.{Problem}
use Rattle.searches.specs.Verdicts.{finished}
use Rattle.searches.specs.Machines.{Machine}
use Rattle.searches.specs.Steps.{Search, stop, step}
use Rattle.searches.specs.Tests.Refusal.{refusal_of_request}
use Rattle.searches.specs.Runs.{run_from}
use Rattle.searches.specs.Chooser.{chosen, choose_from}

-- ---- a run of one request, and of more

module _ (p : Problem) (M : Machine) (r : List ℕ) (s : Search M.Memory) where
  -- A run that goes on after the first request, and one that stops there.
  pub run_on : (rs : List (List ℕ)) (k : ℕ) → ((run_from p M (r ∷ []) s 0).taken ≡ 0 → ⊥)
      → run_from p M (r ∷ rs) s k ≡ run_from p M rs (run_from p M (r ∷ []) s 0).search (k + 1)
  unfolding run_from
  run_on rs k h = go (finished p.n (M.stack p s.memory)) refl (eqb (refusal_of_request p M r s) 0) refl
    where
      go : (b : Bool) → finished p.n (M.stack p s.memory) ≡ b → (z : Bool) → eqb (refusal_of_request p M r s) 0 ≡ z
          → run_from p M (r ∷ rs) s k ≡ run_from p M rs (run_from p M (r ∷ []) s 0).search (k + 1)
      go true e z f = absurd (h (rw e refl))
      go false e true f = rw (e, f) refl
      go false e false f = absurd (h (rw (e, f) refl))

  -- A run that stops at the first request.
  pub run_halts : (rs : List (List ℕ)) (k : ℕ) → (run_from p M (r ∷ []) s 0).taken ≡ 0
      → run_from p M (r ∷ rs) s k ≡ stop (run_from p M (r ∷ []) s 0).search (run_from p M (r ∷ []) s 0).refusal k
  unfolding run_from
  run_halts rs k h = go (finished p.n (M.stack p s.memory)) refl (eqb (refusal_of_request p M r s) 0) refl
    where
      go : (b : Bool) → finished p.n (M.stack p s.memory) ≡ b → (z : Bool) → eqb (refusal_of_request p M r s) 0 ≡ z
          → run_from p M (r ∷ rs) s k
          ≡ stop (run_from p M (r ∷ []) s 0).search (run_from p M (r ∷ []) s 0).refusal k
      go true e z f = rw e refl
      go false e true f = let z : 0 + 1 ≡ 0 = rw (e, f) at h in absurd (omega arith)
      go false e false f = rw (e, f) refl

  -- A finished search takes nothing.
  pub one_finished : finished p.n (M.stack p s.memory) ≡ true → run_from p M (r ∷ []) s 0 ≡ stop s 0 0
  unfolding run_from
  one_finished e = rw e refl

  module _ (runs : finished p.n (M.stack p s.memory) ≡ false) where
    -- A refused request leaves the search.
    pub one_refused : (x : ℕ) → x ≡ refusal_of_request p M r s → (x ≡ 0 → ⊥)
        → run_from p M (r ∷ []) s 0 ≡ stop s x 0
    unfolding run_from
    one_refused x e h = rw (e, runs, ne_eqb (refusal_of_request p M r s) 0 (λ z. h (e ∙ z))) refl

    -- An accepted one is a step.
    pub one_taken : 0 ≡ refusal_of_request p M r s → run_from p M (r ∷ []) s 0 ≡ stop (step p M r s) 0 1
    unfolding run_from
    one_taken e = rw (runs, eq-eqb (refusal_of_request p M r s) 0 (sym e)) refl

-- ---- a step of the chooser, and more

module _ (p : Problem) (M : Machine) (s : Search M.Memory) where
  -- One step is a run of the request that is chosen.
  pub choose_one : choose_from p M 1 s 0 ≡ run_from p M (chosen p M s.memory ∷ []) s 0
  unfolding choose_from run_from
  choose_one = refl

  -- A step that was taken, and one that was not.
  pub choose_on : (m k : ℕ) → ((choose_from p M 1 s 0).taken ≡ 0 → ⊥)
      → choose_from p M (suc m) s k ≡ choose_from p M m (choose_from p M 1 s 0).search (k + 1)
  unfolding choose_from
  choose_on m k h = go (finished p.n (M.stack p s.memory)) refl (eqb (refusal_of_request p M (chosen p M s.memory) s) 0) refl
    where
      go : (b : Bool) → finished p.n (M.stack p s.memory) ≡ b → (z : Bool) → eqb (refusal_of_request p M (chosen p M s.memory) s) 0 ≡ z
          → choose_from p M (suc m) s k ≡ choose_from p M m (choose_from p M 1 s 0).search (k + 1)
      go true e z f = absurd (h (rw e refl))
      go false e true f = rw (e, f) refl
      go false e false f = absurd (h (rw (e, f) refl))

  pub choose_halts : (m k : ℕ) → (choose_from p M 1 s 0).taken ≡ 0
      → choose_from p M (suc m) s k ≡ stop (choose_from p M 1 s 0).search (choose_from p M 1 s 0).refusal k
  unfolding choose_from
  choose_halts m k h = go (finished p.n (M.stack p s.memory)) refl (eqb (refusal_of_request p M (chosen p M s.memory) s) 0) refl
    where
      go : (b : Bool) → finished p.n (M.stack p s.memory) ≡ b → (z : Bool) → eqb (refusal_of_request p M (chosen p M s.memory) s) 0 ≡ z
          → choose_from p M (suc m) s k ≡ stop (choose_from p M 1 s 0).search (choose_from p M 1 s 0).refusal k
      go true e z f = rw e refl
      go false e true f = let z : 0 + 1 ≡ 0 = rw (e, f) at h in absurd (omega arith)
      go false e false f = rw (e, f) refl
