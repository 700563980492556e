-- What a step leaves of a passing search passes.
-- Assumes nothing.
use mathlib.Core.Path.{◌≡◌, refl}
use mathlib.Core.Logic.{⊎_elim}
use mathlib.Core.List.Memᴰ
use mathlib.Core.List.{List, Memᴰ, ◌∷◌, ◌++◌}
use Prim.Native.Nat.{ℕ, ◌+◌}
use native.Mathlib.Omega.{arith}
use Rattle.problem.specs.Problem.{Problem}
use Rattle.splits.specs.Splits.{pieces}
use Rattle.splits.specs.Checks.{checks}
use Rattle.splitting.specs.Promises.{Splits}
use Rattle.splits.specs.declared.subproblem.Subproblem.{Subproblem}
use Rattle.splitting.proofs.Pieces.{Held}
use Rattle.splitting.proofs.Promises.{obeys, at_most_496}
use Rattle.searches.specs.Machines.{Machine, Lawful, Takes, split_top}
use Rattle.searches.specs.Steps.{Search, checks_of_top, step}
use Rattle.searches.specs.Tests.Refusal.{refusal_of_request}
use Rattle.searches.specs.Runs.{run}
use Rattle.searches.specs.Reached.{Passes}
use Rattle.searches.proofs.Verdicts.{running_top}
use Rattle.searches.proofs.Runs.{run_ind}
use Rattle.searches.proofs.Refusals.{is_none}

-- What a passing search grants its top.
pub top_held : (p : Problem) (M : Machine) (P : Subproblem) (S : List Subproblem) (s : Search M.Memory) → Passes p M s
    → M.stack p s.memory ≡ P ∷ S → Held p P
top_held p M P S s h top = record { proper = h.proper; rules = h.rules P (rw top (Memᴰ.head refl)) }

-- The checks that a step counts.
pub step_checks : (p : Problem) (M : Machine) (P : Subproblem) (S : List Subproblem) (s : Search M.Memory) (r : List ℕ)
    → M.stack p s.memory ≡ P ∷ S → (step p M r s).checks ≡ s.checks + checks p.n p.allowed P r
unfolding step checks_of_top
step_checks p M P S s r top = rw top

-- The request is taken of memory in order: it finds room, and the splits accept it.
module _ (p : Problem) (M : Machine) (law : Lawful M) (P : Subproblem) (S : List Subproblem) (s : Search M.Memory) (r : List ℕ)
    (fits : M.Fits p s.memory) (top : M.stack p s.memory ≡ P ∷ S) (taken : refusal_of_request p M r s ≡ 0) where
  takes : Takes p M r s.memory P S
  takes = let none = (is_none p M P S s r top).0 taken in record { fits = fits; top = top; accepted = none.1; room = none.2 }

  -- What a step leaves is in order, and reads as 01's split of the stack.
  pub step_fits : M.Fits p (step p M r s).memory
  unfolding step
  step_fits = law.fits p r s.memory P S takes

  pub step_stack : M.stack p (step p M r s).memory ≡ pieces p.n p.allowed P r ++ S
  unfolding step split_top
  step_stack = law.splits p r s.memory P S takes

module _ (p : Problem) (M : Machine) (law : Lawful M) (P : Subproblem) (S : List Subproblem) (s : Search M.Memory) (r : List ℕ)
    (passes : Passes p M s) (top : M.stack p s.memory ≡ P ∷ S) (taken : refusal_of_request p M r s ≡ 0) where
  -- The request, taken, splits P.
  pub splits : Splits p P r
  splits = record {
    proper = passes.proper;
    rules = (top_held p M P S s passes top).rules;
    accepted = ((is_none p M P S s r top).0 taken).1;
  }

  -- Each piece obeys the rules, and neither count grows too fast.
  pub step_passes : Passes p M (step p M r s)
  unfolding step
  step_passes =
      let none = (is_none p M P S s r top).0 taken in
      let more : (step p M r s).checks ≡ s.checks + checks p.n p.allowed P r = step_checks p M P S s r top in
      record {
        proper = passes.proper;
        rules = λ Q m.
            ⊎_elim (λ (k : Memᴰ Q (pieces p.n p.allowed P r)). (obeys p P r splits Q k).0)
            (λ (k : Memᴰ Q S). passes.rules Q (rw top (Memᴰ.tail k)))
            (Memᴰ.append_cases (pieces p.n p.allowed P r) (rw (step_stack p M law P S s r passes.fits top taken) at m));
        fits = step_fits p M law P S s r passes.fits top taken;
        counted = omega (arith, passes.counted, at_most_496 p P r splits, more);
        stepped = omega (arith, passes.stepped, none.0);
      }

-- ---- a run

-- What a run leaves of a passing search passes.
pub run_passes : (p : Problem) (M : Machine) → Lawful M → (rs : List (List ℕ)) (s : Search M.Memory) → Passes p M s → Passes p M (run p M rs s).search
run_passes p M law =
    run_ind p M (λ rs s x. Passes p M s → Passes p M x.search) (λ s h. h) (λ r rs s e h. h) (λ r rs s e k h. h)
    (λ r rs s x e k more h. let (P, S, top) = running_top p.n (M.stack p s.memory) e in more (step_passes p M law P S s r h top k))
