-- Which numbers a request, a run and the chooser are refused by: 0, or 7 or more.
-- Assumes nothing.
use mathlib.Core.Path.{◌≡◌, refl}
use mathlib.Core.Logic.{◌⊎◌, inl, inr, ⊎_elim}
use mathlib.Core.Bool.{Bool, true, false, cond}
use mathlib.Core.List.{List, [], ◌∷◌}
use Prim.Native.Nat.{ℕ, ◌≤◌}
use native.Mathlib.Omega.{arith}
use lib.ListN.{get_or}
use lib.Dec.{eqb}
use Rattle.problem.specs.Problem.{Problem}
use Rattle.splits.specs.Tests.Refusals.{refused_7, refused_8, refused_9, refused_10, refusal_of}
use Rattle.splits.specs.declared.subproblem.Subproblem.{Subproblem}
use Rattle.searches.specs.Machines.{Machine}
use Rattle.searches.specs.Steps.{Search}
use Rattle.searches.specs.Tests.Refusal.{refusal_of_top, refusal_of_request}
use Rattle.searches.specs.Runs.{run}
use Rattle.searches.specs.Chooser.{chosen, choose}
use Rattle.searches.proofs.Runs.{stops}
use Rattle.searches.proofs.Picking.{choose_stops}

-- 0, or 7 or more.
abbrev pub Late : ℕ → Type 0
Late k = (k ≡ 0) ⊎ (7 ≤ k)

cond_late : (b : Bool) (x y : ℕ) → Late x → Late y → Late (cond b x y)
cond_late true x y h k = h
cond_late false x y h k = k

split_late : (n d : ℕ) (P : Subproblem) (r : List ℕ) → Late (refusal_of n d P r)
unfolding refusal_of
split_late n d P r =
    cond_late (refused_7 r) 7 (cond (refused_8 n P r) 8 (cond (refused_9 d P r) 9 (cond (refused_10 n P r) 10 0))) (inr (omega arith))
    (cond_late (refused_8 n P r) 8 (cond (refused_9 d P r) 9 (cond (refused_10 n P r) 10 0)) (inr (omega arith))
    (cond_late (refused_9 d P r) 9 (cond (refused_10 n P r) 10 0) (inr (omega arith)) (cond_late (refused_10 n P r) 10 0 (inr (omega arith)) (inl refl))))

top_late : (p : Problem) (full : Bool) (r : List ℕ) (S : List Subproblem) → Late (refusal_of_top p full r S)
unfolding refusal_of_top
top_late p full r [] = inl refl
top_late p full r (P ∷ S) =
    cond_late (eqb (refusal_of p.n p.d P r) 0) (cond full 12 0) (refusal_of p.n p.d P r)
    (cond_late full 12 0 (inr (omega arith)) (inl refl)) (split_late p.n p.d P r)

pub request_late : (p : Problem) (M : Machine) (r : List ℕ) (s : Search M.Memory) → Late (refusal_of_request p M r s)
unfolding refusal_of_request
request_late p M r s =
    cond_late (eqb s.steps 4294967295) 11 (refusal_of_top p (M.full p r s.memory) r (M.stack p s.memory)) (inr (omega arith))
    (top_late p (M.full p r s.memory) r (M.stack p s.memory))

pub run_late : (p : Problem) (M : Machine) (rs : List (List ℕ)) (s : Search M.Memory) → Late (run p M rs s).refusal
run_late p M rs s =
    ⊎_elim (λ f. inl f.refusal)
    (λ k. ⊎_elim (λ f. rw f.refusal (request_late p M (get_or rs (run p M rs s).taken []) (run p M rs s).search)) (λ f. inl f.refusal) k)
    (stops p M rs s).1

pub choose_late : (p : Problem) (M : Machine) (m : ℕ) (s : Search M.Memory) → Late (choose p M m s).refusal
choose_late p M m s =
    ⊎_elim (λ f. inl f.refusal)
    (λ k. ⊎_elim (λ f. rw f.refusal (request_late p M (chosen p M (choose p M m s).search.memory) (choose p M m s).search)) (λ f. inl f.refusal) k)
    (choose_stops p M m s).1
