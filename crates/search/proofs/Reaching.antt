-- What opening places, and what is promised of reached searches over machines, of slots.
-- Assumes nothing.
use mathlib.Core.Path.{◌≡◌, refl, sym, ◌∙◌}
use mathlib.Core.Logic.{inl, inr, ◌↔◌}
use mathlib.Core.Bool.{Bool, true, false, cond}
use mathlib.Core.List.{List, Memᴰ, [], ◌∷◌, ◌++◌}
use Prim.Native.Nat.{ℕ, zero, suc, ◌-◌, ◌*◌, ◌≤◌, ◌<◌}
use native.Mathlib.Omega.{arith}
use native.Mathlib.Nat.{le_of_suc-le-suc}
use lib.ListN.{length, get_or, take, replicate}
use lib.Dec.{eqb}
use borrow.Author.Tests.{eqb-true, eq-eqb}
use Rattle.problem.specs.Problem.{Problem, Proper, problem_of}
use Rattle.problem.specs.Lists.{some}
use Rattle.splitting.specs.Promises.{Solvable}
use Rattle.splits.specs.declared.subproblem.Subproblem.{Subproblem}
use Rattle.problem.proofs.Tests.{true_false, some_at, some_found}
use Rattle.searches.specs.Verdicts.{number_of, verdict_of}
use Rattle.searches.specs.Reached.{Passes, Whole, Opening, Reached as ReachedBy, opened, moved}
use Rattle.searches.specs.Promises.{HasSolution, Limited}
use Rattle.searches.proofs.Promises
use Rattle.search.specs.Agenda.{holding}
use Rattle.search.specs.Slots.{slots, Search}
use Rattle.search.specs.Calls.{opening, begun}
use Rattle.search.specs.Promises.{Reached}
use Rattle.problem.proofs.Copies.{zeros_at}
use Rattle.search.proofs.Slots.{slots_lawful}

-- ---- opening

-- A list of n and zeros after it holds at a place below n what the list does.
padded : (n k : ℕ) (l : List ℕ) (i : ℕ) → i < n → get_or (take n l ++ replicate k 0) i 0 ≡ get_or l i 0
padded zero k l i h = absurd (omega arith)
padded (suc n) k [] i h = zeros_at k i
padded (suc n) k (x ∷ l) zero h = refl
padded (suc n) k (x ∷ l) (suc i) h = padded n k l i (le_of_suc-le-suc h)

-- The problem with nothing instantiated.
whole : (n d : ℕ) (domains tables : List ℕ) → Whole (problem_of n d domains tables) (holding n domains 0)
unfolding holding
whole n d domains tables = record { domains = λ i l. padded n (32 - n) domains i l; marked = refl }

-- What opening places.
pub opening_places : (n d : ℕ) (domains tables : List ℕ) → Opening (problem_of n d domains tables) (opening n domains)
unfolding opening
opening_places n d domains tables = go (some n (λ i. eqb (get_or domains i 0) 0)) refl
  where
    go : (b : Bool) → some n (λ i. eqb (get_or domains i 0) 0) ≡ b
        → Opening (problem_of n d domains tables) (cond b [] (holding n domains 0 ∷ []))
    go true e = let (i, k, z) = some_found (λ i. eqb (get_or domains i 0) 0) n e in inl ((i, k, eqb-true (get_or domains i 0) 0 z), refl)
    go false e =
        inr (
          (λ w. true_false (sym (some_at (λ i. eqb (get_or domains i 0) 0) n w.0 w.1 (eq-eqb (get_or domains w.0 0) 0 w.2)) ∙ e)),
          (holding n domains 0, whole n d domains tables, refl),
        )

pub reached_opened : (n d : ℕ) (domains tables : List ℕ) (room : ℕ) → 1 ≤ room → Reached n d domains tables room (begun n domains)
unfolding opening
reached_opened n d domains tables room l = opened (opening n domains) (few (some n (λ i. eqb (get_or domains i 0) 0))) refl
  where
    few : (b : Bool) → length (cond b [] (holding n domains 0 ∷ [])) ≤ room
    few true = omega arith
    few false = omega (arith, l)

-- Other slots that take the stack change nothing.
pub reached_moved : {p : Problem} {start : List Subproblem} {room other : ℕ} {s : Search} → ReachedBy slots p start room s
    → length s.memory ≤ other → ReachedBy slots p start other s
reached_moved {s = s} h l = moved h s.memory l refl

-- ---- of every reached search

module _ (n d : ℕ) (domains tables : List ℕ) (room : ℕ) (s : Search) (proper : Proper (problem_of n d domains tables))
    (h : Reached n d domains tables room s) where
  -- The problem.
  abbrev the : Problem
  the = problem_of n d domains tables

  pub reached_passes : Passes the (slots room) s
  reached_passes = Promises.reached_passes slots slots_lawful the (opening n domains) proper (opening_places n d domains tables) room s h

  pub reached_checks : s.checks ≤ 496 * s.steps
  reached_checks = Promises.reached_checks slots slots_lawful the (opening n domains) proper (opening_places n d domains tables) room s h

  pub reached_solvable : HasSolution the ↔ ((P : Subproblem) × Memᴰ P s.memory × Solvable the P)
  reached_solvable = Promises.reached_solvable slots slots_lawful the (opening n domains) proper (opening_places n d domains tables) room s h

  pub reached_unsolvable : number_of (verdict_of n s.memory) ≡ 3 → HasSolution the → ⊥
  reached_unsolvable = Promises.reached_unsolvable slots slots_lawful the (opening n domains) proper (opening_places n d domains tables) room s h

  pub reached_steps : Limited the s.steps
  reached_steps = Promises.reached_steps slots slots_lawful the (opening n domains) proper (opening_places n d domains tables) room s h
