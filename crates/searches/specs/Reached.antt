-- Searches that pass when they are handed on, and searches begun by opening, over machines of any room.
use Rattle.std.specs.Prelude.{◌≡◌, ◌⊎◌, ℕ, ◌*◌, ◌≤◌, ◌<◌}
use mathlib.Core.List.{List, Memᴰ, [], ◌∷◌}
use Rattle.problem.specs.Problem.{Problem, Proper}
use Rattle.splits.specs.Subproblems.{domain, Rules}
use Rattle.splits.specs.declared.subproblem.Subproblem.{Subproblem}
use Rattle.searches.specs.Machines.{Machine}
use Rattle.searches.specs.Steps.{Search}
use Rattle.searches.specs.Runs.{run}
use Rattle.searches.specs.Chooser.{choose}

-- A search of p passes: p is proper, each subproblem obeys the rules, the memory is in order, there are no more than 496 × steps checks, and the
-- steps fit their counter.
pub record Passes (p : Problem) (M : Machine) (s : Search M.Memory) : Type 0 where
  pub proper : Proper p
  pub rules : (P : Subproblem) → Memᴰ P (M.stack p s.memory) → Rules p P
  pub fits : M.Fits p s.memory
  pub counted : s.checks ≤ 496 * s.steps
  pub stepped : s.steps ≤ 4294967295

-- The problem with nothing instantiated.
pub record Whole (p : Problem) (P : Subproblem) : Type 0 where
  pub domains : (i : ℕ) → i < p.n → domain P i ≡ p.domain i
  pub marked : P.marked ≡ 0

-- A domain is empty.
abbrev pub EmptyDomain : Problem → Type 0
EmptyDomain p = (i : ℕ) × (i < p.n) × (p.domain i ≡ 0)

-- What opening places: the problem with nothing instantiated, unless a domain is empty.
abbrev pub Opening : Problem → List Subproblem → Type 0
Opening p S = (EmptyDomain p × (S ≡ [])) ⊎ ((EmptyDomain p → ⊥) × ((P : Subproblem) × Whole p P × (S ≡ P ∷ [])))

-- A search at its beginning.
abbrev pub begin : {Memory : Type 0} → Memory → Search Memory
begin m = record { memory = m; steps = 0; checks = 0 }

-- The searches of p on machines of any room: begun with the stack `start`, gone on with by any number of runs and choosers, each with any requests,
-- and moved to any other memory in order, of any room, that reads as the same stack.
pub data Reached (M : ℕ → Machine) (p : Problem) (start : List Subproblem) : (room : ℕ) → Search (M room).Memory → Type 0 where
  opened : {room : ℕ} (m : (M room).Memory) → (M room).Fits p m → (M room).stack p m ≡ start → Reached M p start room (begin m)
  ran : {room : ℕ} {s : Search (M room).Memory} → Reached M p start room s → (rs : List (List ℕ))
      → Reached M p start room (run p (M room) rs s).search
  chose : {room : ℕ} {s : Search (M room).Memory} → Reached M p start room s → (limit : ℕ)
      → Reached M p start room (choose p (M room) limit s).search
  moved : {room : ℕ} {s : Search (M room).Memory} → Reached M p start room s → {other : ℕ} (m : (M other).Memory) → (M other).Fits p m
      → (M other).stack p m ≡ (M room).stack p s.memory
      → Reached M p start other (record { memory = m; steps = s.steps; checks = s.checks })
