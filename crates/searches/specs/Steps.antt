-- A search, a step of it, what refuses a request, and where a run stops, over any machine.
use Rattle.std.specs.Prelude.{◌≡◌, List, [], ◌∷◌, ℕ, ◌+◌}
use Rattle.problem.specs.Problem.{Problem}
use Rattle.splits.specs.Checks.{checks}
use Rattle.problem.specs.Refusing.{Refusals}
use Rattle.splits.specs.Refusals.{Deserves7, Deserves8, Deserves9, Deserves10}
use Rattle.splits.specs.declared.subproblem.Subproblem.{Subproblem}
use Rattle.searches.specs.Machines.{Machine}

-- A search: what its machine holds in memory, and the two counts.
pub record Search (Memory : Type 0) : Type 0 where
  pub memory : Memory
  pub steps : ℕ
  pub checks : ℕ

-- The checks that a request counts on a stack: those of its top.
unfoldable pub checks_of_top : Problem → List ℕ → List Subproblem → ℕ
checks_of_top p r [] = 0
checks_of_top p r (P ∷ S) = checks p.n p.allowed P r

-- An accepted request is one step, and counts its checks.
unfoldable pub step : (p : Problem) (M : Machine) → List ℕ → Search M.Memory → Search M.Memory
step p M r s = record {
  memory = M.split p r s.memory;
  steps = s.steps + 1;
  checks = s.checks + checks_of_top p r (M.stack p s.memory);
}

-- 11: steps already 4,294,967,295.
abbrev pub Deserves11 : ℕ → Type 0
Deserves11 steps = steps ≡ 4294967295

-- The refusals of a request by a search that runs, after so many steps, with P on top: 11, 7 to 10, and 12 where there is no room, `Twelve`.
abbrev pub refusals_of_request : Problem → ℕ → Subproblem → List ℕ → Type 0 → Refusals
refusals_of_request p steps P r Twelve =
    (11, Deserves11 steps) ∷ (7, Deserves7 r) ∷ (8, Deserves8 p.n P r) ∷ (9, Deserves9 p.d P r) ∷ (10, Deserves10 p.n P r)
    ∷ (12, Twelve) ∷ []

-- Where a run stops: the search it leaves, the refusal, and the requests taken.
pub record Stopped (Memory : Type 0) : Type 0 where
  pub search : Search Memory
  pub refusal : ℕ
  pub taken : ℕ

-- A stop, and a run that goes on from where another stopped: what was taken is added. A field of a stop is named here alone.
abbrev pub stop : {Memory : Type 0} → Search Memory → ℕ → ℕ → Stopped Memory
stop s refusal taken = record { search = s; refusal = refusal; taken = taken }

abbrev pub then : {Memory : Type 0} → Stopped Memory → Stopped Memory → Stopped Memory
then a b = stop b.search b.refusal (a.taken + b.taken)
