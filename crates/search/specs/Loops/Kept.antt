-- What a search that passed its first checks keeps to from step to step.
use Rattle.std.specs.Prelude.{◌≡◌, ℕ, ◌+◌, ◌*◌, ◌^◌, ◌≤◌, ◌<◌, length}
use mathlib.Core.List.{List, Memᴰ}
use Rattle.splits.specs.Subproblems.{domain}
use Rattle.splits.specs.declared.subproblem.Subproblem.{Subproblem}
use Rattle.problem.specs.Ranges.{Sized}
use Rattle.search.specs.Agenda.{Shape, slots_in, agenda_of}
use Rattle.search.specs.Slots.{Search}

-- A subproblem on the agenda: no domain is empty.
pub record Regular (n d : ℕ) (P : Subproblem) : Type 0 where
  pub shape : Shape n d P
  pub filled : (i : ℕ) → i < n → domain P i ≡ 0 → ⊥

-- Memory of whole slots holds the search of a stack and two counts; 512 checks a step is more than are ever made, and keeps their sum small.
pub record Ready (n d : ℕ) (tables agenda : List ℕ) (s : Search) : Type 0 where
  pub fitting : Sized n d tables
  pub whole : length agenda ≡ slots_in n (length agenda) * (n + 2)
  pub fits : length s.memory ≤ slots_in n (length agenda)
  pub words : agenda ≡ agenda_of n (length agenda) s.memory
  pub each : (P : Subproblem) → Memᴰ P s.memory → Regular n d P
  pub counted : s.checks ≤ 512 * s.steps
  pub stepped : s.steps < 2 ^ 32
