-- The pieces of the request that the chooser may make of a top, kind 3 or 2, and the slots for them.
use Rattle.std.specs.Prelude.{List, ℕ, ◌+◌, ◌*◌, ◌≤◌, length}
use Rattle.problem.specs.Problem.{table_of}
use Rattle.splits.specs.Splits.{pieces}
use Rattle.splits.specs.declared.subproblem.Subproblem.{Subproblem}
use Rattle.search.specs.Loops.Found.{request_by}
use Rattle.search.specs.declared.chooser.Chosen.{Chosen}

abbrev pub chosen : Chosen → ℕ → List Subproblem
chosen s kind = pieces s.n (table_of s.n s.d s.tables.now) s.top (request_by s.top s.choice kind)

-- The slots from one on hold them.
abbrev pub RoomFor : Chosen → ℕ → ℕ → ℕ → Type 0
RoomFor s kind from words = (from + length (chosen s kind)) * (s.n + 2) ≤ words
