-- What a request asks of a top: its pieces, and the slots for them.
use Rattle.std.specs.Prelude.{◌≡◌, Bool, true, List, ℕ, ◌+◌, ◌*◌, ◌≤◌, length}
use Rattle.problem.specs.Problem.{table_of}
use Rattle.splits.specs.Subproblems.{empty}
use Rattle.splits.specs.Splits.{pieces, candidate}
use Rattle.splits.specs.declared.subproblem.Subproblem.{Subproblem}
use Rattle.search.specs.declared.step.Asked.{Asked}

abbrev pub asked : Asked → List Subproblem
asked s = pieces s.n (table_of s.n s.d s.tables.now) s.top s.request.now

-- The slots from one on hold them.
abbrev pub RoomFrom : Asked → ℕ → ℕ → Type 0
RoomFrom s from words = (from + length (asked s)) * (s.n + 2) ≤ words

-- A test that is passed only by a candidate that is empty.
abbrev pub TellsEmpty : Asked → ℕ → Bool → Type 0
TellsEmpty s k b = b ≡ true → empty s.n (candidate s.n (table_of s.n s.d s.tables.now) s.top s.request.now k) ≡ true
