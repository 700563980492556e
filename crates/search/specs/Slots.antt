-- The agenda of document 01 as a machine: a stack in so many slots.
use Rattle.std.specs.Prelude.{List, ℕ, ◌-◌, ◌≤◌, ◌<◌, length, ltb}
use Rattle.problem.specs.Problem.{Problem}
use Rattle.splits.specs.Splits.{pieces}
use Rattle.splits.specs.declared.subproblem.Subproblem.{Subproblem}
use Rattle.searches.specs.Machines.{split_top, Machine}
use Rattle.searches.specs.Steps.{Search as SearchOn, Stopped as StoppedOn}

-- Its memory is the stack itself, in order if it has no more subproblems than slots, and full for a request after which it would have more.
abbrev pub slots : ℕ → Machine
slots room = record {
  Memory = List Subproblem;
  Fits = λ p S. length S ≤ room;
  stack = λ p S. S;
  full = λ p r S. ltb room (length (split_top p r S));
  split = split_top;
}

-- A search on slots, and where one stops.
abbrev pub Search : Type 0
Search = SearchOn (List Subproblem)

abbrev pub Stopped : Type 0
Stopped = StoppedOn (List Subproblem)

-- 12: nonempty pieces exceed free slots with P's slot counted free. S is what lies below P.
abbrev pub Deserves12 : Problem → ℕ → Subproblem → List Subproblem → List ℕ → Type 0
Deserves12 p room P S r = room - length S < length (pieces p.n p.allowed P r)
