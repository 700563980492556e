-- What a step asks of memory and of a request, and what a step or a run leaves.
use Rattle.std.specs.Prelude.{Option, Some, Result, Ok, Err, ◌≡◌, false, cond, List, [], ◌∷◌, ℕ, ◌+◌, ◌-◌, ◌*◌, ◌≤◌, length, replicate, eqb, ltb}
use Rattle.std.specs.declared.ops.ControlFlow.{ControlFlow}
use Rattle.std.specs.declared.ops.ControlFlow.TheVariants.{Continue, Break}
use Rattle.problem.specs.declared.refusal.Refusal.{Refusal}
use Rattle.problem.specs.Refused.{number_of}
use Rattle.problem.specs.Problem.{table_of, problem_of}
use Rattle.splits.specs.Subproblems.{all_instantiated}
use Rattle.splits.specs.Splits.{pieces}
use Rattle.splits.specs.Tests.Refusals.{refusal_of}
use Rattle.splits.specs.declared.subproblem.Subproblem.{Subproblem}
use Rattle.search.specs.Agenda.{subproblem_of, slot_at, stack_words, slots_in}
use Rattle.search.specs.Outcomes.{told_by}
use Rattle.search.specs.Slots.{slots, Stopped}
use Rattle.searches.specs.Runs.{run_from, run, requests_in}
use Rattle.searches.specs.Chooser.{choose_from, choose}
use Rattle.search.specs.Calls.{search_of}
use Rattle.problem.specs.Lists.{splice}
use Rattle.search.specs.Loops.Kept.{Ready}
use Rattle.search.specs.declared.state.State.{State}
use Rattle.search.specs.declared.step.Stop.{Stop as Stopping}

-- Where a run stops, or one step ends: the number of a refusal, or 0, how many requests were taken, and the state it leaves.
pub record Stop : Type 0 where
  pub refusal : ℕ
  pub taken : ℕ
  pub state : State

abbrev pub stop_of : Stopping → Stop
stop_of r = record { refusal = told_by r.refusal; taken = r.taken; state = r.state }

-- A request leaves the state as it was where it is refused.
abbrev pub taken_by : State → Result State Refusal → Stop
taken_by before (Ok state) = record { refusal = 0; taken = 1; state = state }
taken_by before (Err refusal) = record { refusal = number_of refusal; taken = 0; state = before }

-- A run stops where a request is refused, and where the search is finished.
abbrev pub gone_by : State → ControlFlow (Option Refusal) State → Stop
gone_by before (Continue state) = record { refusal = 0; taken = 1; state = state }
gone_by before (Break refusal) = record { refusal = told_by refusal; taken = 0; state = before }

abbrev pub went_on : Result State Refusal → ControlFlow (Option Refusal) State
went_on (Ok state) = Continue state
went_on (Err refusal) = Break (Some refusal)

-- A state of these counts.
abbrev pub counted : ℕ → ℕ → ℕ → State
counted steps checks subproblems = record { counts = record { steps = record { 0 = steps }; checks = record { 0 = checks } }; subproblems = subproblems }

-- Pieces written from a slot on; how many slots are used then.
pub record Placed (n : ℕ) (l : List Subproblem) (from : ℕ) (before after : List ℕ) (r : ℕ) : Type 0 where
  pub count : r ≡ from + length l
  pub words : after ≡ splice before (from * (n + 2)) (stack_words n l)

-- The same in the place of the top, whose slot is cleared first.
abbrev pub Replaced : ℕ → List Subproblem → ℕ → List ℕ → List ℕ → ℕ → Type 0
Replaced n l below before after r = Placed n l below (splice before (below * (n + 2)) (replicate (n + 2) 0)) after r

-- The refusal of a request of a running search, in the order 11, 7 to 10, 12; `free` slots may take pieces.
unfoldable pub refusal_for : ℕ → ℕ → List ℕ → Subproblem → List ℕ → ℕ → ℕ → ℕ
refusal_for n d tables P r steps free =
    cond (eqb steps 4294967295) 11
    (cond (eqb (refusal_of n d P r) 0) (cond (ltb free (length (pieces n (table_of n d tables) P r))) 12 0) (refusal_of n d P r))

-- A search that runs and whose top is P.
pub record Taking (n d : ℕ) (tables agenda : List ℕ) (P : Subproblem) (s : State) : Type 0 where
  pub ready : Ready n d tables agenda (search_of n agenda s)
  pub some : 1 ≤ s.subproblems
  pub top : P ≡ subproblem_of n (slot_at n agenda (s.subproblems - 1))
  pub runs : all_instantiated n P ≡ false

-- What a step or a run leaves that stops so.
pub record StopsAt (n d : ℕ) (tables before after : List ℕ) (to : Stopped) (r : Stop) : Type 0 where
  pub refusal : r.refusal ≡ to.refusal
  pub taken : r.taken ≡ to.taken
  pub steps : r.state.counts.steps.0 ≡ to.search.steps
  pub checks : r.state.counts.checks.0 ≡ to.search.checks
  pub subproblems : r.state.subproblems ≡ length to.search.memory
  pub ready : Ready n d tables after to.search
  pub same : length after ≡ length before

-- One request of a run, and all of them.
abbrev pub TakesOne : ℕ → ℕ → List ℕ → List ℕ → List ℕ → List ℕ → State → Stop → Type 0
TakesOne n d tables before after request s r =
    StopsAt n d tables before after (run_from (problem_of n d [] tables) (slots (slots_in n (length before))) (request ∷ []) (search_of n before s) 0) r

abbrev pub TakesAll : ℕ → ℕ → List ℕ → List ℕ → List ℕ → List ℕ → State → Stop → Type 0
TakesAll n d tables before after requests s r =
    StopsAt n d tables before after (run (problem_of n d [] tables) (slots (slots_in n (length before))) (requests_in n requests) (search_of n before s)) r

-- One step of the chooser, and up to a number of them.
abbrev pub ChoosesOne : ℕ → ℕ → List ℕ → List ℕ → List ℕ → State → Stop → Type 0
ChoosesOne n d tables before after s r =
    StopsAt n d tables before after (choose_from (problem_of n d [] tables) (slots (slots_in n (length before))) 1 (search_of n before s) 0) r

abbrev pub ChoosesAll : ℕ → ℕ → List ℕ → List ℕ → List ℕ → ℕ → State → Stop → Type 0
ChoosesAll n d tables before after limit s r =
    StopsAt n d tables before after (choose (problem_of n d [] tables) (slots (slots_in n (length before))) limit (search_of n before s)) r
