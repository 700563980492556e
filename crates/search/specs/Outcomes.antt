-- What opening, a run and the chooser tell, with a refusal as its number, 0 for none: the promises speak of these, and the results of the code are read so.
use Rattle.std.specs.Prelude.{ℕ, Option, Some, None, Result, Ok, Err}
use Rattle.problem.specs.declared.refusal.Refusal.{Refusal}
use Rattle.problem.specs.Refused.{number_of}
use Rattle.searches.specs.declared.verdict.Verdict.{Verdict}
use Rattle.search.specs.declared.state.State.{State}
use Rattle.search.specs.declared.state.Ran.{Ran as Returned}

-- A state of no steps and no checks, with so many subproblems.
abbrev pub fresh : ℕ → State
fresh subproblems = record { counts = record { steps = record { 0 = 0 }; checks = record { 0 = 0 } }; subproblems = subproblems }

-- What opening tells: refused, its state is zeros.
pub record Opened : Type 0 where
  pub refusal : ℕ
  pub state : State

abbrev pub opened : Result State Refusal → Opened
opened (Ok state) = record { refusal = 0; state = state }
opened (Err refusal) = record { refusal = number_of refusal; state = fresh 0 }

-- What a run and the chooser tell.
pub record Ran : Type 0 where
  pub verdict : Verdict
  pub refusal : ℕ
  pub taken : ℕ
  pub state : State

-- The number of a refusal, if there is one.
abbrev pub told_by : Option Refusal → ℕ
told_by None = 0
told_by (Some refusal) = number_of refusal

abbrev pub ran : Returned → Ran
ran r = record { verdict = r.verdict; refusal = told_by r.refusal; taken = r.taken; state = r.state }
