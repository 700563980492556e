-- What each public call returns and leaves, for every input, field by field.
use Rattle.std.specs.Prelude.{◌≡◌, cond, List, [], ◌∷◌, ℕ, length, get_or, eqb}
use Rattle.problem.specs.Lists.{some}
use Rattle.splits.specs.declared.subproblem.Subproblem.{Subproblem}
use Rattle.problem.specs.Problem.{problem_of}
use Rattle.search.specs.Agenda.{holding, stack_of, slots_in, agenda_of}
use Rattle.search.specs.Slots.{slots, Search, Stopped}
use Rattle.searches.specs.Verdicts.{verdict_of}
use Rattle.searches.specs.Runs.{run, requests_in}
use Rattle.searches.specs.Chooser.{choose}
use Rattle.search.specs.Tests.FirstChecks.{open_refusal, search_refusal, run_refusal}
use Rattle.search.specs.declared.state.State.{State}
use Rattle.search.specs.Outcomes.{fresh, Opened, Ran}
use Rattle.searches.specs.declared.verdict.Verdict.TheVariants.{None}

abbrev pub Fresh : ℕ → State → Type 0
Fresh subproblems r = r ≡ fresh subproblems

-- What opening places: the problem with nothing instantiated, unless a domain is empty.
unfoldable pub opening : ℕ → List ℕ → List Subproblem
opening n domains = cond (some n (λ i. eqb (get_or domains i 0) 0)) [] (holding n domains 0 ∷ [])

-- The search that opening begins.
abbrev pub begun : ℕ → List ℕ → Search
begun n domains = record { memory = opening n domains; steps = 0; checks = 0 }

-- How opening ends whose refusal is k: it clears the agenda and both counts, and places the problem; refused, it changes nothing and returns zeros.
pub record OpenEnds (k n : ℕ) (domains before after : List ℕ) (r : Opened) : Type 0 where
  pub refusal : r.refusal ≡ k
  pub steps : r.state.counts.steps.0 ≡ 0
  pub checks : r.state.counts.checks.0 ≡ 0
  pub subproblems : r.state.subproblems ≡ cond (eqb k 0) (length (opening n domains)) 0
  pub agenda : after ≡ cond (eqb k 0) (agenda_of n (length before) (opening n domains)) before

abbrev pub Opens : ℕ → ℕ → List ℕ → List ℕ → List ℕ → List ℕ → Opened → Type 0
Opens n d domains tables before after r = OpenEnds (open_refusal n d domains tables before) n domains before after r

-- The search that a state and an agenda hold.
abbrev pub search_of : ℕ → List ℕ → State → Search
search_of n agenda s =
    record { memory = stack_of n agenda s.subproblems; steps = s.counts.steps.0; checks = s.counts.checks.0 }

-- How a call ends whose first checks gave `first` and whose run, if they gave 0, stops so. Where the first checks refuse, the verdict
-- is none, 0 are taken, and the state and the agenda are as they were.
pub record Ends (first n : ℕ) (before after : List ℕ) (s : State) (stopped : Stopped) (r : Ran) : Type 0 where
  pub verdict : r.verdict ≡ cond (eqb first 0) (verdict_of n stopped.search.memory) None
  pub refusal : r.refusal ≡ cond (eqb first 0) stopped.refusal first
  pub taken : r.taken ≡ cond (eqb first 0) stopped.taken 0
  pub steps : r.state.counts.steps.0 ≡ cond (eqb first 0) stopped.search.steps s.counts.steps.0
  pub checks : r.state.counts.checks.0 ≡ cond (eqb first 0) stopped.search.checks s.counts.checks.0
  pub subproblems : r.state.subproblems ≡ cond (eqb first 0) (length stopped.search.memory) s.subproblems
  pub agenda : after ≡ cond (eqb first 0) (agenda_of n (length before) stopped.search.memory) before

abbrev pub Runs : ℕ → ℕ → List ℕ → List ℕ → List ℕ → List ℕ → List ℕ → State → Ran → Type 0
Runs n d domains tables before after requests s r =
    Ends (run_refusal n d domains tables before requests s.counts.steps.0 s.counts.checks.0 s.subproblems) n before after s
    (run (problem_of n d domains tables) (slots (slots_in n (length before))) (requests_in n requests) (search_of n before s)) r

abbrev pub Chooses : ℕ → ℕ → List ℕ → List ℕ → List ℕ → List ℕ → ℕ → State → Ran → Type 0
Chooses n d domains tables before after limit s r =
    Ends (search_refusal n d domains tables before s.counts.steps.0 s.counts.checks.0 s.subproblems) n before after s
    (choose (problem_of n d domains tables) (slots (slots_in n (length before))) limit (search_of n before s)) r
