-- What opening needs of its memory, where a request of a run lies, and what a call returns that its first checks refuse, or that stopped.
use Rattle.std.specs.Prelude.{◌≡◌, List, ℕ, ◌+◌, ◌*◌, ◌≤◌, length, take, drop}
use Rattle.search.specs.Agenda.{stack_of, slots_in}
use Rattle.searches.specs.Verdicts.{verdict_of}
use Rattle.search.specs.declared.state.State.{State}
use Rattle.searches.specs.declared.verdict.Verdict.TheVariants.{None}
use Rattle.search.specs.Outcomes.{Ran}
use Rattle.search.specs.Loops.Steps.{Stop}

-- Memory of at least one whole slot, and a domain for each variable.
pub record Openable (n : ℕ) (domains agenda : List ℕ) : Type 0 where
  pub few : n ≤ 32
  pub named : length domains ≡ n
  pub some : 1 ≤ slots_in n (length agenda)
  pub whole : length agenda ≡ slots_in n (length agenda) * (n + 2)

-- So many slots lie within memory.
pub record Used (n m words : ℕ) : Type 0 where
  pub few : n ≤ 32
  pub within : m * (n + 2) ≤ words

-- The words of request k of a list.
unfoldable pub request_at : ℕ → List ℕ → ℕ → List ℕ
request_at n requests k = take (n + 3) (drop (k * (n + 3)) requests)

-- What is returned where the first checks refuse.
abbrev pub refused_by : ℕ → State → Ran
refused_by refusal state = record { verdict = None; refusal = refusal; taken = 0; state = state }

-- What is returned where a run stopped so, with the verdict of the memory it left.
abbrev pub ended_by : ℕ → List ℕ → Stop → Ran
ended_by n agenda stop = record {
  verdict = verdict_of n (stack_of n agenda stop.state.subproblems);
  refusal = stop.refusal;
  taken = stop.taken;
  state = stop.state;
}
