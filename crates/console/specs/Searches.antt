-- A search as C holds it, the ways on from it by the calls for C, and what they lead to.
use Rattle.std.specs.Prelude.{◌≡◌, List, ℕ, ◌+◌, ◌*◌, ◌≤◌, ◌<◌, get_or, take}
use Rattle.problem.specs.Masks.{single, lowest}
use Rattle.problem.specs.Problem.{Problem, Solution, table_of, problem_of}
use Rattle.search.specs.Agenda.{stack_of, slots_in, agenda_of}
use Rattle.search.specs.FirstChecks.{WholeSlots}
use Rattle.search.specs.Slots.{Search}
use Rattle.search.specs.Calls.{search_of}
use Rattle.search.specs.declared.state.State.{State}
use Rattle.word_bytes.specs.Bytes.{Bytes, words_of, bytes_of}
use Rattle.console.specs.Calls.{state_of, OpensForC, RunsForC, ChoosesForC, SavesForC, LoadsForC}

-- A search that is held: its agenda and the three numbers.
pub record Held : Type 0 where
  pub agenda : List ℕ
  pub steps : ℕ
  pub checks : ℕ
  pub subproblems : ℕ

-- Its three numbers as a state.
abbrev pub state_in : Held → State
state_in s = state_of s.steps s.checks s.subproblems

-- Bytes are bytes, and steps have 32 bits, as C's types have it.
pub record Typed (s : Held) : Type 0 where
  pub bytes : Bytes s.agenda
  pub stepped : s.steps ≤ 4294967295

-- What a call is lent: a problem and a search.
pub record Lent : Type 0 where
  pub n : ℕ
  pub d : ℕ
  pub domains : List ℕ
  pub tables : List ℕ
  pub held : Held

-- What a call that goes on with a search hands out.
pub record Outcome : Type 0 where
  pub held : Held
  pub verdict : ℕ
  pub taken : ℕ
  pub refusal : ℕ

-- A way on: a list of requests, or up to so many steps of the house chooser.
pub data Way : Type 0 where
  by_requests : List ℕ → Way
  by_chooser : ℕ → Way

-- The call that goes on that way: rastwob_run or rastwob_choose.
unfoldable pub GoesOn : ℕ → ℕ → List ℕ → List ℕ → Held → Way → Outcome → Type 0
GoesOn n d domains tables s (by_requests requests) o =
    RunsForC n d domains tables s.agenda o.held.agenda requests s.steps o.held.steps s.checks o.held.checks s.subproblems
    o.held.subproblems o.verdict o.taken o.refusal
GoesOn n d domains tables s (by_chooser limit) o =
    ChoosesForC n d domains tables s.agenda o.held.agenda limit s.steps o.held.steps s.checks o.held.checks s.subproblems
    o.held.subproblems o.verdict o.taken o.refusal

-- The problem that the bytes say.
abbrev pub problem_in : ℕ → ℕ → List ℕ → List ℕ → Problem
problem_in n d domains tables = problem_of n d (words_of domains) (words_of tables)

-- The search of n variables that is held.
abbrev pub search_in : ℕ → Held → Search
search_in n s = search_of n (words_of s.agenda) (state_in s)

-- Word i of a slot of an agenda's bytes.
abbrev pub slot_word : ℕ → List ℕ → ℕ → ℕ → ℕ
slot_word n agenda slot i = get_or (words_of agenda) (slot * (n + 2) + i) 0

-- A slot shows a plan: each of its n masks has one bit, and these values are a solution of the problem.
pub record PlanIn (n d : ℕ) (domains tables agenda : List ℕ) (slot : ℕ) : Type 0 where
  pub one_value : (i : ℕ) → i < n → slot_word n agenda slot i ≡ single (lowest (slot_word n agenda slot i))
  pub plan : Solution n (table_of n d (words_of tables)) (λ i. get_or (words_of domains) i 0) (λ i. lowest (slot_word n agenda slot i))

-- What opening and any number of calls for C lead to, each handed what the one before it left: runs and choosers, refused ones too, and loads of the
-- blocks that save wrote; and moved in memory to an agenda of another length that takes it, zeros after. opened-tables are the tables that were opened;
-- load writes zeros at a variable with itself, so that those in memory may differ from them there.
pub data LivedForC (n d : ℕ) (domains opened-tables : List ℕ) : List ℕ → Held → Type 0 where
  opened : {before : List ℕ} {s : Held} → OpensForC n d domains opened-tables before s.agenda s.steps s.checks s.subproblems 0
      → LivedForC n d domains opened-tables opened-tables s
  went_on : {tables : List ℕ} {s : Held} → LivedForC n d domains opened-tables tables s → (way : Way) (o : Outcome)
      → GoesOn n d domains tables s way o → LivedForC n d domains opened-tables tables o.held
  loaded : {tables before after domains₀ domains' tables₀ tables' agenda₀ : List ℕ} {s l : Held} {blocks n' d' : ℕ}
      → LivedForC n d domains opened-tables tables s
      → SavesForC n d domains tables s.agenda s.steps s.checks s.subproblems before after blocks 0
      → LoadsForC (take (512 * blocks) after) domains₀ domains' tables₀ tables' agenda₀ l.agenda n' d' l.steps l.checks l.subproblems 0
      → LivedForC n d domains opened-tables tables' l
  moved : {tables : List ℕ} {s : Held} → LivedForC n d domains opened-tables tables s → (words : ℕ) → WholeSlots n words
      → s.subproblems ≤ slots_in n words
      → LivedForC n d domains opened-tables tables (record {
        agenda = bytes_of (agenda_of n words (stack_of n (words_of s.agenda) s.subproblems));
        steps = s.steps;
        checks = s.checks;
        subproblems = s.subproblems;
      })
