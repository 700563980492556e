-- What a call leaves, saved and loaded into an agenda of equal length: load returns and leaves it as it was, but for a variable with itself.
-- Assumes nothing.
use mathlib.Core.Path.{◌≡◌, sym, ap, ◌∙◌}
use mathlib.Core.List.{List}
use Prim.Native.Nat.{ℕ, ◌≤◌}
use native.Mathlib.Omega.{arith}
use native.Mathlib.Decide.{dec_lt}
use lib.ListN.{length, get_or-eq_default}
use Rattle.problem.specs.Problem.{AgreeApart}
use Rattle.search.specs.Agenda.{stack_of, slots_in, agenda_of}
use Rattle.search.specs.FirstChecks.{WholeSlots}
use Rattle.search.specs.Calls.{Runs, Chooses}
use Rattle.search.specs.Promises.{Handed}
use Rattle.search.specs.declared.state.State.{State}
use Rattle.search.specs.Outcomes.{Ran}
use Rattle.search.proofs.Encoding.{length_stack_of, agenda_of_words}
use Rattle.search.proofs.first_checks.FirstPassing.{PassedSearch, search_is_passed}
use Rattle.blocks.specs.Blocks.{file_of}
use Rattle.files.specs.Reading.{said_allowed}
use Rattle.files.specs.Calls.{handed_content, save_refusal}
use Rattle.files.specs.Promises.{TwoWays}
use Rattle.files.proofs.Triangle.{table_length}
use Rattle.files.proofs.Saving.{within}
use Rattle.files.proofs.Back.{state_of, lent_back, loads_back}
use Rattle.files.proofs.Refusals.{save_none}
use Rattle.files.proofs.Diagonal.{diagonal_run, diagonal_choose}

-- What save and load return and leave.
pub record Carried {n d : ℕ} {domains tables : List ℕ} (w : TwoWays n d domains tables) : Type 0 where
  pub saved : w.saved.refusal ≡ 0
  pub loaded : w.loaded.refusal ≡ 0
  pub its_n : w.loaded.n ≡ n
  pub its_d : w.loaded.d ≡ d
  pub its_domains : w.domains' ≡ domains
  pub its_tables : AgreeApart n d w.tables' tables
  pub its_agenda : w.agenda' ≡ w.first_agenda
  pub its_state : w.loaded.state ≡ w.first.state

-- The statements of a run and of the chooser at equal inputs.
runs_cast : (n n' d d' : ℕ) (domains domains' tables before before' left requests : List ℕ) (s s' : State) (r : Ran)
    → n' ≡ n → d' ≡ d → domains' ≡ domains → before' ≡ before → s' ≡ s
    → Runs n' d' domains' tables before' left requests s' r → Runs n d domains tables before left requests s r
runs_cast n n' d d' domains domains' tables before before' left requests s s' r a b c e f h = rw (← a, ← b, ← c, ← e, ← f) h

chooses_cast : (n n' d d' : ℕ) (domains domains' tables before before' left : List ℕ) (limit : ℕ) (s s' : State) (r : Ran)
    → n' ≡ n → d' ≡ d → domains' ≡ domains → before' ≡ before → s' ≡ s
    → Chooses n' d' domains' tables before' left limit s' r → Chooses n d domains tables before left limit s r
chooses_cast n n' d d' domains domains' tables before before' left limit s s' r a b c e f h = rw (← a, ← b, ← c, ← e, ← f) h

module _ (n d : ℕ) (domains tables : List ℕ) (w : TwoWays n d domains tables) (handed : Handed n d domains tables w.first_agenda w.first.state) where
  agenda : List ℕ
  agenda = w.first_agenda

  s : State
  s = w.first.state

  passing : PassedSearch n d domains tables agenda s.counts.steps.0 s.counts.checks.0 s.subproblems
  unfolding agenda s
  passing = (search_is_passed n d domains tables agenda s.counts.steps.0 s.counts.checks.0 s.subproblems).0 handed.passes

  -- The agenda is that of the stack that it holds.
  its_own : agenda ≡ agenda_of n (length agenda) (stack_of n agenda s.subproblems)
  unfolding agenda s
  its_own =
      agenda_of_words n w.first_agenda w.first.state.subproblems
      (within n d domains tables w.first_agenda w.first.state handed.words passing) handed.words
      (λ i l. elim (dec_lt i (length w.first_agenda)) [ yes k ↦ passing.zeros i l k | no k ↦ get_or-eq_default w.first_agenda 0 (omega arith) ])

  pub carried : Carried w
  unfolding agenda s state_of
  carried =
      let none : save_refusal n d domains tables agenda s w.buffer ≡ 0 =
      (save_none n d domains tables agenda s w.buffer).1 (handed.passes, λ l. absurd (omega (arith, w.enough))) in
      let saved : w.saved.refusal ≡ 0 = w.saves.refusal ∙ none in
      let room : s.subproblems ≤ slots_in n (length w.agenda₀) = rw w.agenda_words passing.room in
      let slots : WholeSlots n (length w.agenda₀) = rw w.agenda_words passing.passed.slots in
      let back =
      lent_back n d domains tables agenda s w.buffer w.written w.saved w.domains₀ w.domains' w.tables₀ w.tables' w.agenda₀
      w.agenda' w.loaded
      handed.words w.saves saved w.loads w.domain_words w.table_words slots room in
      let given =
      loads_back n d domains tables agenda s w.buffer w.written w.saved w.domains₀ w.domains' w.tables₀ w.tables' w.agenda₀
      w.agenda' w.loaded
      handed.words w.saves saved w.loads w.domain_words w.table_words slots room in
      let count = length_stack_of n agenda s.subproblems in
      record {
        saved = saved;
        loaded = back.refusal;
        its_n = back.its_n;
        its_d = back.its_d;
        its_domains = back.its_domains;
        its_tables = record {
          words =
              ap length back.its_tables ∙ table_length n d (said_allowed (file_of (handed_content n d domains tables agenda s))) ∙ sym
              passing.passed.tables_words;
          masks = given.its_allowed;
        };
        its_agenda = back.its_agenda ∙ ap (λ (k : ℕ). agenda_of n k (stack_of n agenda s.subproblems)) w.agenda_words ∙ sym its_own;
        its_state = back.its_state
            ∙ (λ i. record {
              counts = record { steps = record { 0 = s.counts.steps.0 }; checks = record { 0 = s.counts.checks.0 } };
              subproblems = count i;
            });
      }

  -- A call on what was loaded is the call on what was saved.
  pub run_on : (left requests : List ℕ) (r : Ran)
      → Runs w.loaded.n w.loaded.d w.domains' w.tables' w.agenda' left requests w.loaded.state r
      → Runs n d domains tables w.first_agenda left requests w.first.state r
  run_on left requests r h =
      let c = carried in
      diagonal_run n d domains w.tables' tables c.its_tables w.first_agenda left requests w.first.state r handed.stepped
      (runs_cast n w.loaded.n d w.loaded.d domains w.domains' w.tables' w.first_agenda w.agenda' left requests w.first.state w.loaded.state r
      c.its_n c.its_d c.its_domains c.its_agenda c.its_state h)

  pub choose_on : (left : List ℕ) (limit : ℕ) (r : Ran)
      → Chooses w.loaded.n w.loaded.d w.domains' w.tables' w.agenda' left limit w.loaded.state r
      → Chooses n d domains tables w.first_agenda left limit w.first.state r
  choose_on left limit r h =
      let c = carried in
      diagonal_choose n d domains w.tables' tables c.its_tables w.first_agenda left limit w.first.state r handed.stepped
      (chooses_cast n w.loaded.n d w.loaded.d domains w.domains' w.tables' w.first_agenda w.agenda' left limit w.first.state w.loaded.state r
      c.its_n c.its_d c.its_domains c.its_agenda c.its_state h)
