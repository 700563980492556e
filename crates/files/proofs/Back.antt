-- The calls one after the other: load gives back what save was handed, save writes again what load was handed.
-- Assumes nothing.
use mathlib.Core.Path.{◌≡◌, refl, sym, ap, ap₂, ◌∙◌}
use mathlib.Core.List.{List, Memᴰ, ◌++◌}
use Prim.Native.Nat.{ℕ, ◌*◌, ◌≤◌}
use native.Mathlib.Omega.{arith}
use lib.ListN.{length, take, drop}
use lib.Seq.{take_at}
use borrow.Author.Tests.{le-ltb}
use Rattle.problem.specs.Problem.{Table, AllowSame, table_of, Words}
use Rattle.splits.specs.declared.subproblem.Subproblem.{Subproblem}
use Rattle.search.specs.Agenda.{Shape, slots_in, agenda_of}
use Rattle.search.specs.Slots.{Search}
use Rattle.search.specs.FirstChecks.{WholeSlots}
use Rattle.search.specs.Tests.FirstChecks.{refusal_of_lengths, search_refusal}
use Rattle.search.specs.Calls.{search_of}
use Rattle.search.specs.declared.state.State.{State}
use Rattle.search.proofs.Encoding.{length_stack_of, agenda_back}
use Rattle.search.proofs.first_checks.FirstPassing.{PassedSearch, search_is_passed}
use Rattle.blocks.specs.Blocks.{blocks_for, file_of}
use Rattle.files.specs.Content.{content_of}
use Rattle.files.specs.Reading.{said_n, said_d, said_steps, said_checks, said_subproblems, said_domains, said_allowed, said_search, table_words}
use Rattle.files.specs.Calls.{handed_content, save_refusal, Saves, load_refusal, Loads}
use Rattle.blocks.specs.Reading.{Bytes}
use Rattle.files.specs.Promises.{Says, GivenBack}
use Rattle.files.specs.Outcomes.{Saved}
use Rattle.files.specs.Outcomes.{Loaded}
use Rattle.files.proofs.Triangle.{table_other, triangle_same}
use Rattle.blocks.proofs.Blocks.{file_length}
use Rattle.files.proofs.RoundTrip.{saved_again}
use Rattle.files.proofs.Saving.{stack_shape, saved_says}
use Rattle.files.proofs.Loading.{Fits, fit_lengths, load_taken, said_passing, memory_read, said_agree}
use Rattle.files.proofs.Refusals.{save_none}

-- ---- load of a file that says a search

-- The state that says a search.
unfoldable pub state_of : Search → State
state_of x = record { counts = record { steps = record { 0 = x.steps }; checks = record { 0 = x.checks } }; subproblems = length x.memory }

-- What load returns and leaves.
pub record Lent (file : List ℕ) (n d : ℕ) (domains : List ℕ) (x : Search) (words : ℕ) (r : Loaded) (domains' tables' agenda' : List ℕ) : Type 0 where
  pub refusal : r.refusal ≡ 0
  pub its_n : r.n ≡ n
  pub its_d : r.d ≡ d
  pub its_domains : domains' ≡ domains
  pub its_tables : tables' ≡ table_words n d (said_allowed file)
  pub its_agenda : agenda' ≡ agenda_of n words x.memory
  pub its_state : r.state ≡ state_of x

module _ (file : List ℕ) (n d : ℕ) (domains : List ℕ) (allowed : Table) (x : Search) (says : Says file n d domains allowed x) where
  -- Into buffers that fit it is not refused.
  load_passes : (domains₀ tables₀ agenda₀ : ℕ) → Fits n d domains₀ tables₀ agenda₀ → length x.memory ≤ slots_in n agenda₀
      → load_refusal file domains₀ tables₀ agenda₀ ≡ 0
  unfolding load_refusal
  load_passes domains₀ tables₀ agenda₀ fits room =
      let three : refusal_of_lengths (said_n file) (said_d file) domains₀ tables₀ agenda₀ ≡ 0 =
      rw (says.its_n, says.its_d) (fit_lengths n d domains₀ tables₀ agenda₀ fits) in
      let slots : said_subproblems file ≤ slots_in (said_n file) agenda₀ = rw (says.its_subproblems, says.its_n) room in
      rw (says.whole, says.accepted, three, le-ltb (slots_in (said_n file) agenda₀) (said_subproblems file) slots) refl

  -- What it returns and leaves is what the file says.
  pub lent : (domains₀ domains' tables₀ tables' agenda₀ agenda' : List ℕ) (r : Loaded)
      → Loads file domains₀ domains' tables₀ tables' agenda₀ agenda' r
      → Fits n d (length domains₀) (length tables₀) (length agenda₀) → length x.memory ≤ slots_in n (length agenda₀)
      → Lent file n d domains x (length agenda₀) r domains' tables' agenda'
  unfolding state_of
  lent domains₀ domains' tables₀ tables' agenda₀ agenda' r h fits room =
      let none = load_passes (length domains₀) (length tables₀) (length agenda₀) fits room in
      let steps : r.state.counts.steps.0 ≡ x.steps = (rw none at h.steps) ∙ ap (λ (y : Search). y.steps) says.its_search in
      let checks : r.state.counts.checks.0 ≡ x.checks = (rw none at h.checks) ∙ ap (λ (y : Search). y.checks) says.its_search in
      let subproblems : r.state.subproblems ≡ length x.memory = (rw none at h.subproblems) ∙ says.its_subproblems in
      record {
        refusal = h.refusal ∙ none;
        its_n = (rw none at h.its_n) ∙ says.its_n;
        its_d = (rw none at h.its_d) ∙ says.its_d;
        its_domains = (rw none at h.its_domains) ∙ says.its_domains;
        its_tables = (rw none at h.its_tables) ∙ ap₂ (λ (n d : ℕ). table_words n d (said_allowed file)) says.its_n says.its_d;
        its_agenda =
            (rw none at h.its_agenda) ∙ ap₂ (λ (n : ℕ) (y : Search). agenda_of n (length agenda₀) y.memory) says.its_n says.its_search;
        its_state = λ i. record { counts = record { steps = record { 0 = steps i }; checks = record { 0 = checks i } }; subproblems = subproblems i };
      }

  -- The tables that it writes allow what was saved, at two different variables.
  pub lent_agree : AllowSame n d (table_of n d (table_words n d (said_allowed file))) allowed
  lent_agree i j a l k f m = table_other n d (said_allowed file) i j a l k f m ∙ says.its_allowed i j a l k f m

-- ---- load after save

module _ (n d : ℕ) (domains tables agenda : List ℕ) (s : State) (before after : List ℕ) (saved : Saved) (h : Saves n d domains tables agenda s before after saved)
    (passes : save_refusal n d domains tables agenda s before ≡ 0) where
  -- The blocks that were written.
  pub written_blocks : take (512 * saved.blocks) after ≡ file_of (handed_content n d domains tables agenda s)
  written_blocks =
      let c = handed_content n d domains tables agenda s in
      ap₂ (λ (k : ℕ) (l : List ℕ). take (512 * k) l) (rw passes at h.blocks) (rw passes at h.file)
      ∙ take_at (file_of c) (drop (length (file_of c)) before) (512 * blocks_for (length c)) (file_length c)

-- Its memory and state say it.
state_search : (n : ℕ) → n ≤ 32 → (words : ℕ) (x : Search) → ((P : Subproblem) → Memᴰ P x.memory → Shape n 16 P)
    → search_of n (agenda_of n words x.memory) (state_of x) ≡ x
unfolding state_of
state_search n few words x shape =
    let stack = agenda_back n 16 words x.memory few shape in
    λ i. record { memory = stack i; steps = x.steps; checks = x.checks }

-- Load of what save wrote returns and leaves the search that was saved.
module _ (n d : ℕ) (domains tables agenda : List ℕ) (s : State) (before after : List ℕ) (saved : Saved)
    (domains₀ domains' tables₀ tables' agenda₀ agenda' : List ℕ) (r : Loaded) (words : Words agenda)
    (h : Saves n d domains tables agenda s before after saved)
    (e : saved.refusal ≡ 0) (l : Loads (take (512 * saved.blocks) after) domains₀ domains' tables₀ tables' agenda₀ agenda' r) (ds : length domains₀ ≡ n)
    (ts : length tables₀ ≡ n * n * d) (ws : WholeSlots n (length agenda₀)) (room : s.subproblems ≤ slots_in n (length agenda₀)) where
  none : save_refusal n d domains tables agenda s before ≡ 0
  none = sym h.refusal ∙ e

  passing : PassedSearch n d domains tables agenda s.counts.steps.0 s.counts.checks.0 s.subproblems
  passing =
      (search_is_passed n d domains tables agenda s.counts.steps.0 s.counts.checks.0 s.subproblems).0
      ((save_none n d domains tables agenda s before).0 none).0

  says_it : Says (file_of (handed_content n d domains tables agenda s)) n d domains (table_of n d tables) (search_of n agenda s)
  says_it = saved_says n d domains tables agenda s words passing

  pub lent_back : Lent (file_of (handed_content n d domains tables agenda s)) n d domains (search_of n agenda s) (length agenda₀) r domains' tables' agenda'
  lent_back =
      let file = file_of (handed_content n d domains tables agenda s) in
      let x = search_of n agenda s in
      let given : Loads file domains₀ domains' tables₀ tables' agenda₀ agenda' r = rw
      (written_blocks n d domains tables agenda s before after saved h none) at l in
      let fits : Fits n d (length domains₀) (length tables₀) (length agenda₀) = record { domain_words = ds; table_words = ts; slots = ws } in
      let size : length x.memory ≡ s.subproblems = length_stack_of n agenda s.subproblems in
      let slots : length x.memory ≤ slots_in n (length agenda₀) = omega arith in
      lent file n d domains (table_of n d tables) x says_it domains₀ domains' tables₀ tables' agenda₀ agenda' r given fits slots

  -- It gives the search back.
  pub loads_back : GivenBack n d domains tables (search_of n agenda s) r domains' tables' agenda'
  loads_back = record {
    refusal = lent_back.refusal;
    its_n = lent_back.its_n;
    its_d = lent_back.its_d;
    its_domains = lent_back.its_domains;
    its_allowed =
        rw lent_back.its_tables
        (lent_agree (file_of (handed_content n d domains tables agenda s)) n d domains (table_of n d tables) (search_of n agenda s) says_it);
    its_search = ap₂ (search_of n) lent_back.its_agenda lent_back.its_state
        ∙ state_search n passing.passed.proper.variables (length agenda₀) (search_of n agenda s)
        (stack_shape n d domains tables agenda s words passing);
  }

-- ---- save after load

module _ (file domains₀ domains tables₀ tables agenda₀ agenda : List ℕ) (r : Loaded) (bytes : Bytes file) (h : Loads file domains₀ domains tables₀ tables agenda₀ agenda r)
    (e : r.refusal ≡ 0) where
  passes : load_refusal file (length domains₀) (length tables₀) (length agenda₀) ≡ 0
  passes = sym h.refusal ∙ e

  -- What was loaded, as the file says it.
  state : State
  state = record {
    counts = record { steps = record { 0 = said_steps file }; checks = record { 0 = said_checks file } };
    subproblems = said_subproblems file;
  }

  its_state : r.state ≡ state
  unfolding state
  its_state =
      let steps : r.state.counts.steps.0 ≡ said_steps file = rw passes at h.steps in
      let checks : r.state.counts.checks.0 ≡ said_checks file = rw passes at h.checks in
      let subproblems : r.state.subproblems ≡ said_subproblems file = rw passes at h.subproblems in
      λ i. record { counts = record { steps = record { 0 = steps i }; checks = record { 0 = checks i } }; subproblems = subproblems i }

  tables' : List ℕ
  tables' = table_words (said_n file) (said_d file) (said_allowed file)

  agenda' : List ℕ
  agenda' = agenda_of (said_n file) (length agenda₀) (said_search file).memory

  -- Its content is the file's.
  content_is : file_of (handed_content (said_n file) (said_d file) (said_domains file) tables' agenda' state) ≡ file
  unfolding state tables' agenda' content_of
  content_is =
      let t = load_taken file (length domains₀) (length tables₀) (length agenda₀) passes in
      let read = memory_read file t.accepts bytes (length agenda₀) t.lengths.slots t.room in
      let same = triangle_same (said_n file) (said_d file) (table_of (said_n file) (said_d file) (table_words (said_n file) (said_d file) (said_allowed file)))
      (said_allowed file)
      (λ i j a l k m. sym (said_agree file t.accepts i j a (omega arith) k (λ q. absurd (omega arith)) m)) in
      rw (read, same) (saved_again file bytes t.accepts.variables t.whole t.accepts)

  -- It passes the first checks.
  first_passes : search_refusal (said_n file) (said_d file) (said_domains file) tables' agenda' state.counts.steps.0 state.counts.checks.0 state.subproblems ≡ 0
  unfolding state tables' agenda'
  first_passes =
      let t = load_taken file (length domains₀) (length tables₀) (length agenda₀) passes in
      (search_is_passed (said_n file) (said_d file) (said_domains file) (table_words (said_n file) (said_d file) (said_allowed file))
      (agenda_of (said_n file) (length agenda₀) (said_search file).memory) (said_steps file) (said_checks file) (said_subproblems file)).1
      (said_passing file t.accepts bytes (length agenda₀) t.lengths.slots t.room)

  saves_again : (before after : List ℕ) (saved : Saved) → Saves (said_n file) (said_d file) (said_domains file) tables' agenda' state before after saved
      → length file ≤ length before → (saved.refusal ≡ 0) × (512 * saved.blocks ≡ length file) × (after ≡ file ++ drop (length file) before)
  saves_again before after saved w room =
      let c = handed_content (said_n file) (said_d file) (said_domains file) tables' agenda' state in
      let size : 512 * blocks_for (length c) ≡ length file = sym (file_length c) ∙ ap length content_is in
      let none : save_refusal (said_n file) (said_d file) (said_domains file) tables' agenda' state before ≡ 0 =
      (save_none (said_n file) (said_d file) (said_domains file) tables' agenda' state before).1
      (first_passes, λ l. absurd (omega arith)) in (
        w.refusal ∙ none,
        ap (λ (k : ℕ). 512 * k) (rw none at w.blocks) ∙ size,
        (rw none at w.file) ∙ ap (λ (f : List ℕ). f ++ drop (length f) before) content_is,
      )

saves_cast : (n n' d d' : ℕ) (domains domains' tables tables' agenda agenda' : List ℕ) (s s' : State) (before after : List ℕ) (r : Saved)
    → n' ≡ n → d' ≡ d → domains' ≡ domains → tables' ≡ tables → agenda' ≡ agenda → s' ≡ s
    → Saves n' d' domains' tables' agenda' s' before after r → Saves n d domains tables agenda s before after r
saves_cast n n' d d' domains domains' tables tables' agenda agenda' s s' before after r a b c e f g h = rw (← a, ← b, ← c, ← e, ← f, ← g) h

-- Save of what load accepted writes the file again.
pub saves_back : (file domains₀ domains tables₀ tables agenda₀ agenda : List ℕ) (r : Loaded) (before after : List ℕ) (saved : Saved) → Bytes file
    → Loads file domains₀ domains tables₀ tables agenda₀ agenda r → r.refusal ≡ 0
    → Saves r.n r.d domains tables agenda r.state before after saved → length file ≤ length before
    → (saved.refusal ≡ 0) × (512 * saved.blocks ≡ length file) × (after ≡ file ++ drop (length file) before)
unfolding passes tables' agenda'
saves_back file domains₀ domains tables₀ tables agenda₀ agenda r before after saved bytes h e w room =
    let none = passes file domains₀ domains tables₀ tables agenda₀ agenda r bytes h e in
    let T = tables' file domains₀ domains tables₀ tables agenda₀ agenda r bytes h e in
    let A = agenda' file domains₀ domains tables₀ tables agenda₀ agenda r bytes h e in
    let s = state file domains₀ domains tables₀ tables agenda₀ agenda r bytes h e in
    saves_again file domains₀ domains tables₀ tables agenda₀ agenda r bytes h e before after saved
    (saves_cast (said_n file) r.n (said_d file) r.d (said_domains file) domains T tables A agenda s r.state before after saved
    (rw none at h.its_n) (rw none at h.its_d) (rw none at h.its_domains) (rw none at h.its_tables) (rw none at h.its_agenda)
    (its_state file domains₀ domains tables₀ tables agenda₀ agenda r bytes h e) w) room
