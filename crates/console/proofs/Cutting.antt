-- The cut, on bytes: what files promises of words.
-- Assumes nothing.
use mathlib.Core.Path.{◌≡◌, sym, ap, ap₂, subst, ◌∙◌}
use mathlib.Core.List.{List, ◌++◌}
use Prim.Native.Nat.{ℕ, ◌+◌, ◌-◌, ◌*◌, ◌≤◌}
use native.Mathlib.Omega.{arith}
use native.Mathlib.Nat.{mul-le-mul_right, add-mul, lt_of_not-le}
use native.Mathlib.Decide.{dec_lt}
use lib.ListN.{length, take, drop, length-append, length-drop}
use Rattle.searches.specs.Verdicts.{number_of}
use Rattle.search.specs.FirstChecks.{WholeRequests}
use Rattle.search.specs.Slots.{Stopped}
use Rattle.search.specs.Calls.{Runs, Chooses}
use Rattle.search.specs.declared.state.State.{State}
use Rattle.search.specs.Outcomes.{Ran}
use Rattle.blocks.specs.Blocks.{blocks_for}
use Rattle.files.specs.Calls.{handed_content, Saves, Loads}
use Rattle.files.specs.Promises.{TwoWays, SameEnd}
use Rattle.files.proofs.Promises.{cut_any, cut_choose as cut_choose_any}
use Rattle.word_bytes.specs.Bytes.{Whole, words_of, bytes_of}
use Rattle.word_bytes.proofs.Words.{words_length, words_append, words_past, words_again, said_whole}
use Rattle.console.specs.Calls.{WholeProblem}
use Rattle.console.specs.Searches.{Held, Way, by_requests, by_chooser}
use Rattle.console.specs.Promises.{Cut, EndsAsUncut, CutRun, CutChooser}
use Rattle.console.proofs.Going.{state_in, list_of, first_of, stopped_of, Went, went, passes_so, requests_whole}
use Rattle.console.proofs.Living.{state_out}

-- What is left of whole requests when the first of them are taken off is whole requests.
rest_whole : (n a b : ℕ) → WholeRequests n a → WholeRequests n (a + b) → WholeRequests n b
rest_whole n a b (j, e) (m, f) = elim (dec_lt m j) [
  | yes l ↦ let up : (m + 1) * (n + 3) ≤ j * (n + 3) = mul-le-mul_right (n + 3) (omega arith) in absurd (omega arith)
  | no k ↦
      let sum : j + (m - j) ≡ m = omega (arith, lt_of_not-le k) in
      let both : m * (n + 3) ≡ j * (n + 3) + (m - j) * (n + 3) = ap (λ (i : ℕ). i * (n + 3)) (sym sum) ∙ add-mul j (m - j) (n + 3) in
      (m - j, omega arith)
]

-- What both cuts share: the calls of the cut in words, and the end of theirs as the end of the cut.
module _ {n d : ℕ} {domains tables : List ℕ} {s : Held} {all to_the_cut : Way} {rest : ℕ → Way} (c : Cut n d domains tables s all to_the_cut rest)
    (w : WholeProblem domains tables s.agenda) {f g : ℕ} {x y : Stopped} (whole : Went n s f x c.whole) (first : Went n s g y c.first) where
  -- The slices that are handed on are whole words.
  first_whole : WholeProblem domains tables c.first.held.agenda
  first_whole = record { of_domains = w.of_domains; of_tables = w.of_tables; of_agenda = said_whole _ first.said }

  lent_whole : WholeProblem c.domains₀ c.tables₀ c.agenda₀
  lent_whole = record {
    of_domains = rw c.domain_bytes (omega arith);
    of_tables = rw c.table_bytes (omega arith);
    of_agenda = rw c.agenda_bytes first_whole.of_agenda;
  }

  pub loaded_whole : WholeProblem c.domains' c.tables' c.loaded.agenda
  loaded_whole =
      let l = c.loads.loads.whole lent_whole in
      record {
        of_domains = said_whole _ l.said_domains;
        of_tables = said_whole _ l.said_tables;
        of_agenda = said_whole _ l.said_agenda;
      }

  -- The states that are handed on.
  first_state : state_in c.first.held ≡ first.ran.state
  first_state = sym (state_out first.ran.state first.out.its_steps first.out.its_checks first.out.its_subproblems)

  pub loaded_state : state_in c.loaded ≡ c.loads.outcome.state
  loaded_state = sym (state_out c.loads.outcome.state c.loads.its_steps c.loads.its_checks c.loads.its_subproblems)

  its_saves : Saves n d (words_of domains) (words_of tables) (words_of c.first.held.agenda) first.ran.state c.buffer c.written
      c.saves.outcome
  its_saves =
      subst (λ (q : State). Saves n d (words_of domains) (words_of tables) (words_of c.first.held.agenda) q c.buffer c.written c.saves.outcome)
      first_state (c.saves.saves.whole first_whole)

  its_enough : 512 * blocks_for (length (handed_content n d (words_of domains) (words_of tables) (words_of c.first.held.agenda) first.ran.state))
      ≤ length c.buffer
  its_enough =
      subst
      (λ (q : State). 512 * blocks_for (length (handed_content n d (words_of domains) (words_of tables) (words_of c.first.held.agenda) q)) ≤ length c.buffer)
      first_state c.enough

  its_loads : Loads (take (512 * c.saves.outcome.blocks) c.written) (words_of c.domains₀) (words_of c.domains') (words_of c.tables₀)
      (words_of c.tables') (words_of c.agenda₀) (words_of c.loaded.agenda) c.loads.outcome
  its_loads =
      let l = c.loads.loads.whole lent_whole in
      let a : words_of c.domains' ≡ l.left_domains = ap words_of l.said_domains ∙ words_again l.left_domains in
      let b : words_of c.tables' ≡ l.left_tables = ap words_of l.said_tables ∙ words_again l.left_tables in
      let e : words_of c.loaded.agenda ≡ l.left_agenda = ap words_of l.said_agenda ∙ words_again l.left_agenda in
      subst
      (λ (k : ℕ). Loads (take (512 * k) c.written) (words_of c.domains₀) (words_of c.domains') (words_of c.tables₀) (words_of c.tables') (words_of c.agenda₀) (words_of c.loaded.agenda) c.loads.outcome)
      c.saves.its_blocks (rw (a, b, e) l.loads)

  module _ {h : ℕ} {z : Stopped} (second : Went c.n' c.loaded h z c.second) where
    pub ways_of : TwoWays n d (words_of domains) (words_of tables)
    ways_of = record {
      whole = whole.ran;
      whole_agenda = words_of c.whole.held.agenda;
      first = first.ran;
      first_agenda = words_of c.first.held.agenda;
      saved = c.saves.outcome;
      buffer = c.buffer;
      written = c.written;
      saves = its_saves;
      enough = its_enough;
      loaded = c.loads.outcome;
      domains₀ = words_of c.domains₀;
      domains' = words_of c.domains';
      tables₀ = words_of c.tables₀;
      tables' = words_of c.tables';
      agenda₀ = words_of c.agenda₀;
      agenda' = words_of c.loaded.agenda;
      loads = its_loads;
      domain_words = words_length c.domains₀ ∙ rw c.domain_bytes (omega arith);
      table_words = words_length c.tables₀ ∙ rw c.table_bytes (omega arith);
      agenda_words = words_length c.agenda₀ ∙ rw c.agenda_bytes (sym (words_length c.first.held.agenda));
      second = second.ran;
      second_agenda = words_of c.second.held.agenda;
    }

    pub ends_so : SameEnd ways_of → EndsAsUncut c
    unfolding ways_of
    ends_so e = record {
      saved = c.saves.its_refusal ∙ e.saved;
      loaded = c.loads.its_refusal ∙ e.loaded;
      held =
          let agenda : c.second.held.agenda ≡ c.whole.held.agenda = second.said ∙ ap bytes_of e.agenda_left ∙ sym whole.said in
          let steps : c.second.held.steps ≡ c.whole.held.steps = second.out.its_steps ∙ e.steps ∙ sym whole.out.its_steps in
          let checks : c.second.held.checks ≡ c.whole.held.checks = second.out.its_checks ∙ e.checks ∙ sym whole.out.its_checks in
          let count : c.second.held.subproblems ≡ c.whole.held.subproblems =
          second.out.its_subproblems ∙ e.subproblems ∙ sym whole.out.its_subproblems in
          (λ i. record { agenda = agenda i; steps = steps i; checks = checks i; subproblems = count i });
      verdict = second.out.its_verdict ∙ ap number_of e.verdict ∙ sym whole.out.its_verdict;
      refusal = second.out.its_refusal ∙ e.refusal ∙ sym whole.out.its_refusal;
      taken = ap₂ ◌+◌ first.out.its_taken second.out.its_taken ∙ e.taken ∙ sym whole.out.its_taken;
    }

-- A call at equal numbers.
runs_moved : {n n' d d' : ℕ} (domains tables : List ℕ) {before after a b : List ℕ} {s q : State} {r : Ran} → n ≡ n' → d ≡ d' → a ≡ b → s ≡ q
    → Runs n d domains tables before after a s r → Runs n' d' domains tables before after b q r
runs_moved {n} {n'} {d} {d'} domains tables {before} {after} {a} {b} {s} {q} {r} e f g h x =
    subst (λ (i : ℕ). Runs i d' domains tables before after b q r) e
    (subst (λ (i : ℕ). Runs n i domains tables before after b q r) f
    (subst (λ (l : List ℕ). Runs n d domains tables before after l q r) g (subst (λ (i : State). Runs n d domains tables before after a i r) h x)))

chooses_moved : {n n' d d' : ℕ} (domains tables : List ℕ) {before after : List ℕ} (limit : ℕ) {s q : State} {r : Ran} → n ≡ n' → d ≡ d' → s ≡ q
    → Chooses n d domains tables before after limit s r → Chooses n' d' domains tables before after limit q r
chooses_moved {n} {n'} {d} {d'} domains tables {before} {after} limit {s} {q} {r} e f h x =
    subst (λ (i : ℕ). Chooses i d' domains tables before after limit q r) e
    (subst (λ (i : ℕ). Chooses n i domains tables before after limit q r) f
    (subst (λ (i : State). Chooses n d domains tables before after limit i r) h x))

pub cut_run_so : CutRun
unfolding list_of first_of stopped_of ways_of
cut_run_so n d domains tables requests more s typed c some_IsFirst some-whole =
    let p = passes_so n d domains tables s (by_requests requests) c.first typed c.first_part some_IsFirst in
    let q = passes_so n d domains tables s (by_requests (requests ++ more)) c.whole typed c.uncut some-whole in
    let split : words_of (requests ++ more) ≡ words_of requests ++ words_of more = words_append requests more p.list in
    let wr = requests_whole n d domains tables requests s p.first in
    let sum : length (words_of (requests ++ more)) ≡ length (words_of requests) + length (words_of more) = ap length split ∙ length-append (words_of requests) (words_of more) in
    let wm : WholeRequests n (length (words_of more)) = rest_whole n (length (words_of requests)) (length (words_of more)) wr
    (subst (WholeRequests n) sum (requests_whole n d domains tables (requests ++ more) s q.first)) in
    let k : ℕ = c.first.taken * (n + 3) in
    let left : Whole (drop (2 * k) (requests ++ more)) = rw (length-drop (2 * k) (requests ++ more)) (omega (arith, q.list)) in
    let second = went c.n' c.d' c.domains' c.tables' c.loaded (by_requests (drop (2 * k) (requests ++ more))) c.second
    (loaded_whole c p.whole q.goes p.goes) left c.goes_on in
    let on : Runs c.loads.outcome.n c.loads.outcome.d (words_of c.domains') (words_of c.tables') (words_of c.loaded.agenda)
    (words_of c.second.held.agenda) (drop (p.goes.ran.taken * (n + 3)) (words_of requests ++ words_of more)) c.loads.outcome.state second.ran =
    runs_moved (words_of c.domains') (words_of c.tables') c.loads.its_n c.loads.its_d (words_past k (requests ++ more) ∙ ap₂ (λ (j : ℕ) (l : List ℕ). drop (j * (n + 3)) l) p.goes.out.its_taken split)
    (loaded_state c p.whole q.goes p.goes) second.ends in
    ends_so c p.whole q.goes p.goes second
    (cut_any n d (words_of domains) (words_of tables) (words_of s.agenda) (state_in s) (words_of requests) (words_of more) p.handed wr wm (record {
      ways = ways_of c p.whole q.goes p.goes second;
      uncut = subst (λ (l : List ℕ). Runs n d (words_of domains) (words_of tables) (words_of s.agenda) (words_of c.whole.held.agenda) l (state_in s) q.goes.ran)
          split q.goes.ends;
      to_the_cut = p.goes.ends;
      goes_on = on;
    }))

pub cut_chooser_so : CutChooser
unfolding list_of first_of stopped_of ways_of
cut_chooser_so n d domains tables m k s typed c some none =
    let p = passes_so n d domains tables s (by_chooser m) c.first typed c.first_part some in
    let whole = went n d domains tables s (by_chooser (m + k)) c.whole p.whole p.list c.uncut in
    let second = went c.n' c.d' c.domains' c.tables' c.loaded (by_chooser k) c.second
    (loaded_whole c p.whole whole p.goes) p.list c.goes_on in
    ends_so c p.whole whole p.goes second
    (cut_choose_any n d (words_of domains) (words_of tables) (words_of s.agenda) (state_in s) m k p.handed (record {
      ways = ways_of c p.whole whole p.goes second;
      uncut = whole.ends;
      to_the_cut = p.goes.ends;
      goes_on = chooses_moved (words_of c.domains') (words_of c.tables') k c.loads.its_n c.loads.its_d (loaded_state c p.whole whole p.goes) second.ends;
    }) (λ e. sym p.goes.out.its_refusal ∙ none e))
