-- What the calls on bytes return and leave: what was turned into words, and what was not.
-- Assumes nothing.
use mathlib.Core.Path.{◌≡◌, refl, sym, ap, subst, ◌∙◌}
use mathlib.Core.Bool.{Bool, true, false, not, cond}
use mathlib.Core.List.{List, [], ◌∷◌}
use Prim.Native.Nat.{ℕ, ◌+◌, ◌*◌, ◌%◌, ◌≤◌, ◌<◌}
use native.Mathlib.Omega.{arith}
use native.Mathlib.Nat.{mul-mod_left}
use native.Mathlib.Decide.{ℕ_discrete}
use lib.ListN.{length, get_or}
use lib.Dec.{eqb}
use borrow.Author.Tests.{not-true, eq-eqb, ne_eqb, le-leb}
use Rattle.problem.specs.Lists.{some}
use Rattle.problem.proofs.Tests.{true_false}
use Rattle.search.specs.Tests.FirstChecks.{refusal_of_requests, open_refusal, run_refusal}
use Rattle.search.specs.Agenda.{holding}
use Rattle.search.specs.Slots.{Stopped}
use Rattle.search.specs.Calls.{opening, Opens, Ends}
use Rattle.search.specs.declared.state.State.{State}
use Rattle.search.specs.Outcomes.{Opened}
use Rattle.search.specs.Outcomes.{Ran}
use Rattle.files.specs.Reading.{said_n, said_d, said_subproblems}
use Rattle.files.specs.Calls.{save_refusal, Saves, load_refusal, Loads}
use Rattle.files.specs.Outcomes.{Saved}
use Rattle.files.specs.Outcomes.{Loaded}
use Rattle.search.proofs.first_checks.Deserved.{requests_true}
use Rattle.files.proofs.LoadOutcomes.{not_given, load_passed}
use Rattle.word_bytes.specs.Bytes.{Whole, words_of}
use Rattle.console.specs.Calls.{unwhole, unwhole_file, WholeProblem, unopened, OpensWords, OpensBytes, refused, RunsWords, RunsBytes, ChoosesWords, ChoosesBytes, unsaved, SavesBytes, unloaded, LoadsWords, LoadsBytes}
use Rattle.console.specs.Loops.Rooms.{whole_list}
use Rattle.console.specs.Loops.Parts.{Narrow, NarrowLoaded}
use Rattle.word_bytes.proofs.Words.{words_length, bytes_again}
use Rattle.console.proofs.numbers.Unfit.{Unfit, unwhole_not, unwhole_file_not, open_above, search_above, run_above, run_cut, save_above, load_above, load_no_words}

-- ---- opening

opening_few : (n : ℕ) (domains : List ℕ) → length (opening n domains) ≤ 1
unfolding opening
opening_few n domains = go (some n (λ i. eqb (get_or domains i 0) 0))
  where
    go : (b : Bool) → length (cond b [] (holding n domains 0 ∷ [])) ≤ 1
    go true = omega arith
    go false = omega arith

open_few : (n d : ℕ) (domains tables before left : List ℕ) (r : Opened) → Opens n d domains tables before left r → r.state.subproblems < 4294967296
open_few n d domains tables before left r h = go (eqb (open_refusal n d domains tables before) 0) h.subproblems
  where
    go : (b : Bool) → r.state.subproblems ≡ cond b (length (opening n domains)) 0 → r.state.subproblems < 4294967296
    go true e = omega (arith, opening_few n domains)
    go false e = omega arith

-- Whole words of bytes, if they are, are more than the rules allow, or none.
abbrev pub UnfitIfWhole : List ℕ → List ℕ → List ℕ → Type 0
UnfitIfWhole domains tables agenda =
    WholeProblem domains tables agenda → Unfit (length (words_of domains)) (length (words_of tables)) (length (words_of agenda))

module _ {n d : ℕ} {domains tables agenda : List ℕ} where
  pub opens_turned : {after : List ℕ} {r : Opened} → WholeProblem domains tables agenda → OpensWords n d domains tables agenda after r
      → OpensBytes n d domains tables agenda after r × (r.state.subproblems < 4294967296)
  opens_turned {after} {r} w h = (
    record { whole = λ _. h; odd = λ f. absurd (f w) },
    open_few n d (words_of domains) (words_of tables) (words_of agenda) h.left r h.opens,
  )

  pub opens_refused : {r : Opened} → UnfitIfWhole domains tables agenda → ((i : ℕ) → get_or agenda i 0 < 256) → r ≡ unopened n d
      → OpensBytes n d domains tables agenda agenda r × (r.state.subproblems < 4294967296)
  opens_refused unfit small e =
      subst (λ (x : Opened). OpensBytes n d domains tables agenda agenda x × (x.state.subproblems < 4294967296)) (sym e) (
        record {
          whole = λ w.
              let first : open_refusal n d (words_of domains) (words_of tables) (words_of agenda) ≡ unwhole n d =
              open_above n d (words_of domains) (words_of tables) (words_of agenda) (unfit w) in
              let some-refusal : open_refusal n d (words_of domains) (words_of tables) (words_of agenda) ≡ 0 → ⊥ = λ z. unwhole_not n d (sym first ∙ z) in
              record {
                left = words_of agenda;
                opens = record {
                  refusal = sym first;
                  steps = refl;
                  checks = refl;
                  subproblems = not_given _ _ _ _ some-refusal refl;
                  agenda = not_given _ _ _ _ some-refusal refl;
                };
                said = sym (bytes_again agenda w.of_agenda small);
              };
          odd = λ f. (refl, refl);
        },
        omega arith,
      )

-- ---- a run and the chooser

refused_ends : (first n d : ℕ) (agenda : List ℕ) (s : State) (x : Stopped) → first ≡ unwhole n d → Ends first n agenda agenda s x (refused n d s)
refused_ends first n d agenda s x e =
    let not_none : first ≡ 0 → ⊥ = λ z. unwhole_not n d (sym e ∙ z) in
    record {
      verdict = not_given first _ _ _ not_none refl;
      refusal = not_given first _ _ _ not_none (sym e);
      taken = not_given first _ _ _ not_none refl;
      steps = not_given first _ _ _ not_none refl;
      checks = not_given first _ _ _ not_none refl;
      subproblems = not_given first _ _ _ not_none refl;
      agenda = not_given first _ _ _ not_none refl;
    }

refused_narrow : (n d : ℕ) (s : State) → s.subproblems < 4294967296 → Narrow (refused n d s)
refused_narrow n d s h = record { taken = omega arith; subproblems = h }

-- Bytes that are whole words and not whole requests are words that are not.
cut_three : (n : ℕ) (requests : List ℕ) (b : Bool) → b ≡ whole_list n (length requests) → b ≡ false → Whole requests → n ≤ 32
    → refusal_of_requests n (length (words_of requests)) ≡ 3
unfolding refusal_of_requests whole_list
cut_three n requests b is y even few = go (eqb (length (words_of requests) % (n + 3)) 0) refl
  where
    go : (t : Bool) → eqb (length (words_of requests) % (n + 3)) 0 ≡ t → ◌≡◌ {A = ℕ} (cond t 0 3) 3
    go false e = refl
    go true e =
        let (k, words) = requests_true n (length (words_of requests)) e in
        let bytes : length requests ≡ k * (2 * (n + 3)) = omega (arith, words_length requests, words, even) in
        let none : length requests % (2 * (n + 3)) ≡ 0 = ap (λ (m : ℕ). m % (2 * (n + 3))) bytes ∙ mul-mod_left k (2 * (n + 3)) in
        let all : whole_list n (length requests) ≡ true = rw (le-leb n 32 few, eq-eqb (length requests % (2 * (n + 3))) 0 none) refl in
        absurd (true_false (sym all ∙ sym is ∙ y))

module _ {n d : ℕ} {domains tables agenda : List ℕ} {s : State} where
  module _ {requests : List ℕ} where
    pub runs_turned : {after : List ℕ} {r : Ran} → WholeProblem domains tables agenda → Whole requests
        → RunsWords n d domains tables agenda after requests s r → RunsBytes n d domains tables agenda after requests s r
    runs_turned w even h = record { whole = λ _ _. h; odd = λ f. absurd (f w even) }

    module _ {r : Ran} (few : s.subproblems < 4294967296) (small : (i : ℕ) → get_or agenda i 0 < 256) (e : r ≡ refused n d s) where
      refused_run : (WholeProblem domains tables agenda → Whole requests
          → run_refusal n d (words_of domains) (words_of tables) (words_of agenda) (words_of requests) s.counts.steps.0 s.counts.checks.0 s.subproblems ≡ unwhole n d)
          → RunsBytes n d domains tables agenda agenda requests s r × Narrow r
      refused_run first =
          subst (λ (x : Ran). RunsBytes n d domains tables agenda agenda requests s x × Narrow x) (sym e) (
            record {
              whole = λ w q. record {
                left = words_of agenda;
                runs = refused_ends _ n d (words_of agenda) s _ (first w q);
                said = sym (bytes_again agenda w.of_agenda small);
              };
              odd = λ f. (refl, refl);
            },
            refused_narrow n d s few,
          )

      pub runs_long : UnfitIfWhole domains tables agenda → RunsBytes n d domains tables agenda agenda requests s r × Narrow r
      runs_long unfit =
          refused_run (λ w q. run_above n d (words_of domains) (words_of tables) (words_of agenda) (words_of requests) s.counts.steps.0 s.counts.checks.0 s.subproblems
          (unfit w))

      pub runs_cut : (t : Bool) → t ≡ whole_list n (length requests) → not t ≡ true → RunsBytes n d domains tables agenda agenda requests s r × Narrow r
      runs_cut t is-t z =
          refused_run (λ w q. run_cut n d (words_of domains) (words_of tables) (words_of agenda) (words_of requests) s.counts.steps.0 s.counts.checks.0 s.subproblems
          (cut_three n requests t is-t (not-true t z) q))

  module _ {limit : ℕ} where
    pub chooses_turned : {after : List ℕ} {r : Ran} → WholeProblem domains tables agenda → ChoosesWords n d domains tables agenda after limit s r
        → ChoosesBytes n d domains tables agenda after limit s r
    chooses_turned w h = record { whole = λ _. h; odd = λ f. absurd (f w) }

    pub chooses_long : {r : Ran} → s.subproblems < 4294967296 → ((i : ℕ) → get_or agenda i 0 < 256) → r ≡ refused n d s
        → UnfitIfWhole domains tables agenda → ChoosesBytes n d domains tables agenda agenda limit s r × Narrow r
    chooses_long few small e unfit =
        subst (λ (x : Ran). ChoosesBytes n d domains tables agenda agenda limit s x × Narrow x) (sym e) (
          record {
            whole = λ w. record {
              left = words_of agenda;
              chooses = refused_ends _ n d (words_of agenda) s _
                  (search_above n d (words_of domains) (words_of tables) (words_of agenda) s.counts.steps.0 s.counts.checks.0 s.subproblems
                  (unfit w));
              said = sym (bytes_again agenda w.of_agenda small);
            };
            odd = λ f. (refl, refl);
          },
          refused_narrow n d s few,
        )

  -- ---- save

  pub saves_turned : {before after : List ℕ} {r : Saved} → WholeProblem domains tables agenda
      → Saves n d (words_of domains) (words_of tables) (words_of agenda) s before after r × (r.blocks < 4294967296)
      → SavesBytes n d domains tables agenda s before after r × (r.blocks < 4294967296)
  saves_turned w h = (record { whole = λ _. h.0; odd = λ f. absurd (f w) }, h.1)

  pub saves_refused : {before : List ℕ} {r : Saved} → UnfitIfWhole domains tables agenda → r ≡ unsaved n d
      → SavesBytes n d domains tables agenda s before before r × (r.blocks < 4294967296)
  saves_refused {before} unfit e =
      subst (λ (x : Saved). SavesBytes n d domains tables agenda s before before x × (x.blocks < 4294967296)) (sym e) (
        record {
          whole = λ w.
              let first : save_refusal n d (words_of domains) (words_of tables) (words_of agenda) s before ≡ unwhole n d =
              save_above n d (words_of domains) (words_of tables) (words_of agenda) s before (unfit w) in
              let not_none : save_refusal n d (words_of domains) (words_of tables) (words_of agenda) s before ≡ 0 → ⊥ = λ z. unwhole_not n d
              (sym first ∙ z) in
              record { refusal = sym first; blocks = not_given _ _ _ _ not_none refl; file = not_given _ _ _ _ not_none refl };
          odd = λ f. (refl, refl);
        },
        omega arith,
      )

-- ---- load

unloaded_narrow : (file : List ℕ) → NarrowLoaded (unloaded file)
unloaded_narrow file = record { its_n = omega arith; its_d = omega arith; subproblems = omega arith }

load_few : (file domains left tables left' agenda left'' : List ℕ) (r : Loaded) → Loads file domains left tables left' agenda left'' r → NarrowLoaded r
load_few file domains left tables left' agenda left'' r h =
    let first : ℕ = load_refusal file (length domains) (length tables) (length agenda) in
    elim (ℕ_discrete first 0) [
      | yes e ↦
          let fitted = load_passed file (length domains) (length tables) (length agenda) _ _ _ refl refl refl e in
          let its_n : r.n ≡ said_n file = rw e at h.its_n in
          let its_d : r.d ≡ said_d file = rw e at h.its_d in
          let count : r.state.subproblems ≡ said_subproblems file = rw e at h.subproblems in
          record {
            its_n = omega (arith, fitted.numbers.variables);
            its_d = omega (arith, fitted.numbers.values);
            subproblems = omega (arith, fitted.few);
          }
      | no f ↦
          let its_n : r.n ≡ 0 = rw (ne_eqb first 0 f) at h.its_n in
          let its_d : r.d ≡ 0 = rw (ne_eqb first 0 f) at h.its_d in
          let count : r.state.subproblems ≡ 0 = rw (ne_eqb first 0 f) at h.subproblems in
          record { its_n = omega arith; its_d = omega arith; subproblems = omega arith }
    ]

-- Load into no words at all.
pub none_loaded : (file left left' left'' : List ℕ) (r : Loaded) → Loads file [] left [] left' [] left'' r → r ≡ unloaded file
none_loaded file left left' left'' r h =
    let first : load_refusal file 0 0 0 ≡ unwhole_file file = load_no_words file in
    let test : eqb (load_refusal file 0 0 0) 0 ≡ false = ne_eqb _ 0 (λ z. unwhole_file_not file (sym first ∙ z)) in
    let refusal : r.refusal ≡ unwhole_file file = h.refusal ∙ first in
    let its_n : r.n ≡ 0 = rw test at h.its_n in
    let its_d : r.d ≡ 0 = rw test at h.its_d in
    let steps : r.state.counts.steps.0 ≡ 0 = rw test at h.steps in
    let checks : r.state.counts.checks.0 ≡ 0 = rw test at h.checks in
    let count : r.state.subproblems ≡ 0 = rw test at h.subproblems in
    λ i. record {
      refusal = refusal i;
      n = its_n i;
      d = its_d i;
      state = record { counts = record { steps = record { 0 = steps i }; checks = record { 0 = checks i } }; subproblems = count i };
    }

module _ {file domains tables agenda : List ℕ} where
  pub loads_turned : {domains' tables' agenda' : List ℕ} {r : Loaded} → WholeProblem domains tables agenda → LoadsWords file domains domains' tables tables' agenda agenda' r
      → LoadsBytes file domains domains' tables tables' agenda agenda' r × NarrowLoaded r
  loads_turned {r = r} w h = (
    record { whole = λ _. h; odd = λ f. absurd (f w) },
    load_few file (words_of domains) h.left_domains (words_of tables) h.left_tables (words_of agenda) h.left_agenda r h.loads,
  )

  pub loads_refused : {r : Loaded} → UnfitIfWhole domains tables agenda → ((i : ℕ) → get_or domains i 0 < 256) → ((i : ℕ) → get_or tables i 0 < 256)
      → ((i : ℕ) → get_or agenda i 0 < 256)
      → r ≡ unloaded file → LoadsBytes file domains domains tables tables agenda agenda r × NarrowLoaded r
  loads_refused unfit small small' small'' e =
      subst (λ (x : Loaded). LoadsBytes file domains domains tables tables agenda agenda x × NarrowLoaded x) (sym e) (
        record {
          whole = λ w.
              let first : load_refusal file (length (words_of domains)) (length (words_of tables)) (length (words_of agenda)) ≡ unwhole_file file =
              load_above file (length (words_of domains)) (length (words_of tables)) (length (words_of agenda))
              (unfit w) in
              let not_none : load_refusal file (length (words_of domains)) (length (words_of tables)) (length (words_of agenda)) ≡ 0 → ⊥ = λ z.
              unwhole_file_not file (sym first ∙ z) in
              record {
                left_domains = words_of domains;
                left_tables = words_of tables;
                left_agenda = words_of agenda;
                loads = record {
                  refusal = sym first;
                  its_n = not_given _ _ _ _ not_none refl;
                  its_d = not_given _ _ _ _ not_none refl;
                  steps = not_given _ _ _ _ not_none refl;
                  checks = not_given _ _ _ _ not_none refl;
                  subproblems = not_given _ _ _ _ not_none refl;
                  its_domains = not_given _ _ _ _ not_none refl;
                  its_tables = not_given _ _ _ _ not_none refl;
                  its_agenda = not_given _ _ _ _ not_none refl;
                };
                said_domains = sym (bytes_again domains w.of_domains small);
                said_tables = sym (bytes_again tables w.of_tables small');
                said_agenda = sym (bytes_again agenda w.of_agenda small'');
              };
          odd = λ f. (refl, refl, refl, refl);
        },
        unloaded_narrow file,
      )
