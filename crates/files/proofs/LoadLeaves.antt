-- What an accepted load leaves in lent memory, handed on.
-- Assumes nothing.
use native.Mathlib.Omega.{arith}
use mathlib.Core.Path.{◌≡◌, sym, ap, ◌∙◌}
use mathlib.Core.Bool.{true}
use mathlib.Core.List.{List}
use Prim.Native.Nat.{ℕ}
use lib.ListN.{length}
use lib.Dec.{eqb}
use borrow.Author.Tests.{eq-eqb}
use Rattle.search.specs.Agenda.{stack_of, agenda_of}
use Rattle.search.proofs.first_checks.FirstPassing.{search_is_passed}
use Rattle.search.proofs.HandedOn.{Shaped, agenda_small}
use Rattle.files.specs.Reading.{said_n, said_d, said_steps, said_checks, said_subproblems, said_domains, said_allowed, said_search, table_words}
use Rattle.files.specs.Calls.{load_refusal, Loads}
use Rattle.blocks.specs.Reading.{Bytes}
use Rattle.files.specs.Promises.{LeftByLoad}
use Rattle.files.specs.Outcomes.{Loaded}
use Rattle.files.proofs.Loading.{load_taken, memory_length, memory_read, said_passing}
use Rattle.blocks.proofs.Contents.{content_word_small}
use Rattle.files.proofs.RoundTrip.{said_shape}

pub load_leaves : (file domains domains' tables tables' agenda agenda' : List ℕ) (r : Loaded) → Bytes file
    → Loads file domains domains' tables tables' agenda agenda' r → r.refusal ≡ 0 → LeftByLoad file agenda domains' tables' agenda' r
load_leaves file domains domains' tables tables' agenda agenda' r bytes loads accepted =
    let none : load_refusal file (length domains) (length tables) (length agenda) ≡ 0 = sym loads.refusal ∙ accepted in
    let test : eqb (load_refusal file (length domains) (length tables) (length agenda)) 0 ≡ true = eq-eqb _ 0 none in
    let t = load_taken file (length domains) (length tables) (length agenda) none in
    let n-is : r.n ≡ said_n file = rw test at loads.its_n in
    let d-is : r.d ≡ said_d file = rw test at loads.its_d in
    let domains-are : domains' ≡ said_domains file = rw test at loads.its_domains in
    let tables_are : tables' ≡ table_words (said_n file) (said_d file) (said_allowed file) = rw test at loads.its_tables in
    let agenda-is : agenda' ≡ agenda_of (said_n file) (length agenda) (said_search file).memory = rw test at loads.its_agenda in
    let steps-are : r.state.counts.steps.0 ≡ said_steps file = rw test at loads.steps in
    let checks-are : r.state.counts.checks.0 ≡ said_checks file = rw test at loads.checks in
    let count_is : r.state.subproblems ≡ said_subproblems file = rw test at loads.subproblems in
    let shaped : Shaped (said_n file) 16 (said_search file).memory = said_shape file bytes t.accepts.variables in
    let passes = (search_is_passed _ _ _ _ _ _ _ _).1 (said_passing file t.accepts bytes (length agenda) t.lengths.slots t.room) in
    let high = content_word_small file bytes 2 in
    let low = content_word_small file bytes 3 in
    record {
      its_n = n-is;
      its_d = d-is;
      its_domains = domains-are;
      its_tables = tables_are;
      handed = record {
        words = rw agenda-is (agenda_small (said_n file) 16 (length agenda) (said_search file).memory (omega arith) shaped);
        stepped = rw steps-are (omega (arith, high, low));
        passes = rw (n-is, d-is, domains-are, tables_are, agenda-is, steps-are, checks-are, count_is) passes;
      };
      search = λ i. record {
        memory = (ap (λ k. stack_of k agenda' r.state.subproblems) n-is
            ∙ ap (λ l. stack_of (said_n file) l r.state.subproblems) agenda-is
            ∙ ap (stack_of (said_n file) (agenda_of (said_n file) (length agenda) (said_search file).memory)) count_is
            ∙ memory_read file t.accepts bytes (length agenda) t.lengths.slots t.room) i;
        steps = steps-are i;
        checks = checks-are i;
      };
      length_kept = ap length agenda-is ∙ memory_length file t.accepts bytes (length agenda) t.lengths.slots t.room;
    }
