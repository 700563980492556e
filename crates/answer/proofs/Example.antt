-- Document 01's printed example, computed.
-- Assumes nothing.
use native.Mathlib.Omega.{arith}
use mathlib.Core.Path.{◌≡◌, refl, sym, ap, ◌∙◌}
use mathlib.Core.List.{List}
use Prim.Native.Nat.{ℕ, suc, ◌<◌}
use borrow.Author.Tests.{eq-eqb}
use lib.Count.{ones, ones_in, count_trailing_zeros}
use Rattle.problem.specs.Masks.{bit, minus, smallest_of, smaller_half_of}
use Rattle.problem.specs.Problem.{table_of, problem_of}
use Rattle.problem.specs.Lists.{total, some, every, below, keep, changed}
use Rattle.splits.specs.Subproblems.{empty, all_instantiated}
use Rattle.splits.specs.Splits.{instantiate, without, cut_beside, forbids, instantiated_other, forbidden, precluded, disjunct, forward_checking, idc, named, pieces, filled}
use Rattle.splits.specs.Checks.{looked_at, others, tried, values_in, checks}
use Rattle.splits.specs.Tests.Refusals.{refused_7, refused_8, refused_9, bad, some_bad, all_same, refused_10, refusal_of}
use Rattle.search.specs.Agenda.{holding}
use Rattle.search.specs.Slots.{slots, Search}
use Rattle.search.specs.Tests.FirstChecks.{whole_slots, refusal_of_lengths}
use Rattle.searches.specs.Verdicts.{ascii, word_of, verdict_of, finished}
use Rattle.searches.specs.Steps.{checks_of_top, step}
use Rattle.searches.specs.Tests.Refusal.{refusal_of_top, refusal_of_request}
use Rattle.searches.specs.Machines.{split_top}
use Rattle.searches.specs.Chooser.{fewest_of, chosen_of, chosen, choose_from, choose}
use Rattle.search.specs.Calls.{opening, begun}
use Rattle.search.proofs.Promises.{open_leaves}
use Rattle.blocks.specs.Lists.{each}
use Rattle.files.specs.Reading.{said_n, said_d, said_allowed, table_words}
use Rattle.files.specs.Calls.{load_refusal}
use Rattle.files.specs.Promises.{Says}
use Rattle.files.proofs.Back.{written_blocks}
use Rattle.files.proofs.Promises.{load_after_save}
use Rattle.answer.specs.Text.{decimal_of, decimal, verdict_line, counts_line, plan_line, plan_lines, whole_text, text_of}
use Rattle.answer.specs.Calls.{refusal_of_load, loaded_problem, ran_of, answer}
use Rattle.answer.specs.Promises.{printed_domains, printed_tables, Printed}

-- The search that opening begins.
abbrev fresh : Search
fresh = begun 2 printed_domains

-- What the chooser makes of it, of any limit that is enough, and its text.
run_text : (more : ℕ)
    → text_of 2 (choose (problem_of 2 2 printed_domains printed_tables) (slots 512) (suc (suc (suc more))) fresh) ≡ ascii "solved\nsteps 2 checks 3\n0 0\n1 1\n"
unfolding text_of whole_text verdict_line counts_line plan_lines plan_line decimal decimal_of ascii word_of verdict_of finished choose_from chosen chosen_of fewest_of opening holding
    refusal_of_request refusal_of_top refusal_of refused_7 refused_8 refused_9 refused_10 bad some_bad all_same step checks_of_top split_top pieces filled named keep below
    forward_checking idc instantiate without cut_beside forbids instantiated_other forbidden precluded disjunct changed empty some every all_instantiated
    smallest_of smaller_half_of minus bit ones ones_in count_trailing_zeros checks looked_at others tried values_in total table_of each
run_text more = refl

-- A file that says it.
module _ (file : List ℕ) (x : Search) (says : Says file 2 2 printed_domains (table_of 2 2 printed_tables) x) (is-fresh : x ≡ fresh) where
  -- What two different variables allow in it.
  said : (i j a : ℕ) → i < 2 → j < 2 → (i ≡ j → ⊥) → a < 2 → said_allowed file i j a ≡ table_of 2 2 printed_tables i j a
  said = says.its_allowed

  tables_are : table_words 2 2 (said_allowed file) ≡ printed_tables
  unfolding table_words each below table_of
  tables_are =
      rw (
        said 0 1 0 (omega arith) (omega arith) (λ e. omega (arith, e)) (omega arith),
        said 0 1 1 (omega arith) (omega arith) (λ e. omega (arith, e)) (omega arith),
        said 1 0 0 (omega arith) (omega arith) (λ e. omega (arith, e)) (omega arith),
        said 1 0 1 (omega arith) (omega arith) (λ e. omega (arith, e)) (omega arith),
      ) refl

  none : refusal_of_load file ≡ 0
  unfolding refusal_of_load load_refusal refusal_of_lengths whole_slots opening holding some
  none = rw (says.whole, says.accepted, says.its_n, says.its_d, says.its_subproblems, is-fresh) refl

  runs : ran_of file ≡ choose (problem_of 2 2 printed_domains printed_tables) (slots 512) 1000000 fresh
  unfolding ran_of
  runs =
      ap (choose (loaded_problem file) (slots 512) 1000000) (says.its_search ∙ is-fresh)
      ∙ ap (λ p. choose p (slots 512) 1000000 fresh)
      (ap (λ l. problem_of (said_n file) (said_d file) l (table_words (said_n file) (said_d file) (said_allowed file))) says.its_domains
      ∙ ap (λ n. problem_of n (said_d file) printed_domains (table_words n (said_d file) (said_allowed file))) says.its_n
      ∙ ap (λ d. problem_of 2 d printed_domains (table_words 2 d (said_allowed file))) says.its_d ∙ ap (problem_of 2 2 printed_domains) tables_are)

  pub printed_text : answer file ≡ ascii "solved\nsteps 2 checks 3\n0 0\n1 1\n"
  unfolding answer
  printed_text =
      rw (eq-eqb (refusal_of_load file) 0 none) (ap (λ n. text_of n (ran_of file)) says.its_n ∙ ap (text_of 2) runs ∙ run_text 999997)

pub printed : Printed
printed before after buffer file r saved opens accepted saves none =
    let l = open_leaves 2 2 printed_domains printed_tables before after r opens accepted in
    let blocks = written_blocks 2 2 printed_domains printed_tables after r.state buffer file saved saves (sym saves.refusal ∙ none) in
    let says = load_after_save 2 2 printed_domains printed_tables after r.state l.handed.words l.handed.passes in
    rw blocks (printed_text _ _ says l.search)
