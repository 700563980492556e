-- The text for any file has at most 512 bytes.
-- Assumes nothing.
use native.Mathlib.Omega.{arith}
use native.Mathlib.Decide.{ℕ_discrete}
use mathlib.Core.Path.{◌≡◌, ap}
use mathlib.Core.Logic.{inl, inr}
use mathlib.Core.Bool.{Bool, true, false, cond}
use mathlib.Core.List.{List, [], ◌∷◌, ◌++◌}
use Prim.Native.Nat.{ℕ, ◌≤◌}
use lib.ListN.{length}
use lib.Dec.{eqb}
use Rattle.problem.specs.Masks.{lowest}
use Rattle.splits.specs.Subproblems.{domain}
use Rattle.splits.specs.declared.subproblem.Subproblem.{Subproblem}
use Rattle.search.specs.Agenda.{stack_of}
use Rattle.searches.specs.Verdicts.{ascii, number_of, verdict_of}
use Rattle.files.specs.Reading.{said_n, refusal_of_words}
use Rattle.blocks.specs.Tests.Whole.{refusal_of_file}
use Rattle.blocks.specs.Reading.{Bytes}
use Rattle.blocks.proofs.Whole.{file_either, refusal_14, refusal_not_14}
use Rattle.files.proofs.Accepted.{words_accept, words_either, refusal_15, refusal_not_15}
use Rattle.answer.specs.Text.{verdict_line, counts_line, plan_of, plan_lines, refused_line}
use Rattle.answer.specs.Calls.{answer}
use Rattle.answer.specs.Promises.{Calls}
use Rattle.answer.proofs.Short.{both_short, verdict_short, counts_short, refused_short, plan_room, lowest_small}
use Rattle.answer.proofs.Answering.{chosen_counts, chosen_refusal}
use Rattle.answer.proofs.Saying.{says_14, says_15, load_takes, calls_of, lends, of_refusal, of_lines}

refused_14_short : length (ascii "refused 14\n") ≤ 512
unfolding ascii
refused_14_short = omega arith

refused_15_short : length (ascii "refused 15\n") ≤ 512
unfolding ascii
refused_15_short = omega arith

-- The lines of a plan.
lines_short : (n : ℕ) (S : List Subproblem) → n ≤ 32 → length (plan_lines n S) ≤ 400
unfolding plan_lines
lines_short n [] few = omega arith
lines_short n (P ∷ S) few = by (eqb (number_of (verdict_of n (P ∷ S))) 2)
  where
    by : (b : Bool) → length (cond b (plan_of n (λ i. lowest (domain P i))) []) ≤ 400
    by true = plan_room (λ i. lowest (domain P i)) n (λ i. lowest_small (domain P i)) few
    by false = omega arith

-- A file that load takes.
module _ (file : List ℕ) (bytes : Bytes file) (whole : refusal_of_file file ≡ 0) (words : refusal_of_words file ≡ 0) where
  c : Calls file
  c = calls_of file

  accepted : c.loaded.refusal ≡ 0
  unfolding c
  accepted = load_takes file ((refusal_not_14 file).0 whole) ((refusal_not_15 file).0 words)

  -- The first two lines.
  abbrev two : List ℕ
  two = verdict_line c.ran.verdict ++ counts_line c.ran.state.counts.steps.0 c.ran.state.counts.checks.0

  counts : length two ≤ 66
  counts =
      let small = chosen_counts file c.domains c.domains' c.tables c.tables' c.agenda c.agenda' c.loaded c.after c.ran
      bytes (lends file c)
      c.loads accepted c.chooses in
      both_short (verdict_line c.ran.verdict) (counts_line c.ran.state.counts.steps.0 c.ran.state.counts.checks.0) 11 55
      (verdict_short c.ran.verdict) (counts_short c.ran.state.counts.steps.0 c.ran.state.counts.checks.0 small.0 small.1)

  taken_short : length (answer file) ≤ 512
  taken_short = elim (ℕ_discrete c.ran.refusal 0) [
    | yes e ↦
        let is = ap length (of_lines file bytes c accepted e) in
        let top = stack_of (said_n file) c.after c.ran.state.subproblems in
        let short = both_short two (plan_lines (said_n file) top) 66 400 counts (lines_short (said_n file) top (words_accept file words).variables) in
        omega (arith, is, short)
    | no h ↦
        let is = ap length (of_refusal file bytes c accepted h) in
        let small = chosen_refusal file c.domains c.domains' c.tables c.tables' c.agenda c.agenda' c.loaded c.after c.ran
        bytes (lends file c)
        c.loads accepted c.chooses in
        let short = both_short two (refused_line c.ran.refusal) 66 29 counts (refused_short c.ran.refusal small) in
        omega (arith, is, short)
  ]

-- Any file.
pub at_most_512 : (file : List ℕ) → Bytes file → length (answer file) ≤ 512
at_most_512 file bytes = elim (file_either file) [
  | inr e ↦ rw (says_14 file ((refusal_14 file).0 e)) refused_14_short
  | inl e ↦ elim (words_either file) [
    | inr k ↦ rw (says_15 file ((refusal_not_14 file).0 e) ((refusal_15 file).0 k)) refused_15_short
    | inl k ↦ taken_short file bytes e k
  ]
]
