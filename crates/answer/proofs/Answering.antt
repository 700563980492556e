-- The text of what load and the chooser give is the answer to the file.
-- Assumes nothing.
use native.Mathlib.Omega.{arith}
use native.Mathlib.Nat.{mul-div_cancel, mul-le-mul_right, div-mul-le_self, le_trans}
use native.Mathlib.Decide.{ℕ_discrete}
use mathlib.Core.Path.{◌≡◌, refl, sym, ap, ◌∙◌}
use mathlib.Core.Logic.{inl, inr}
use mathlib.Core.Bool.{true}
use mathlib.Core.List.{List, ◌++◌}
use Prim.Native.Nat.{ℕ, ◌+◌, ◌-◌, ◌*◌, ◌/◌, ◌^◌, ◌≤◌, ◌<◌}
use lib.ListN.{length, replicate, length-append}
use lib.Dec.{eqb}
use borrow.Author.Tests.{eq-eqb, ne_eqb}
use Rattle.problem.specs.Problem.{Problem, problem_of}
use Rattle.search.specs.Agenda.{stack_of, slots_in}
use Rattle.search.specs.Slots.{slots, Search, Stopped}
use Rattle.search.specs.Tests.FirstChecks.{search_refusal}
use Rattle.searches.specs.Runs.{run}
use Rattle.searches.specs.Verdicts.{number_of, verdict_of}
use Rattle.searches.specs.Chooser.{choose}
use Rattle.search.specs.Calls.{search_of, Chooses}
use Rattle.search.specs.Promises.{Leaves}
use Rattle.searches.specs.Promises.{picks}
use Rattle.search.specs.Outcomes.{Ran}
use Rattle.search.proofs.first_checks.FirstPassing.{search_is_passed}
use Rattle.searches.specs.declared.verdict.Verdict.TheVariants.{Solved}
use Rattle.search.proofs.Promises.{chooser_leaves, handed_passes}
use Rattle.search.proofs.Slots.{slots_lawful}
use Rattle.searches.proofs.Promises.{chooser_refusals, stops, picks as picks_run}
use Rattle.files.specs.Reading.{said_n, said_search, refusal_of_words}
use Rattle.blocks.specs.Tests.Whole.{refusal_of_file}
use Rattle.files.specs.Calls.{load_refusal, Loads}
use Rattle.blocks.specs.Reading.{Bytes}
use Rattle.files.specs.Promises.{LeftByLoad}
use Rattle.files.specs.Outcomes.{Loaded}
use Rattle.files.proofs.Accepted.{words_accept}
use Rattle.files.proofs.Promises.{load_leaves}
use Rattle.answer.specs.Text.{refused_line, text_of, text_from}
use Rattle.answer.specs.Calls.{refusal_of_load, loaded_problem, ran_of, answer, Answers}
use Rattle.answer.specs.Loops.Writing.{Holds, Shows}
use Rattle.answer.specs.Loops.Lending.{Lends}
use Rattle.answer.specs.declared.text.Text.{Text}

-- What load refuses is the same for the lengths that are lent and those that the file asks for.
pub same_refusal : (file : List ℕ) (domains tables agenda : ℕ) → Lends file domains tables agenda
    → load_refusal file domains tables agenda ≡ refusal_of_load file
unfolding load_refusal refusal_of_load
same_refusal file domains tables agenda lends = elim (ℕ_discrete (refusal_of_file file) 0) [
  | no h ↦ rw (ne_eqb (refusal_of_file file) 0 h) refl
  | yes h ↦ elim (ℕ_discrete (refusal_of_words file) 0) [
    | no k ↦ rw (eq-eqb (refusal_of_file file) 0 h, ne_eqb (refusal_of_words file) 0 k) refl
    | yes k ↦
        let a = words_accept file k in
        rw (lends.its_domains a.variables, lends.its_tables a.variables a.values, lends.its_agenda a.variables) refl
  ]
]

-- A buffer that holds the answer is an answer.
pub held_answers : (file : List ℕ) (r : Text) (text : List ℕ) → text ≡ answer file → Holds r text → Answers file r
held_answers file r text e holds =
    record {
      bytes = rw e at holds.bytes;
      its_length = rw e at holds.its_length;
    }

-- An answer lies within its buffer.
pub answer_within : (file : List ℕ) (r : Text) → Answers file r → r.length ≤ length r.bytes
answer_within file r h =
    let long = length-append (answer file) (replicate (512 - length (answer file)) 0) in
    let bytes : length r.bytes ≡ length (answer file ++ replicate (512 - length (answer file)) 0) = ap length h.bytes in
    let its_length = h.its_length in
    omega (arith, long, bytes, its_length)

-- A refused load.
pub answer_refused : (file : List ℕ) (k : ℕ) → k ≡ refusal_of_load file → (k ≡ 0 → ⊥) → refused_line k ≡ answer file
unfolding answer
answer_refused file k e h = rw (← e) (rw (ne_eqb k 0 h) refl)

-- The text of what a run returns and leaves is that of where it stopped.
from_stopped : (n : ℕ) (after : List ℕ) (ran : Ran) (x : Stopped) → ran.verdict ≡ verdict_of n x.search.memory
    → stack_of n after ran.state.subproblems ≡ x.search.memory → ran.state.counts.steps.0 ≡ x.search.steps
    → ran.state.counts.checks.0 ≡ x.search.checks → ran.refusal ≡ x.refusal → text_from n after ran ≡ text_of n x
unfolding text_from text_of
from_stopped n after ran x verdict stack steps checks refusal = rw (verdict, stack, steps, checks, refusal) refl

-- A chooser that stops solved was not refused.
chooser_solved : (p : Problem) (room limit : ℕ) (s : Search) → verdict_of p.n (choose p (slots room) limit s).search.memory ≡ Solved
    → (choose p (slots room) limit s).refusal ≡ 0
chooser_solved p room limit s e =
    let x : Stopped = run p (slots room) (picks p (slots room) limit s) s in
    let is : choose p (slots room) limit s ≡ x = picks_run p (slots room) limit s in
    ap (λ y. y.refusal) is ∙ elim (stops p (slots room) (picks p (slots room) limit s) s).1 [
      | inl finished ↦ finished.refusal
      | inr more ↦ elim more [
        | inl refused ↦
            absurd
            (let two = ap number_of (sym (ap (λ y. verdict_of p.n y.search.memory) is) ∙ e) in let one = refused.verdict in omega
            (arith, two, one))
        | inr ended ↦ ended.refusal
      ]
    ]

-- An accepted one: what the chooser then returns shows what it leaves, and its text is the answer.
module _ (file domains domains' tables tables' agenda agenda' : List ℕ) (l : Loaded) (after : List ℕ) (ran : Ran) (bytes : Bytes file)
    (lends : Lends file (length domains) (length tables) (length agenda)) (loads : Loads file domains domains' tables tables' agenda agenda' l)
    (accepted : l.refusal ≡ 0) (chooses : Chooses l.n l.d domains' tables' agenda' after 1000000 l.state ran) where
  none : refusal_of_load file ≡ 0
  none = sym (same_refusal file (length domains) (length tables) (length agenda) lends) ∙ sym loads.refusal ∙ accepted

  left : LeftByLoad file agenda domains' tables' agenda' l
  left = load_leaves file domains domains' tables tables' agenda agenda' l bytes loads accepted

  stopped : Stopped
  stopped = choose (problem_of l.n l.d domains' tables') (slots (slots_in l.n (length agenda'))) 1000000 (search_of l.n agenda' l.state)

  leaves : Leaves l.n l.d domains' tables' agenda' after ran.state stopped.search
  unfolding stopped
  leaves = chooser_leaves l.n l.d domains' tables' agenda' after 1000000 l.state ran left.handed chooses

  few : l.n ≤ 32
  few = ((search_is_passed l.n l.d domains' tables' agenda' _ _ _).0 left.handed.passes).passed.proper.variables

  all_slots : slots_in l.n (length agenda') ≡ 512
  all_slots =
      let words : length agenda' ≡ 512 * (l.n + 2) = left.length_kept ∙ lends.its_agenda (rw (← left.its_n) few) ∙ ap (λ n. 512 * (n + 2))
      (sym left.its_n) in
      ap (λ w. w / (l.n + 2)) words ∙ mul-div_cancel 512 (omega arith)

  same : stopped ≡ ran_of file
  unfolding stopped ran_of
  same =
      ap (choose (problem_of l.n l.d domains' tables') (slots (slots_in l.n (length agenda'))) 1000000) left.search
      ∙ ap (λ k. choose (problem_of l.n l.d domains' tables') (slots k) 1000000 (said_search file)) all_slots
      ∙ ap (λ p. choose p (slots 512) 1000000 (said_search file))
      (let problem : problem_of l.n l.d domains' tables' ≡ loaded_problem file = rw (left.its_n, left.its_d, left.its_domains, left.its_tables)
      refl in problem)

  stack : stack_of l.n after ran.state.subproblems ≡ stopped.search.memory
  stack = ap (λ x. x.memory) leaves.search

  -- Nothing was refused by the first checks.
  first : eqb (search_refusal l.n l.d domains' tables' agenda' l.state.counts.steps.0 l.state.counts.checks.0 l.state.subproblems) 0 ≡ true
  first = eq-eqb _ 0 left.handed.passes

  verdict : ran.verdict ≡ verdict_of l.n stopped.search.memory
  unfolding stopped
  verdict = rw first at chooses.verdict

  refusal : ran.refusal ≡ stopped.refusal
  unfolding stopped
  refusal = rw first at chooses.refusal

  steps : ran.state.counts.steps.0 ≡ stopped.search.steps
  unfolding stopped
  steps = rw first at chooses.steps

  checks : ran.state.counts.checks.0 ≡ stopped.search.checks
  unfolding stopped
  checks = rw first at chooses.checks

  pub chosen_shows : Shows l.n after ran
  chosen_shows =
      let passed = (search_is_passed l.n l.d domains' tables' after _ _ _).0 leaves.handed.passes in
      record {
        few = few;
        verdict = verdict ∙ ap (verdict_of l.n) (sym stack);
        within = le_trans (mul-le-mul_right (l.n + 2) passed.room) (div-mul-le_self (length after) (l.n + 2));
      }

  pub chosen_text : text_from l.n after ran ≡ answer file
  unfolding answer
  chosen_text =
      from_stopped l.n after ran stopped verdict stack steps checks refusal ∙ ap (λ n. text_of n stopped) left.its_n
      ∙ ap (text_of (said_n file)) same ∙ rw (eq-eqb (refusal_of_load file) 0 none) refl

  -- What it returns, of where the run of the file stops.
  pub chosen_steps : ran.state.counts.steps.0 ≡ (ran_of file).search.steps
  chosen_steps = steps ∙ ap (λ x. x.search.steps) same

  pub chosen_checks : ran.state.counts.checks.0 ≡ (ran_of file).search.checks
  chosen_checks = checks ∙ ap (λ x. x.search.checks) same

  -- Its counts and its refusal are in their ranges.
  pub chosen_counts : (ran.state.counts.steps.0 < 2 ^ 64) × (ran.state.counts.checks.0 < 2 ^ 64)
  chosen_counts =
      let limit = ((search_is_passed l.n l.d domains' tables' after _ _ _).0 leaves.handed.passes).limit in
      let stepped = leaves.handed.stepped in
      (omega (arith, stepped), omega (arith, stepped, limit))

  pub chosen_refusal : ran.refusal < 2 ^ 64
  unfolding stopped
  chosen_refusal =
      let known = chooser_refusals (problem_of l.n l.d domains' tables') (slots (slots_in l.n (length agenda'))) (slots_lawful _) 1000000
      (search_of l.n agenda' l.state)
      (handed_passes l.n l.d domains' tables' agenda' l.state left.handed) in
      rw refusal (elim known [ inl e ↦ rw e (omega arith) | inr more ↦ elim more [ inl e ↦ rw e (omega arith) | inr e ↦ rw e (omega arith) ] ])

  -- A run that is solved was not refused.
  pub solved_taken : ran.verdict ≡ Solved → ran.refusal ≡ 0
  unfolding stopped
  solved_taken e =
      refusal
      ∙ chooser_solved (problem_of l.n l.d domains' tables') (slots_in l.n (length agenda')) 1000000 (search_of l.n agenda' l.state)
      (sym verdict ∙ e)
