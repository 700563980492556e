-- The promises of specs/Promises.antt.
-- Assumes nothing.
use mathlib.Core.Path.{◌≡◌, sym, ap, subst, ◌∙◌}
use mathlib.Core.Logic.{inl, ⊎_elim}
use mathlib.Core.List.{List, []}
use Prim.Native.Nat.{ℕ, ◌-◌, ◌≤◌}
use native.Mathlib.Omega.{arith}
use Rattle.searches.specs.Verdicts.{number_of}
use Rattle.search.specs.Calls.{Opens, Runs, Chooses}
use Rattle.search.specs.Outcomes.{Opened}
use Rattle.search.specs.Outcomes.{Ran}
use Rattle.search.proofs.Promises.{open_refusals}
use Rattle.files.specs.Outcomes.{Saved}
use Rattle.files.specs.Outcomes.{Loaded}
use Rattle.files.proofs.Promises.{lived_solvable, lived_steps, unsolvable_run, unsolvable_choose}
use Rattle.files.proofs.Refusals.{load_14, load_15, load_3}
use Rattle.word_bytes.specs.Bytes.{words_of}
use Rattle.console.specs.Promises.{Unwhole1, Unwhole2, Unwhole3, Unwhole14, Unwhole15, UnwholeFile3, OpenInWords, RunInWords, ChooseInWords, LoadInWords, RunInParts, OpenRefused, FirstRefused, SaveRefused, LoadRefused, TakenStand, SolvedShowsPlan, UnsolvableIfNone, LivedInWords, UnsolvableNoPlan, SolvableHeld, StepsLimited, CutRun, CutChooser, RastwobOpenOne, RastwobRunOne, RastwobChooseOne, RastwobSaveOne, RastwobLoadOne}
use Rattle.word_bytes.proofs.Words as words
use Rattle.console.proofs.numbers.Unfit.{none_unwhole, load_no_words}
use Rattle.console.proofs.parts.Runs.{run_joined, run_ended}
use Rattle.console.specs.Searches.{Outcome, by_requests, by_chooser, PlanIn}
use Rattle.console.proofs.Refused.{open_left, save_left, load_left}
use Rattle.console.proofs.Going.{first_of, stopped_of, went, whole_or_odd, first_left, passes_so, plan_in}
use Rattle.console.proofs.Standing.{taken_left}
use Rattle.console.proofs.Living.{lived_so}
use Rattle.console.proofs.Cutting.{cut_run_so, cut_chooser_so}
use Rattle.console.proofs.OneOutcome.{opens_one, runs_one, chooses_one, saves_one, loads_one}

-- ---- a slice that is not whole words

pub unwhole_1 : Unwhole1
unwhole_1 n d =
    let first = rw none_unwhole at (open_refusals n d [] [] []).0 in (
      (λ e. (first.0 e).1),
      (λ x. first.1 (tt, x)),
    )

pub unwhole_2 : Unwhole2
unwhole_2 n d =
    let second = rw none_unwhole at (open_refusals n d [] [] []).1.0 in (
      (λ e. ((second.0 e).1, (second.0 e).0.1)),
      (λ x. second.1 ((tt, x.1), x.0)),
    )

pub unwhole_3 : Unwhole3
unwhole_3 n d =
    let third = rw none_unwhole at (open_refusals n d [] [] []).1.1.0 in (
      (λ e. ((third.0 e).0.0.1, (third.0 e).0.1)),
      (λ f. third.1 (((tt, f.0), f.1), inl (λ e. f.0 (inl (omega arith))))),
    )

pub unwhole_14 : Unwhole14
unwhole_14 file = rw load_no_words at (load_14 file [] [] [])

pub unwhole_15 : Unwhole15
unwhole_15 file = rw load_no_words at (load_15 file [] [] [])

pub unwhole_file_3 : UnwholeFile3
unwhole_file_3 file =
    let both = rw load_no_words at (load_3 file [] [] []) in (
      (λ e. ((both.0 e).0, (both.0 e).1)),
      (λ f. both.1 (f.0, f.1, inl (λ e. f.1 (inl (inl (omega arith)))))),
    )

-- ---- the words before and after

pub open_in_words : OpenInWords
open_in_words n d domains tables before after r w h =
    let x = h.whole w in
    subst (λ (l : List ℕ). Opens n d (words_of domains) (words_of tables) (words_of before) l r)
    (sym (ap words_of x.said ∙ words.words_again x.left)) x.opens

pub run_in_words : RunInWords
run_in_words n d domains tables before after requests s r w e h =
    let x = h.whole w e in
    subst (λ (l : List ℕ). Runs n d (words_of domains) (words_of tables) (words_of before) l (words_of requests) s r)
    (sym (ap words_of x.said ∙ words.words_again x.left)) x.runs

pub choose_in_words : ChooseInWords
choose_in_words n d domains tables before after limit s r w h =
    let x = h.whole w in
    subst (λ (l : List ℕ). Chooses n d (words_of domains) (words_of tables) (words_of before) l limit s r)
    (sym (ap words_of x.said ∙ words.words_again x.left)) x.chooses

pub load_in_words : LoadInWords
load_in_words file domains domains' tables tables' agenda agenda' r w h =
    let x = h.whole w in
    let a : words_of domains' ≡ x.left_domains = ap words_of x.said_domains ∙ words.words_again x.left_domains in
    let b : words_of tables' ≡ x.left_tables = ap words_of x.said_tables ∙ words.words_again x.left_tables in
    let c : words_of agenda' ≡ x.left_agenda = ap words_of x.said_agenda ∙ words.words_again x.left_agenda in
    rw (a, b, c) x.loads

-- ---- two parts

pub run_in_parts : RunInParts
run_in_parts n d domains tables before mid requests more s r small stepped w v runs = (
  (λ e t after q h. run_joined n d domains tables before s small stepped mid requests more r w v runs e t after q h),
  (λ f. run_ended n d domains tables before s small stepped mid requests more r w v runs (λ e z. f e (ap number_of z))),
)

-- ---- a refusal changes no byte

pub open_refused : OpenRefused
open_refused = open_left

pub first_refused : FirstRefused
first_refused = first_left

pub save_refused : SaveRefused
save_refused = save_left

pub load_refused : LoadRefused
load_refused = load_left

-- ---- requests taken stand

pub taken_stand : TakenStand
taken_stand = taken_left

-- ---- what a verdict says of the bytes

pub solved_shows_plan : SolvedShowsPlan
solved_shows_plan n d domains tables s way o typed h e =
    let some : o.verdict ≡ 0 → ⊥ = λ z. absurd (omega arith) in
    let p = passes_so n d domains tables s way o typed h some in
    let out = p.goes.out in
    subst (λ (m : ℕ). (1 ≤ m) × PlanIn n d domains tables o.held.agenda (m - 1)) (sym out.its_subproblems)
    (plan_in n d domains tables o.held.agenda p.goes.ran.state.subproblems (p.says.solved (sym out.its_verdict ∙ e)))

pub unsolvable_if_none : UnsolvableIfNone
unsolvable_if_none n d domains tables s way o typed h some =
    let p = passes_so n d domains tables s way o typed h some in
    let out = p.goes.out in (
      (λ e. out.its_subproblems ∙ p.says.unsolvable.0 (sym out.its_verdict ∙ e)),
      (λ e. out.its_verdict ∙ p.says.unsolvable.1 (sym out.its_subproblems ∙ e)),
    )

-- ---- searches begun by opening

pub lived_in_words : LivedInWords
lived_in_words n d domains opened-tables tables s l = (lived_so n d domains opened-tables tables s l).1

pub unsolvable_no_plan : UnsolvableNoPlan
unfolding first_of stopped_of
unsolvable_no_plan n d domains opened-tables tables s (by_requests requests) o l h e plan =
    ⊎_elim
    (λ v.
    let x = went n d domains tables s (by_requests requests) o v.0 v.1 h in
    unsolvable_run n d _ _ _ _ _ _ _ x.ran (lived_in_words n d domains opened-tables tables s l) x.ends (sym x.out.its_verdict ∙ e) plan)
    (λ same. let none = ap (λ (y : Outcome). y.verdict) same in absurd (omega (arith, none)))
    (whole_or_odd n d domains tables s (by_requests requests) o h)
unsolvable_no_plan n d domains opened-tables tables s (by_chooser limit) o l h e plan =
    ⊎_elim
    (λ v.
    let x = went n d domains tables s (by_chooser limit) o v.0 v.1 h in
    unsolvable_choose n d _ _ _ _ _ _ _ x.ran (lived_in_words n d domains opened-tables tables s l) x.ends (sym x.out.its_verdict ∙ e) plan)
    (λ same. let none = ap (λ (y : Outcome). y.verdict) same in absurd (omega (arith, none)))
    (whole_or_odd n d domains tables s (by_chooser limit) o h)

pub solvable_held : SolvableHeld
solvable_held n d domains opened-tables tables s l = lived_solvable n d _ _ _ _ _ (lived_in_words n d domains opened-tables tables s l)

pub steps_limited : StepsLimited
steps_limited n d domains opened-tables tables s l = lived_steps n d _ _ _ _ _ (lived_in_words n d domains opened-tables tables s l)

-- ---- the cut

pub cut_run : CutRun
cut_run = cut_run_so

pub cut_chooser : CutChooser
cut_chooser = cut_chooser_so

-- ---- one answer

pub rastwob_open_one : RastwobOpenOne
rastwob_open_one n d domains tables before after after' steps steps' checks checks' subproblems subproblems' refusal refusal' h k =
    let (same, bytes) = opens_one n d domains tables before after after' h.outcome k.outcome h.opens k.opens in (
      bytes,
      h.its_steps ∙ ap (λ (x : Opened). x.state.counts.steps.0) same ∙ sym k.its_steps,
      h.its_checks ∙ ap (λ (x : Opened). x.state.counts.checks.0) same ∙ sym k.its_checks,
      h.its_subproblems ∙ ap (λ (x : Opened). x.state.subproblems) same ∙ sym k.its_subproblems,
      h.its_refusal ∙ ap (λ (x : Opened). x.refusal) same ∙ sym k.its_refusal,
    )

pub rastwob_run_one : RastwobRunOne
rastwob_run_one n d domains tables before after after' requests steps checks subproblems s₁ s₂ c₁ c₂ m₁ m₂ v v' t t' f f' h k =
    let (same, bytes) = runs_one n d domains tables before after after' requests _ h.outcome k.outcome h.runs k.runs in (
      bytes,
      h.hands_out.its_steps ∙ ap (λ (x : Ran). x.state.counts.steps.0) same ∙ sym k.hands_out.its_steps,
      h.hands_out.its_checks ∙ ap (λ (x : Ran). x.state.counts.checks.0) same ∙ sym k.hands_out.its_checks,
      h.hands_out.its_subproblems ∙ ap (λ (x : Ran). x.state.subproblems) same ∙ sym k.hands_out.its_subproblems,
      h.hands_out.its_verdict ∙ ap (λ (x : Ran). number_of x.verdict) same ∙ sym k.hands_out.its_verdict,
      h.hands_out.its_taken ∙ ap (λ (x : Ran). x.taken) same ∙ sym k.hands_out.its_taken,
      h.hands_out.its_refusal ∙ ap (λ (x : Ran). x.refusal) same ∙ sym k.hands_out.its_refusal,
    )

pub rastwob_choose_one : RastwobChooseOne
rastwob_choose_one n d domains tables before after after' limit steps checks subproblems s₁ s₂ c₁ c₂ m₁ m₂ v v' t t' f f' h k =
    let (same, bytes) = chooses_one n d domains tables before after after' limit _ h.outcome k.outcome h.chooses k.chooses in (
      bytes,
      h.hands_out.its_steps ∙ ap (λ (x : Ran). x.state.counts.steps.0) same ∙ sym k.hands_out.its_steps,
      h.hands_out.its_checks ∙ ap (λ (x : Ran). x.state.counts.checks.0) same ∙ sym k.hands_out.its_checks,
      h.hands_out.its_subproblems ∙ ap (λ (x : Ran). x.state.subproblems) same ∙ sym k.hands_out.its_subproblems,
      h.hands_out.its_verdict ∙ ap (λ (x : Ran). number_of x.verdict) same ∙ sym k.hands_out.its_verdict,
      h.hands_out.its_taken ∙ ap (λ (x : Ran). x.taken) same ∙ sym k.hands_out.its_taken,
      h.hands_out.its_refusal ∙ ap (λ (x : Ran). x.refusal) same ∙ sym k.hands_out.its_refusal,
    )

pub rastwob_save_one : RastwobSaveOne
rastwob_save_one n d domains tables agenda steps checks subproblems before after after' blocks blocks' refusal refusal' h k =
    let (same, bytes) = saves_one n d domains tables agenda _ before after after' h.outcome k.outcome h.saves k.saves in (
      bytes,
      h.its_blocks ∙ ap (λ (x : Saved). x.blocks) same ∙ sym k.its_blocks,
      h.its_refusal ∙ ap (λ (x : Saved). x.refusal) same ∙ sym k.its_refusal,
    )

pub rastwob_load_one : RastwobLoadOne
rastwob_load_one file domains domains₁ domains₂ tables tables₁ tables₂ agenda agenda₁ agenda₂ n n' d d' steps steps' checks checks' subproblems
    subproblems' refusal refusal' h k =
    let (same, one, two, three) = loads_one file domains domains₁ domains₂ tables tables₁ tables₂ agenda agenda₁ agenda₂ h.outcome k.outcome h.loads k.loads in (
      one,
      two,
      three,
      h.its_n ∙ ap (λ (x : Loaded). x.n) same ∙ sym k.its_n,
      h.its_d ∙ ap (λ (x : Loaded). x.d) same ∙ sym k.its_d,
      h.its_steps ∙ ap (λ (x : Loaded). x.state.counts.steps.0) same ∙ sym k.its_steps,
      h.its_checks ∙ ap (λ (x : Loaded). x.state.counts.checks.0) same ∙ sym k.its_checks,
      h.its_subproblems ∙ ap (λ (x : Loaded). x.state.subproblems) same ∙ sym k.its_subproblems,
      h.its_refusal ∙ ap (λ (x : Loaded). x.refusal) same ∙ sym k.its_refusal,
    )
