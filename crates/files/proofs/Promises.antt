-- The promises of save and load, proved.
-- Assumes nothing.
use mathlib.Core.Path.{◌≡◌, refl, ◌∙◌}
use native.Mathlib.Omega.{arith}
use lib.ListN.{length}
use Rattle.blocks.specs.Blocks.{blocks_for}
use Rattle.files.specs.Content.{content_of}
use Rattle.files.specs.Promises.{HeaderOfOne, LoadAfterSave, SaveAfterLoad, LoadedPasses, LoadLeaves, LoadsBack, SavesBack, Largest, LargestMet, SaveEnough, SaveFirst, Save13, SaveNone, Load14, Load15, Load3, Load12, LoadNone, SavedResultOne, LoadedResultOne, SaveOne, LoadOne, DiagonalOpen, DiagonalRun, DiagonalChoose, DiagonalSave, Lived, LivedReached, LivedSolvable, LivedSteps, LivedChecks, UnsolvableRun, UnsolvableChoose, SolvedRun, SolvedChoose, SameSolutions, CutAny, CutLived, CutChoose}
use Rattle.search.proofs.Encoding.{length_stack}
use Rattle.search.proofs.first_checks.FirstPassing.{search_is_passed}
use Rattle.search.proofs.Reaching.{reached_solvable, reached_steps, reached_checks}
use Rattle.search.proofs.Promises.{chooser_says}
use Rattle.blocks.proofs.Whole
use Rattle.files.proofs.Outcomes.{saved_once, loaded_once}
use Rattle.files.proofs.Accepted
use Rattle.files.proofs.Contents
use Rattle.files.proofs.RoundTrip
use Rattle.files.proofs.Saving
use Rattle.files.proofs.Loading
use Rattle.files.proofs.Refusals
use Rattle.files.proofs.Diagonal
use Rattle.files.specs.Calls.{handed_content}
use Rattle.files.proofs.Cut as Cutting
use Rattle.files.proofs.LoadLeaves
use Rattle.files.proofs.Back
use Rattle.files.proofs.Solutions
use Rattle.files.proofs.Living
use Rattle.files.proofs.OneOutcome

pub load_after_save : LoadAfterSave
load_after_save n d domains tables agenda s words e =
    Saving.saved_says n d domains tables agenda s words ((search_is_passed n d domains tables agenda _ _ _).0 e)

pub save_after_load : SaveAfterLoad
save_after_load file bytes e h =
    let a = Accepted.words_accept file h in RoundTrip.saved_again file bytes a.variables (Whole.file_whole file e) a

pub loaded_passes : LoadedPasses
loaded_passes file domains tables agenda bytes e =
    let t = Loading.load_taken file (length domains) (length tables) (length agenda) e in
    (search_is_passed _ _ _ _ _ _ _ _).1 (Loading.said_passing file t.accepts bytes (length agenda) t.lengths.slots t.room)

pub load_leaves : LoadLeaves
load_leaves = LoadLeaves.load_leaves

pub loads_back : LoadsBack
loads_back = Back.loads_back

pub saves_back : SavesBack
saves_back = Back.saves_back

pub largest : Largest
largest n d domains allowed s few values words stack =
    (RoundTrip.content_few n d domains allowed s few values words stack, RoundTrip.blocks_few n d domains allowed s few values words stack)

pub largest_met : LargestMet
unfolding blocks_for
largest_met domains allowed s words stack wide =
    let e = length_stack 32 s.memory (λ P m. omega (arith, wide P m)) in
    let l : length (content_of 32 16 domains allowed s) ≡ 25385 = Contents.content_words 32 16 domains allowed s words ∙ rw (e, stack) refl in
    (l, rw l refl)

pub save_enough : SaveEnough
save_enough n d domains tables agenda s before after r words e long h =
    let passing = (search_is_passed n d domains tables agenda s.counts.steps.0 s.counts.checks.0 s.subproblems).0 e in
    let few = Saving.saved_few n d domains tables agenda s words passing in
    let none = (Refusals.save_none n d domains tables agenda s before).1 (e, λ short. absurd (omega arith)) in
    let blocks : r.blocks ≡ blocks_for (length (handed_content n d domains tables agenda s)) = rw none at h.blocks in
    (h.refusal ∙ none, omega arith)

pub save_first : SaveFirst
save_first = Refusals.save_first

pub save_13 : Save13
save_13 = Refusals.save_13

pub save_none : SaveNone
save_none = Refusals.save_none

pub load_14 : Load14
load_14 = Refusals.load_14

pub load_15 : Load15
load_15 = Refusals.load_15

pub load_3 : Load3
load_3 = Refusals.load_3

pub load_12 : Load12
load_12 = Refusals.load_12

pub load_none : LoadNone
load_none = Refusals.load_none

pub saved_result_one : SavedResultOne
saved_result_one = saved_once

pub loaded_result_one : LoadedResultOne
loaded_result_one = loaded_once

pub save_one : SaveOne
save_one = OneOutcome.save_one

pub load_one : LoadOne
load_one = OneOutcome.load_one

pub diagonal_open : DiagonalOpen
diagonal_open n d domains tables tables' before after r same = Diagonal.diagonal_open n d domains tables tables' same before after r

pub diagonal_run : DiagonalRun
diagonal_run n d domains tables tables' before after requests s r same =
    Diagonal.diagonal_run n d domains tables tables' same before after requests s r

pub diagonal_choose : DiagonalChoose
diagonal_choose n d domains tables tables' before after limit s r same =
    Diagonal.diagonal_choose n d domains tables tables' same before after limit s r

pub diagonal_save : DiagonalSave
diagonal_save n d domains tables tables' agenda s before after r same = Diagonal.diagonal_save n d domains tables tables' same agenda s before after r

pub lived_reached : LivedReached
lived_reached n d domains opened-tables tables agenda s h =
    let life = Living.lived h in
    (life.handed, life.same, Living.proper₀ life, Living.reached₀ life)

pub lived_solvable : LivedSolvable
lived_solvable n d domains opened-tables tables agenda s h =
    let life = Living.lived h in reached_solvable n d domains opened-tables _ _ (Living.proper₀ life) (Living.reached₀ life)

pub lived_steps : LivedSteps
lived_steps n d domains opened-tables tables agenda s h =
    let life = Living.lived h in reached_steps n d domains opened-tables _ _ (Living.proper₀ life) (Living.reached₀ life)

pub lived_checks : LivedChecks
lived_checks n d domains opened-tables tables agenda s h =
    let life = Living.lived h in reached_checks n d domains opened-tables _ _ (Living.proper₀ life) (Living.reached₀ life)

pub unsolvable_run : UnsolvableRun
unsolvable_run n d domains opened-tables tables before after requests s r h runs e =
    Living.says_unsolvable (Living.lived (Lived.ran h requests runs)) r.verdict
    (Living.run_verdict n d domains tables before after requests s r (Living.lived h).handed runs (omega (arith, e))) e

pub unsolvable_choose : UnsolvableChoose
unsolvable_choose n d domains opened-tables tables before after limit s r h chooses e =
    Living.says_unsolvable (Living.lived (Lived.chose h limit chooses)) r.verdict
    (chooser_says n d domains tables before after limit s r (Living.lived h).handed chooses).verdict e

pub solved_run : SolvedRun
solved_run n d domains opened-tables tables before after requests s r h runs e =
    Living.says_solved (Living.lived (Lived.ran h requests runs)) r.verdict
    (Living.run_verdict n d domains tables before after requests s r (Living.lived h).handed runs (omega (arith, e))) e

pub solved_choose : SolvedChoose
solved_choose n d domains opened-tables tables before after limit s r h chooses e =
    Living.says_solved (Living.lived (Lived.chose h limit chooses)) r.verdict
    (chooser_says n d domains tables before after limit s r (Living.lived h).handed chooses).verdict e

pub same_solutions : SameSolutions
same_solutions = Solutions.same_solutions

pub cut_any : CutAny
cut_any = Cutting.run_end

pub cut_lived : CutLived
cut_lived n d domains opened-tables tables agenda s requests more h w v t =
    Cutting.run_end n d domains tables agenda s requests more (Living.lived h).handed w v t

pub cut_choose : CutChoose
cut_choose = Cutting.choose_end

pub header_of_one : HeaderOfOne
header_of_one = OneOutcome.header_one
