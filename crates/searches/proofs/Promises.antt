-- The promises of specs/Promises.antt, proved.
-- Assumes nothing.
use mathlib.Core.Path.{ap}
use mathlib.Core.List.{◌∷◌}
use Rattle.searches.specs.Verdicts.{number_of, verdict_of}
use Rattle.searches.specs.Promises.{UnsolvableIf, SolvedIf, RunningIf, SolvedShows, RequestRefusals, Stops, Taken, StepsCount, TakesNone, TwoLists, ChooseTwo, ChooserStops, Picks, ChosenSo, ChosenAccepted, ChooserRefusals, StepPasses, RunPasses, ChooserPasses, ReachedPasses, ReachedChecks, ReachedSolvable, ReachedUnsolvable, ReachedSteps, RunsAlike, ChoosersAlike, StacksLawful, RunReads, ChooserReads}
use Rattle.searches.proofs.Verdicts
use Rattle.searches.proofs.Runs
use Rattle.searches.proofs.Refusals
use Rattle.searches.proofs.Passing
use Rattle.searches.proofs.Picking
use Rattle.searches.proofs.Reaching
use Rattle.searches.proofs.Alike

pub unsolvable_if : UnsolvableIf
unsolvable_if n S =
    let (so, only) = Verdicts.unsolvable_if n S in
    (λ e. so (Verdicts.is_unsolvable (verdict_of n S) e), λ e. ap number_of (only e))

pub solved_if : SolvedIf
solved_if n P S =
    let (so, only) = Verdicts.solved_if n P S in
    (λ e. so (Verdicts.is_solved (verdict_of n (P ∷ S)) e), λ h. ap number_of (only h))

pub running_if : RunningIf
running_if n S =
    let (so, only) = Verdicts.running_if n S in (
      (λ e. let no = so (Verdicts.is_run_on (verdict_of n S) e) in
          (λ f. no.0 (Verdicts.is_unsolvable (verdict_of n S) f), λ f. no.1 (Verdicts.is_solved (verdict_of n S) f))),
      (λ h. ap number_of (only (λ f. h.0 (ap number_of f), λ f. h.1 (ap number_of f)))),
    )

pub solved_shows : SolvedShows
solved_shows p M s h e =
    let (P, S, top, all) = Verdicts.solved_top p.n (M.stack p s.memory) (Verdicts.is_solved (verdict_of p.n (M.stack p s.memory)) e) in
    let (values, solution) = Verdicts.shown (Passing.top_held p M P S s h top) (Verdicts.all_instantiated_lem p.n P all) in
    (P, S, top, values, solution)

pub request_refusals : RequestRefusals
request_refusals = Refusals.first_refusal

pub stops : Stops
stops = Runs.stops

pub taken : Taken
taken = Runs.taken_alone

pub steps_count : StepsCount
steps_count = Runs.run_steps

pub takes_none : TakesNone
takes_none p M rs s h = Runs.run_finished p M rs s (Verdicts.not_running p.n (M.stack p s.memory) (λ e. h (ap number_of e)))

pub two_lists : TwoLists
two_lists p M rs qs s = Runs.two_lists p M qs rs s

pub choose_two : ChooseTwo
choose_two p M m k s = Picking.two_limits p M k m s

pub chooser_stops : ChooserStops
chooser_stops = Picking.choose_stops

pub picks : Picks
picks p M limit s = Picking.picked p M limit s 0

pub chosen_so : ChosenSo
chosen_so p M P S s h top e =
    Picking.chosen_so p M s.memory P S top (Passing.top_held p M P S s h top)
    (Picking.top_running p M s.memory P S top
    (Verdicts.is_running p.n (M.stack p s.memory) (Verdicts.is_run_on (verdict_of p.n (M.stack p s.memory)) e)))

pub chosen_accepted : ChosenAccepted
chosen_accepted p M P S s h top e =
    Picking.chosen_accepted p M s.memory P S top (Passing.top_held p M P S s h top)
    (Picking.top_running p M s.memory P S top
    (Verdicts.is_running p.n (M.stack p s.memory) (Verdicts.is_run_on (verdict_of p.n (M.stack p s.memory)) e)))

pub chooser_refusals : ChooserRefusals
chooser_refusals = Picking.choose_refusals

pub step_passes : StepPasses
step_passes = Passing.step_passes

pub run_passes : RunPasses
run_passes = Passing.run_passes

pub chooser_passes : ChooserPasses
chooser_passes p M law limit s h = rw (Picking.picked p M limit s 0) (Passing.run_passes p M law _ s h)

pub reached_passes : ReachedPasses
reached_passes M law p start proper opening room s h = (Reaching.reached_holds M law p start proper opening h).passes

pub reached_checks : ReachedChecks
reached_checks M law p start proper opening room s h = (Reaching.reached_holds M law p start proper opening h).passes.counted

pub reached_solvable : ReachedSolvable
reached_solvable M law p start proper opening room s h = (Reaching.reached_holds M law p start proper opening h).solvable

pub reached_unsolvable : ReachedUnsolvable
reached_unsolvable M law p start proper opening room s h e f =
    Reaching.none_solvable p ((M room).stack p s.memory)
    ((Verdicts.unsolvable_if p.n ((M room).stack p s.memory)).0 (Verdicts.is_unsolvable (verdict_of p.n ((M room).stack p s.memory)) e))
    ((Reaching.reached_holds M law p start proper opening h).solvable.0 f)

pub reached_steps : ReachedSteps
reached_steps M law p start proper opening room s h = Reaching.steps_few M law p start proper opening h

pub runs_alike : RunsAlike
runs_alike = Alike.runs_alike

pub choosers_alike : ChoosersAlike
choosers_alike = Alike.choosers_alike

pub stacks_lawful : StacksLawful
stacks_lawful = Alike.stacks_lawful

pub run_reads : RunReads
run_reads = Alike.run_reads

pub chooser_reads : ChooserReads
chooser_reads = Alike.chooser_reads
