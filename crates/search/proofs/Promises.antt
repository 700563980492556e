-- The promises of specs/Promises.antt, proved.
-- Assumes nothing.
use mathlib.Core.Path.{◌≡◌, sym, ap, ◌∙◌}
use mathlib.Core.Logic.{⊎_elim}
use mathlib.Core.List.{List, ◌∷◌}
use Prim.Native.Nat.{ℕ, ◌≤◌}
use native.Mathlib.Omega.{arith}
use lib.ListN.{length, get_or}
use Rattle.problem.proofs.Refused.{one_told}
use Rattle.problem.proofs.Answers.{one}
use Rattle.searches.specs.Verdicts.{number_of}
use Rattle.searches.specs.Chooser.{chosen}
use Rattle.searches.proofs.Promises.{chosen_so}
use Rattle.search.specs.Slots.{slots, Stopped}
use Rattle.search.specs.Calls.{Ends}
use Rattle.search.specs.declared.state.State.{State}
use Rattle.search.specs.Outcomes.{Ran}
use Rattle.search.specs.Cases.{cases}
use Rattle.search.specs.Promises.{SlotsLawful, SlotsFull, SlotsRefusals, SlotsChosen, OpenedOne, RanOne, OpeningPlaces, ReachedOpened, OpenOne, RunOne, ChooseOne, OpenLeaves, RunLeaves, ChooserLeaves, HandedPasses, RunSays, ChooserSays, EndsSo, MarkedCases, NoneIfRun, NoneIfChoose, RunExact, ChooseExact, RightOnly, NotOnlyRefuses, NotAlwaysUnsolvable, NotIdle, NotSolvedAtOnce, NotInvented, OpenRefusals, SearchRefusals, RunRefusals, LengthsPass, RequestsPass, SearchPass, OpenApart, SearchApart, RunApart, FreshOne, SizesRefusalOne, OpenRefusalOne, SearchRefusalOne, RunRefusalOne}
use Rattle.search.proofs.Slots
use Rattle.search.proofs.Outcomes
use Rattle.search.proofs.Reaching
use Rattle.search.proofs.Cases
use Rattle.search.proofs.Planners
use Rattle.search.proofs.HandedOn
use Rattle.search.proofs.Exactly
use Rattle.search.proofs.first_checks.FirstOrder.{open_first, search_first, run_first}
use Rattle.search.proofs.first_checks.FirstPassing.{lengths_none, requests_none, search_none}
use Rattle.search.proofs.first_checks.Apart.{apart_open, apart_search, apart_run}

pub slots_lawful : SlotsLawful
slots_lawful = Slots.slots_lawful

pub slots_full : SlotsFull
slots_full = Slots.slots_full

pub slots_refusals : SlotsRefusals
slots_refusals p room P S s r top fits = Slots.slots_refusals p room P S s top fits r

pub slots_chosen : SlotsChosen
slots_chosen p room P S s h top e =
    let fits : length (P ∷ S) ≤ room = rw top at h.fits in
    Slots.slots_chosen p room P S s top fits (chosen p (slots room) s.memory) (chosen_so p (slots room) P S s h top e)

pub opened_one : OpenedOne
opened_one = Outcomes.opened_once

pub ran_one : RanOne
ran_one = Outcomes.ran_once

pub opening_places : OpeningPlaces
opening_places = Reaching.opening_places

pub reached_opened : ReachedOpened
reached_opened = Reaching.reached_opened

pub open_leaves : OpenLeaves
open_leaves = HandedOn.open_leaves_so

pub run_leaves : RunLeaves
run_leaves = HandedOn.run_leaves_so

pub chooser_leaves : ChooserLeaves
chooser_leaves = HandedOn.chooser_leaves_so

pub handed_passes : HandedPasses
handed_passes n d domains tables agenda s h = (HandedOn.known n d domains tables agenda s h).passes

pub run_says : RunSays
run_says = HandedOn.run_says_so

pub chooser_says : ChooserSays
chooser_says = HandedOn.chooser_says_so

pub none_if_run : NoneIfRun
none_if_run n d domains tables before after requests s r ends = Exactly.none_if _ n before after s _ r ends

pub none_if_choose : NoneIfChoose
none_if_choose n d domains tables before after limit s r ends = Exactly.none_if _ n before after s _ r ends

pub run_exact : RunExact
run_exact = Exactly.run_exact

pub choose_exact : ChooseExact
choose_exact = Exactly.choose_exact

pub marked_cases : MarkedCases
marked_cases = Cases.each EndsSo cases Cases.computed

pub right_only : RightOnly
right_only after r w =
    let x = Planners.says after r w in (x.agenda, ap number_of x.verdict, x.refusal, x.taken, x.steps, x.checks, x.subproblems)

pub not_only_refuses : NotOnlyRefuses
not_only_refuses after r h w = h (Planners.says after r w).refusal

pub not_always_unsolvable : NotAlwaysUnsolvable
not_always_unsolvable after r e w = let one = ap number_of (Planners.says after r w).verdict in omega (arith, e, one)

pub not_idle : NotIdle
not_idle r w = omega (arith, ap (λ (l : List ℕ). get_or l 1 0) (Planners.says _ r w).agenda)

pub not_solved_at_once : NotSolvedAtOnce
not_solved_at_once after r h w =
    ⊎_elim (λ e. let one = ap number_of (Planners.says after r w).verdict in omega (arith, e, one))
    (λ w'. let left = (Planners.says after r w).agenda in
    ⊎_elim (λ e. let third = ap (λ (l : List ℕ). get_or l 3 0) left in omega (arith, e, third))
    (λ e. let seventh = ap (λ (l : List ℕ). get_or l 7 0) left in omega (arith, e, seventh)) w') h

pub not_invented : NotInvented
not_invented after r h w = ⊎_elim (λ k. k (Planners.says after r w).steps) (λ k. k (Planners.says after r w).checks) h

-- ---- the first checks of each call

pub open_refusals : OpenRefusals
open_refusals = open_first

pub search_refusals : SearchRefusals
search_refusals = search_first

pub run_refusals : RunRefusals
run_refusals n d domains tables agenda requests steps checks subproblems = run_first n d domains tables agenda steps checks subproblems requests

-- ---- each part

pub lengths_pass : LengthsPass
lengths_pass = lengths_none

pub requests_pass : RequestsPass
requests_pass = requests_none

pub search_pass : SearchPass
search_pass = search_none

-- ---- a variable with itself

pub open_apart : OpenApart
open_apart = apart_open

pub search_apart : SearchApart
search_apart = apart_search

pub run_apart : RunApart
run_apart = apart_run

-- ---- one answer

pub fresh_one : FreshOne
fresh_one subproblems = one _

pub sizes_refusal_one : SizesRefusalOne
sizes_refusal_one n d domains tables agenda = one_told (one _)

pub open_refusal_one : OpenRefusalOne
open_refusal_one n d domains tables agenda = one_told (one _)

pub search_refusal_one : SearchRefusalOne
search_refusal_one n d domains tables agenda steps checks subproblems = one_told (one _)

pub run_refusal_one : RunRefusalOne
run_refusal_one n d domains tables agenda requests steps checks subproblems = one_told (one _)

pub open_one : OpenOne
open_one n d domains tables before after after' r s h k = (
  (λ i. record {
    refusal = (h.refusal ∙ sym k.refusal) i;
    state = record {
      counts = record { steps = record { 0 = (h.steps ∙ sym k.steps) i }; checks = record { 0 = (h.checks ∙ sym k.checks) i } };
      subproblems = (h.subproblems ∙ sym k.subproblems) i;
    };
  }),
  h.agenda ∙ sym k.agenda,
)

-- of any two that end alike
ends_one : (first n : ℕ) (before after after' : List ℕ) (s : State) (stopped : Stopped) (r q : Ran) → Ends first n before after s stopped r
    → Ends first n before after' s stopped q → (r ≡ q) × (after ≡ after')
ends_one first n before after after' s stopped r q h k = (
  (λ i. record {
    verdict = (h.verdict ∙ sym k.verdict) i;
    refusal = (h.refusal ∙ sym k.refusal) i;
    taken = (h.taken ∙ sym k.taken) i;
    state = record {
      counts = record { steps = record { 0 = (h.steps ∙ sym k.steps) i }; checks = record { 0 = (h.checks ∙ sym k.checks) i } };
      subproblems = (h.subproblems ∙ sym k.subproblems) i;
    };
  }),
  h.agenda ∙ sym k.agenda,
)

pub run_one : RunOne
run_one n d domains tables before after after' requests s r q h k = ends_one _ n before after after' s _ r q h k

pub choose_one : ChooseOne
choose_one n d domains tables before after after' limit s r q h k = ends_one _ n before after after' s _ r q h k
