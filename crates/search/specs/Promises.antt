-- What a search promises of slots, lent words and calls. What it promises over any machine stands in crates/searches.
-- Stated here, proved in proofs/Promises.antt.
use Rattle.std.specs.Prelude.{◌≡◌, ◌⊎◌, ◌↔◌, true, ℕ, ◌≤◌, ◌<◌, length, get_or}
use mathlib.Core.List.{List, Memᴰ, [], ◌∷◌, map}
use Rattle.problem.specs.Problem.{Problem, Proper, AgreeApart, Words, problem_of}
use Rattle.splits.specs.Subproblems.{size_of}
use Rattle.problem.specs.Refusing.{Refusals, FirstOf}
use Rattle.std.specs.Prelude.{Result}
use Rattle.problem.specs.declared.refusal.Refusal.{Refusal}
use Rattle.problem.specs.Refused.{OneTold}
use Rattle.problem.specs.Answers.{One}
use Rattle.splits.specs.declared.subproblem.Subproblem.{Subproblem}
use Rattle.searches.specs.Verdicts.{number_of, verdict_of}
use Rattle.searches.specs.Machines.{Lawful}
use Rattle.searches.specs.Steps.{stop, refusals_of_request}
use Rattle.searches.specs.Tests.Refusal.{refusal_of_request}
use Rattle.searches.specs.Runs.{run, requests_in}
use Rattle.searches.specs.Chooser.{chosen, choose}
use Rattle.searches.specs.Reached.{Passes, Opening, Reached as ReachedBy}
use Rattle.searches.specs.Promises.{Shown, Chosen}
use Rattle.search.specs.Agenda.{slots_in, stack_of}
use Rattle.search.specs.Slots.{slots, Deserves12, Search}
use Rattle.search.specs.FirstChecks.{WholeRequests, Deserves3, Deserves3Run, Deserves6}
use Rattle.search.specs.Tests.FirstChecks.{search_refusal, refusal_of_lengths, refusal_of_requests, refusal_of_search, sizes_refusal, open_refusal, run_refusal}
use Rattle.problem.specs.FirstChecks.{Deserves1, Deserves2, Deserves4, Deserves5}
use Rattle.search.specs.Calls.{opening, begun, search_of, Opens, Runs, Chooses, Fresh}
use Rattle.search.specs.declared.state.State.{State}
use Rattle.search.specs.Cases.{Case, problem_in, expected, cases}
use Rattle.search.specs.declared.state.Ran.{Ran as Returned}
use Rattle.search.specs.Outcomes.{fresh, Opened, opened, Ran, ran}

-- ---- slots

-- Slots keep the law of a machine, whatever their number: so all that crates/searches promises of machines holds of them.
abbrev pub SlotsLawful : Type 0
SlotsLawful = (room : ℕ) → Lawful (slots room)

-- They are full exactly where 12 is deserved.
abbrev pub SlotsFull : Type 0
SlotsFull =
    (p : Problem) (room : ℕ) (P : Subproblem) (S : List Subproblem) (r : List ℕ) → length (P ∷ S) ≤ room
    → ((slots room).full p r (P ∷ S) ≡ true) ↔ Deserves12 p room P S r

-- The refusals of a request by a search with P on top, S below and no more subproblems than slots: the first of 11, 7, 8, 9, 10 and 12.
abbrev pub SlotsRefusals : Type 0
SlotsRefusals =
    (p : Problem) (room : ℕ) (P : Subproblem) (S : List Subproblem) (s : Search) (r : List ℕ) → s.memory ≡ P ∷ S
    → length (P ∷ S) ≤ room → FirstOf (refusals_of_request p s.steps P r (Deserves12 p room P S r)) (refusal_of_request p (slots room) r s)

-- The request chosen for a passing, running search with P on top and S below: kind 3 has no room where 12 is deserved.
abbrev pub SlotsChosen : Type 0
SlotsChosen =
    (p : Problem) (room : ℕ) (P : Subproblem) (S : List Subproblem) (s : Search) → Passes p (slots room) s → s.memory ≡ P ∷ S
    → number_of (verdict_of p.n s.memory) ≡ 1 → Chosen p (Deserves12 p room P S) P (chosen p (slots room) s.memory)

-- ---- what is read of a result

-- What opening, a run and the chooser tell leaves one result each.
abbrev pub OpenedOne : Type 0
OpenedOne = (r s : Result State Refusal) → opened r ≡ opened s → r ≡ s

abbrev pub RanOne : Type 0
RanOne = (r s : Returned) → ran r ≡ ran s → r ≡ s

-- ---- searches begun by opening

-- What opening places is the problem with nothing instantiated, unless a domain is empty.
abbrev pub OpeningPlaces : Type 0
OpeningPlaces = (n d : ℕ) (domains tables : List ℕ) → Opening (problem_of n d domains tables) (opening n domains)

-- The searches of the problem that the words say, and the slots they have: begun by opening, gone on with by any number of runs and
-- choosers, each with any requests, and moved to any other number of slots that takes them.
abbrev pub Reached : ℕ → ℕ → List ℕ → List ℕ → ℕ → Search → Type 0
Reached n d domains tables room s = ReachedBy slots (problem_of n d domains tables) (opening n domains) room s

-- It begins at the search that opening begins, in one slot or more.
abbrev pub ReachedOpened : Type 0
ReachedOpened = (n d : ℕ) (domains tables : List ℕ) (room : ℕ) → 1 ≤ room → Reached n d domains tables room (begun n domains)

-- ---- what a call leaves, handed on unaltered with its problem

-- A search in lent words that passes the first checks of the chooser and of save, its steps fitting their counter.
pub record Handed (n d : ℕ) (domains tables agenda : List ℕ) (s : State) : Type 0 where
  pub words : Words agenda
  pub stepped : s.counts.steps.0 ≤ 4294967295
  pub passes : search_refusal n d domains tables agenda s.counts.steps.0 s.counts.checks.0 s.subproblems ≡ 0

-- The words hold x, pass again when handed on, and are as many as before.
pub record Leaves (n d : ℕ) (domains tables before after : List ℕ) (s : State) (x : Search) : Type 0 where
  pub handed : Handed n d domains tables after s
  pub search : search_of n after s ≡ x
  pub length_kept : length after ≡ length before

-- Opening, whatever the agenda held before, leaves the problem with nothing instantiated, unless a domain is empty.
abbrev pub OpenLeaves : Type 0
OpenLeaves =
    (n d : ℕ) (domains tables before after : List ℕ) (r : Opened) → Opens n d domains tables before after r → r.refusal ≡ 0
    → Leaves n d domains tables before after r.state (begun n domains)

-- A run of whole requests leaves the run's search; with a list that is not whole requests it leaves what it was handed.
abbrev pub RunLeaves : Type 0
RunLeaves =
    (n d : ℕ) (domains tables before after requests : List ℕ) (s : State) (r : Ran) → Handed n d domains tables before s
    → Runs n d domains tables before after requests s r
    → (WholeRequests n (length requests)
    → Leaves n d domains tables before after r.state
    (run (problem_of n d domains tables) (slots (slots_in n (length before))) (requests_in n requests) (search_of n before s)).search)
    × ((WholeRequests n (length requests) → ⊥) → Leaves n d domains tables before after r.state (search_of n before s))

-- So does the chooser.
abbrev pub ChooserLeaves : Type 0
ChooserLeaves =
    (n d : ℕ) (domains tables before after : List ℕ) (limit : ℕ) (s : State) (r : Ran) → Handed n d domains tables before s
    → Chooses n d domains tables before after limit s r
    → Leaves n d domains tables before after r.state
    (choose (problem_of n d domains tables) (slots (slots_in n (length before))) limit (search_of n before s)).search

-- What is handed on passes, so that what is promised of passing searches holds of it, begun by opening or not.
abbrev pub HandedPasses : Type 0
HandedPasses =
    (n d : ℕ) (domains tables agenda : List ℕ) (s : State) → Handed n d domains tables agenda s
    → Passes (problem_of n d domains tables) (slots (slots_in n (length agenda))) (search_of n agenda s)

-- What the verdict of a call says of the agenda it leaves: solved, that the top slot shows a solution of the problem; unsolvable, exactly that no
-- subproblem is left.
pub record VerdictSays (n d : ℕ) (domains tables after : List ℕ) (r : Ran) : Type 0 where
  pub verdict : r.verdict ≡ verdict_of n (stack_of n after r.state.subproblems)
  pub solved : number_of r.verdict ≡ 2 → Shown (problem_of n d domains tables) (stack_of n after r.state.subproblems)
  pub unsolvable : (number_of r.verdict ≡ 3) ↔ (r.state.subproblems ≡ 0)

-- Of a run of whole requests, and of the chooser, on any search that passes the first checks.
abbrev pub RunSays : Type 0
RunSays =
    (n d : ℕ) (domains tables before after requests : List ℕ) (s : State) (r : Ran) → Handed n d domains tables before s
    → WholeRequests n (length requests) → Runs n d domains tables before after requests s r → VerdictSays n d domains tables after r

abbrev pub ChooserSays : Type 0
ChooserSays =
    (n d : ℕ) (domains tables before after : List ℕ) (limit : ℕ) (s : State) (r : Ran) → Handed n d domains tables before s
    → Chooses n d domains tables before after limit s r → VerdictSays n d domains tables after r

-- ---- what run and chooser return

-- The verdict is none, number 0, exactly where the first checks refuse.
abbrev pub NoneIf : ℕ → Ran → Type 0
NoneIf first r = (number_of r.verdict ≡ 0) ↔ (first ≡ 0 → ⊥)

abbrev pub NoneIfRun : Type 0
NoneIfRun =
    (n d : ℕ) (domains tables before after requests : List ℕ) (s : State) (r : Ran) → Runs n d domains tables before after requests s r
    → NoneIf (run_refusal n d domains tables before requests s.counts.steps.0 s.counts.checks.0 s.subproblems) r

abbrev pub NoneIfChoose : Type 0
NoneIfChoose =
    (n d : ℕ) (domains tables before after : List ℕ) (limit : ℕ) (s : State) (r : Ran) → Chooses n d domains tables before after limit s r
    → NoneIf (search_refusal n d domains tables before s.counts.steps.0 s.counts.checks.0 s.subproblems) r

-- The refusal returned, exactly: 1 to 6 are those of the first checks. A later number is given exactly if they pass, the search that is left runs, fewer
-- than `most` requests were taken, and it is the refusal of the request that is next, by that search.
abbrev pub ExactRefusal : (first most : ℕ) → (Ran → ℕ) → Ran → Type 0
ExactRefusal first most next r =
    ((k : ℕ) → 1 ≤ k → k ≤ 6 → (r.refusal ≡ k) ↔ (first ≡ k))
    × ((k : ℕ) → 7 ≤ k → (r.refusal ≡ k) ↔ ((first ≡ 0) × (number_of r.verdict ≡ 1) × (r.taken < most) × (next r ≡ k)))

-- Of a run the next is the first request not taken.
abbrev pub RunExact : Type 0
RunExact =
    (n d : ℕ) (domains tables before after requests : List ℕ) (s : State) (r : Ran) → Runs n d domains tables before after requests s r →
    let p : Problem = problem_of n d domains tables in
    let room : ℕ = slots_in n (length before) in
    let rs : List (List ℕ) = requests_in n requests in
    ExactRefusal (run_refusal n d domains tables before requests s.counts.steps.0 s.counts.checks.0 s.subproblems) (length rs)
    (λ x. refusal_of_request p (slots room) (get_or rs x.taken []) (run p (slots room) rs (search_of n before s)).search) r

-- Of the chooser the next is what it chooses for the search that is left.
abbrev pub ChooseExact : Type 0
ChooseExact =
    (n d : ℕ) (domains tables before after : List ℕ) (limit : ℕ) (s : State) (r : Ran) → Chooses n d domains tables before after limit s r →
    let p : Problem = problem_of n d domains tables in
    let room : ℕ = slots_in n (length before) in
    let left : Search = (choose p (slots room) limit (search_of n before s)).search in
    ExactRefusal (search_refusal n d domains tables before s.counts.steps.0 s.counts.checks.0 s.subproblems) limit
    (λ x. refusal_of_request p (slots room) (chosen p (slots room) left.memory) left) r

-- ---- the marked cases

-- The requests, run from opening with 512 slots, are all taken and end as the case says.
pub record EndsSo (c : Case) : Type 0 where
  pub stops : run (problem_in c) (slots 512) c.requests (begun c.n c.domains)
      ≡ stop (record { memory = expected c; steps = c.steps; checks = c.checks }) 0 (length c.requests)
  pub verdict : number_of (verdict_of c.n (expected c)) ≡ c.verdict
  pub sizes : map (size_of c.n) (expected c) ≡ c.sizes

-- Every one of 01's marked cases does.
abbrev pub MarkedCases : Type 0
MarkedCases = (c : Case) → Memᴰ c cases → EndsSo c

-- ---- five wrong planners

-- At a named input: two variables, d 2, domains {0} and {0, 1}, unequal; an agenda of two slots as opening leaves it; the requests kind 1 on 0, then
-- kind 3 on V 1, v 0. A planner leaves the agenda `after` and returns r, and these satisfy the statement of a run.
abbrev pub Right : List ℕ → Ran → Type 0
Right after r =
    Runs 2 2 (1 ∷ 3 ∷ []) (0 ∷ 0 ∷ 2 ∷ 1 ∷ 2 ∷ 1 ∷ 0 ∷ 0 ∷ []) (1 ∷ 3 ∷ 0 ∷ 0 ∷ 0 ∷ 0 ∷ 0 ∷ 0 ∷ []) after
    (1 ∷ 0 ∷ 0 ∷ 0 ∷ 0 ∷ 3 ∷ 1 ∷ 0 ∷ 0 ∷ 0 ∷ []) (fresh 1) r

-- What is left and returned there, exactly: both requests are taken, and 1,2 with 0 marked is left, after 2 steps and 1 check.
abbrev pub RightOnly : Type 0
RightOnly =
    (after : List ℕ) (r : Ran) → Right after r
    → (after ≡ 1 ∷ 2 ∷ 0 ∷ 1 ∷ 0 ∷ 0 ∷ 0 ∷ 0 ∷ []) × (number_of r.verdict ≡ 1) × (r.refusal ≡ 0) × (r.taken ≡ 2) × (r.state.counts.steps.0 ≡ 2)
    × (r.state.counts.checks.0 ≡ 1) × (r.state.subproblems ≡ 1)

-- One that only refuses does not satisfy it.
abbrev pub NotOnlyRefuses : Type 0
NotOnlyRefuses = (after : List ℕ) (r : Ran) → (r.refusal ≡ 0 → ⊥) → Right after r → ⊥

-- One that always says unsolvable.
abbrev pub NotAlwaysUnsolvable : Type 0
NotAlwaysUnsolvable = (after : List ℕ) (r : Ran) → number_of r.verdict ≡ 3 → Right after r → ⊥

-- One that takes requests and changes nothing.
abbrev pub NotIdle : Type 0
NotIdle = (r : Ran) → Right (1 ∷ 3 ∷ 0 ∷ 0 ∷ 0 ∷ 0 ∷ 0 ∷ 0 ∷ []) r → ⊥

-- One that solves wholly in its first step and then idles: it says solved, or leaves both variables instantiated in either slot, whatever it says.
abbrev pub NotSolvedAtOnce : Type 0
NotSolvedAtOnce = (after : List ℕ) (r : Ran) → (number_of r.verdict ≡ 2) ⊎ (get_or after 3 0 ≡ 3) ⊎ (get_or after 7 0 ≡ 3) → Right after r → ⊥

-- One with invented counts: other than 2 steps, or other than 1 check.
abbrev pub NotInvented : Type 0
NotInvented =
    (after : List ℕ) (r : Ran) → (r.state.counts.steps.0 ≡ 2 → ⊥) ⊎ (r.state.counts.checks.0 ≡ 1 → ⊥) → Right after r → ⊥

-- ---- the first checks

-- Of opening, in the order 1 to 5: n not 1 to 32; d not 1 to 16; the lengths; a bit at d or above; a pair allowed one way only.
abbrev pub open_table : ℕ → ℕ → List ℕ → List ℕ → List ℕ → Refusals
open_table n d domains tables agenda =
    (1, Deserves1 n) ∷ (2, Deserves2 d) ∷ (3, Deserves3 n d domains tables agenda) ∷ (4, Deserves4 (problem_of n d domains tables))
    ∷ (5, Deserves5 (problem_of n d domains tables)) ∷ []

abbrev pub OpenRefusals : Type 0
OpenRefusals =
    (n d : ℕ) (domains tables agenda : List ℕ) → FirstOf (open_table n d domains tables agenda) (open_refusal n d domains tables agenda)

-- Of the chooser and save, in the order 1 to 6: 6 is what the search breaks.
abbrev pub search_table : ℕ → ℕ → List ℕ → List ℕ → List ℕ → ℕ → ℕ → ℕ → Refusals
search_table n d domains tables agenda steps checks subproblems =
    (1, Deserves1 n) ∷ (2, Deserves2 d) ∷ (3, Deserves3 n d domains tables agenda) ∷ (4, Deserves4 (problem_of n d domains tables))
    ∷ (5, Deserves5 (problem_of n d domains tables)) ∷ (6, Deserves6 (problem_of n d domains tables) agenda steps checks subproblems) ∷ []

abbrev pub SearchRefusals : Type 0
SearchRefusals =
    (n d : ℕ) (domains tables agenda : List ℕ) (steps checks subproblems : ℕ)
    → FirstOf (search_table n d domains tables agenda steps checks subproblems) (search_refusal n d domains tables agenda steps checks subproblems)

-- Of a run, in the same order: its list of requests is part of 3.
abbrev pub run_table : ℕ → ℕ → List ℕ → List ℕ → List ℕ → List ℕ → ℕ → ℕ → ℕ → Refusals
run_table n d domains tables agenda requests steps checks subproblems =
    (1, Deserves1 n) ∷ (2, Deserves2 d) ∷ (3, Deserves3Run n d domains tables agenda requests) ∷ (4, Deserves4 (problem_of n d domains tables))
    ∷ (5, Deserves5 (problem_of n d domains tables)) ∷ (6, Deserves6 (problem_of n d domains tables) agenda steps checks subproblems) ∷ []

abbrev pub RunRefusals : Type 0
RunRefusals =
    (n d : ℕ) (domains tables agenda requests : List ℕ) (steps checks subproblems : ℕ)
    → FirstOf (run_table n d domains tables agenda requests steps checks subproblems)
    (run_refusal n d domains tables agenda requests steps checks subproblems)

-- ---- each part by itself

-- The lengths pass exactly when 3 is not deserved.
abbrev pub LengthsPass : Type 0
LengthsPass =
    (n d : ℕ) (domains tables agenda : List ℕ)
    → (refusal_of_lengths n d (length domains) (length tables) (length agenda) ≡ 0) ↔ (Deserves3 n d domains tables agenda → ⊥)

-- The request list passes exactly when it is whole requests.
abbrev pub RequestsPass : Type 0
RequestsPass = (n words : ℕ) → (refusal_of_requests n words ≡ 0) ↔ WholeRequests n words

-- The search passes, of a proper problem, exactly when 6 is not deserved.
abbrev pub SearchPass : Type 0
SearchPass =
    (p : Problem) (agenda : List ℕ) (steps checks subproblems : ℕ) → Proper p
    → (refusal_of_search p agenda steps checks subproblems ≡ 0) ↔ (Deserves6 p agenda steps checks subproblems → ⊥)

-- ---- a variable with itself

-- The places for i with itself are never read: no refusal of opening depends on them.
abbrev pub OpenApart : Type 0
OpenApart =
    (n d : ℕ) (domains tables others agenda : List ℕ) → AgreeApart n d tables others
    → open_refusal n d domains tables agenda ≡ open_refusal n d domains others agenda

-- Nor one of the chooser and save.
abbrev pub SearchApart : Type 0
SearchApart =
    (n d : ℕ) (domains tables others agenda : List ℕ) (steps checks subproblems : ℕ) → AgreeApart n d tables others
    → search_refusal n d domains tables agenda steps checks subproblems ≡ search_refusal n d domains others agenda steps checks subproblems

-- Nor one of a run.
abbrev pub RunApart : Type 0
RunApart =
    (n d : ℕ) (domains tables others agenda requests : List ℕ) (steps checks subproblems : ℕ) → AgreeApart n d tables others
    → run_refusal n d domains tables agenda requests steps checks subproblems ≡ run_refusal n d domains others agenda requests steps checks subproblems

-- ---- one answer

-- A state of no steps.
abbrev pub FreshOne : Type 0
FreshOne = (subproblems : ℕ) → One (Fresh subproblems)

-- The numbers and how many words are lent.
abbrev pub SizesRefusalOne : Type 0
SizesRefusalOne = (n d domains tables agenda : ℕ) → OneTold (λ k. k ≡ sizes_refusal n d domains tables agenda)

-- The first checks of opening.
abbrev pub OpenRefusalOne : Type 0
OpenRefusalOne = (n d : ℕ) (domains tables agenda : List ℕ) → OneTold (λ k. k ≡ open_refusal n d domains tables agenda)

-- The first checks of the chooser and of save.
abbrev pub SearchRefusalOne : Type 0
SearchRefusalOne =
    (n d : ℕ) (domains tables agenda : List ℕ) (steps checks subproblems : ℕ)
    → OneTold (λ k. k ≡ search_refusal n d domains tables agenda steps checks subproblems)

-- The first checks of a run.
abbrev pub RunRefusalOne : Type 0
RunRefusalOne =
    (n d : ℕ) (domains tables agenda requests : List ℕ) (steps checks subproblems : ℕ)
    → OneTold (λ k. k ≡ run_refusal n d domains tables agenda requests steps checks subproblems)

-- Opening: no two differing results, and no two differing agendas at exit, satisfy its statement at one input.
abbrev pub OpenOne : Type 0
OpenOne =
    (n d : ℕ) (domains tables before after after' : List ℕ) (r s : Opened) → Opens n d domains tables before after r
    → Opens n d domains tables before after' s → (r ≡ s) × (after ≡ after')

-- A run.
abbrev pub RunOne : Type 0
RunOne =
    (n d : ℕ) (domains tables before after after' requests : List ℕ) (s : State) (r q : Ran) → Runs n d domains tables before after requests s r
    → Runs n d domains tables before after' requests s q → (r ≡ q) × (after ≡ after')

-- The chooser.
abbrev pub ChooseOne : Type 0
ChooseOne =
    (n d : ℕ) (domains tables before after after' : List ℕ) (limit : ℕ) (s : State) (r q : Ran) → Chooses n d domains tables before after limit s r
    → Chooses n d domains tables before after' limit s q → (r ≡ q) × (after ≡ after')
