-- What a search promises over any machine: of the stack that its memory reads as and of its two counts. Stated here, proved in proofs/Promises.antt.
use Rattle.std.specs.Prelude.{◌≡◌, ◌⊎◌, ◌↔◌, true, ℕ, zero, suc, ◌+◌, ◌-◌, ◌*◌, ◌≤◌, ◌<◌, length, get_or, take, drop}
use mathlib.Core.List.{List, Memᴰ, [], ◌∷◌, ◌++◌}
use Rattle.problem.specs.Masks.{single, size, lowest, LowestIn}
use Rattle.problem.specs.Problem.{Problem, Proper, Solution, possibilities}
use Rattle.splits.specs.Subproblems.{domain, Instantiated}
use Rattle.splits.specs.Requests.{kind_of, variable_of, value_of}
use Rattle.splits.specs.Splits.{precluded}
use Rattle.problem.specs.Refusing.{FirstOf}
use Rattle.splits.specs.Refusals.{Accepted}
use Rattle.splitting.specs.Promises.{Solvable}
use Rattle.splits.specs.declared.subproblem.Subproblem.{Subproblem}
use Rattle.searches.specs.Verdicts.{number_of, verdict_of}
use Rattle.searches.specs.Machines.{Machine, Lawful, stacks}
use Rattle.searches.specs.Steps.{Search, Stopped, stop, then, step, refusals_of_request}
use Rattle.searches.specs.Tests.Refusal.{refusal_of_request}
use Rattle.searches.specs.Runs.{run}
use Rattle.searches.specs.Chooser.{request, request_for, chosen, choose}
use Rattle.searches.specs.Reached.{Passes, Opening, Reached}

-- ---- the verdict

-- Unsolvable when the agenda is empty.
abbrev pub UnsolvableIf : Type 0
UnsolvableIf = (n : ℕ) (S : List Subproblem) → (number_of (verdict_of n S) ≡ 3) ↔ (S ≡ [])

-- Solved when the top subproblem has every variable instantiated.
abbrev pub SolvedIf : Type 0
SolvedIf =
    (n : ℕ) (P : Subproblem) (S : List Subproblem) → (number_of (verdict_of n (P ∷ S)) ≡ 2) ↔ ((i : ℕ) → i < n → Instantiated P i)

-- Otherwise running.
abbrev pub RunningIf : Type 0
RunningIf =
    (n : ℕ) (S : List Subproblem) → (number_of (verdict_of n S) ≡ 1) ↔ ((number_of (verdict_of n S) ≡ 3 → ⊥) × (number_of (verdict_of n S) ≡ 2 → ⊥))

-- The top of a stack shows a solution of the problem: it has one value for each variable, and these are one.
abbrev pub Shown : Problem → List Subproblem → Type 0
Shown p stack =
    (P : Subproblem) × (S : List Subproblem) × (stack ≡ P ∷ S)
    × ((i : ℕ) → i < p.n → domain P i ≡ single (lowest (domain P i)))
    × Solution p.n p.allowed p.domain (λ i. lowest (domain P i))

-- A solved search shows one.
abbrev pub SolvedShows : Type 1
SolvedShows =
    (p : Problem) (M : Machine) (s : Search M.Memory) → Passes p M s → number_of (verdict_of p.n (M.stack p s.memory)) ≡ 2
    → Shown p (M.stack p s.memory)

-- ---- refusals of a request

-- Of 11, 7, 8, 9, 10 and 12 the first that is deserved; 12 where the machine is full.
abbrev pub RequestRefusals : Type 1
RequestRefusals =
    (p : Problem) (M : Machine) (P : Subproblem) (S : List Subproblem) (s : Search M.Memory) (r : List ℕ) → M.stack p s.memory ≡ P ∷ S
    → FirstOf (refusals_of_request p s.steps P r (M.full p r s.memory ≡ true)) (refusal_of_request p M r s)

-- ---- a run

-- Where a run of the requests rs stopped, x: the search is finished, a request is refused, or none is left.
pub record Finished (p : Problem) (M : Machine) (x : Stopped M.Memory) : Type 0 where
  pub verdict : number_of (verdict_of p.n (M.stack p x.search.memory)) ≡ 1 → ⊥
  pub refusal : x.refusal ≡ 0

pub record Refused (p : Problem) (M : Machine) (rs : List (List ℕ)) (x : Stopped M.Memory) : Type 0 where
  pub verdict : number_of (verdict_of p.n (M.stack p x.search.memory)) ≡ 1
  pub request : x.taken < length rs
  pub refusal : x.refusal ≡ refusal_of_request p M (get_or rs x.taken []) x.search
  pub refused : x.refusal ≡ 0 → ⊥

pub record Ended {Memory : Type 0} (rs : List (List ℕ)) (x : Stopped Memory) : Type 0 where
  pub refusal : x.refusal ≡ 0
  pub taken : x.taken ≡ length rs

-- A run stops in one of these ways, and takes no more requests than there are.
abbrev pub Stops : Type 1
Stops =
    (p : Problem) (M : Machine) (rs : List (List ℕ)) (s : Search M.Memory)
    → ((run p M rs s).taken ≤ length rs)
    × (Finished p M (run p M rs s) ⊎ Refused p M rs (run p M rs s) ⊎ Ended rs (run p M rs s))

-- It leaves the state after the requests taken: the run of these alone ends with the same search, none refused.
abbrev pub Taken : Type 1
Taken =
    (p : Problem) (M : Machine) (rs : List (List ℕ)) (s : Search M.Memory) →
    let a : Stopped M.Memory = run p M rs s in
    run p M (take a.taken rs) s ≡ stop a.search 0 a.taken

-- Each request taken is one step: the counter counts what was accepted.
abbrev pub StepsCount : Type 1
StepsCount =
    (p : Problem) (M : Machine) (rs : List (List ℕ)) (s : Search M.Memory) → (run p M rs s).search.steps ≡ s.steps + (run p M rs s).taken

-- On a finished search a run takes none and returns refusal 0.
abbrev pub TakesNone : Type 1
TakesNone =
    (p : Problem) (M : Machine) (rs : List (List ℕ)) (s : Search M.Memory) → (number_of (verdict_of p.n (M.stack p s.memory)) ≡ 1 → ⊥)
    → run p M rs s ≡ stop s 0 0

-- A run of two lists is the run of the first, then of what it did not take, at every way it can stop.
abbrev pub TwoLists : Type 1
TwoLists =
    (p : Problem) (M : Machine) (rs qs : List (List ℕ)) (s : Search M.Memory) →
    let a : Stopped M.Memory = run p M rs s in
    run p M (rs ++ qs) s ≡ then a (run p M (drop a.taken (rs ++ qs)) a.search)

-- ---- the house chooser

-- The requests that the rule picks, one after another, each picked of the search that the ones before it leave.
unfoldable pub picks : (p : Problem) (M : Machine) → ℕ → Search M.Memory → List (List ℕ)
picks p M zero s = []
picks p M (suc m) s = chosen p M s.memory ∷ picks p M m (step p M (chosen p M s.memory) s)

-- The chooser of two limits is the chooser of the first, then of what it did not take, at every way it can stop.
abbrev pub ChooseTwo : Type 1
ChooseTwo =
    (p : Problem) (M : Machine) (m k : ℕ) (s : Search M.Memory) →
    let a : Stopped M.Memory = choose p M m s in
    choose p M (m + k) s ≡ then a (choose p M ((m + k) - a.taken) a.search)

-- Where the chooser stopped that was given a limit, x: at a verdict other than running, at the first choice that is refused, or at its limit.
pub record ChoiceRefused (p : Problem) (M : Machine) (limit : ℕ) (x : Stopped M.Memory) : Type 0 where
  pub verdict : number_of (verdict_of p.n (M.stack p x.search.memory)) ≡ 1
  pub below : x.taken < limit
  pub refusal : x.refusal ≡ refusal_of_request p M (chosen p M x.search.memory) x.search
  pub refused : x.refusal ≡ 0 → ⊥

pub record AtLimit {Memory : Type 0} (limit : ℕ) (x : Stopped Memory) : Type 0 where
  pub refusal : x.refusal ≡ 0
  pub taken : x.taken ≡ limit

abbrev pub ChooserStops : Type 1
ChooserStops =
    (p : Problem) (M : Machine) (limit : ℕ) (s : Search M.Memory)
    → ((choose p M limit s).taken ≤ limit)
    × (Finished p M (choose p M limit s) ⊎ ChoiceRefused p M limit (choose p M limit s) ⊎ AtLimit limit (choose p M limit s))

-- The chooser, up to a number of steps, is a run of so many picks; where it stops earlier, the rest are not taken.
abbrev pub Picks : Type 1
Picks = (p : Problem) (M : Machine) (limit : ℕ) (s : Search M.Memory) → choose p M limit s ≡ run p M (picks p M limit s) s

-- Of the variables not instantiated V has the fewest values, and the lowest number of those that have as few.
pub record Fewest (n : ℕ) (P : Subproblem) (V' : ℕ) : Type 0 where
  pub variable : V' < n
  pub uninstantiated : Instantiated P V' → ⊥
  pub fewest : (i : ℕ) → i < n → (Instantiated P i → ⊥) → size (domain P V') ≤ size (domain P i)
  pub first : (i : ℕ) → i < V' → (Instantiated P i → ⊥) → size (domain P V') < size (domain P i)

-- The precluded piece is empty, or kind 3 has no room.
abbrev pub TwoOnly : Problem → (List ℕ → Type 0) → Subproblem → ℕ → ℕ → Type 0
TwoOnly p No-room P V' v = ((i : ℕ) × (i < p.n) × (domain (precluded p.n p.allowed P V' v) i ≡ 0)) ⊎ No-room (request 3 V' v)

-- The request r is the one that the rule chooses for P, `No-room` being said of requests.
pub record Chosen (p : Problem) (No-room : List ℕ → Type 0) (P : Subproblem) (r : List ℕ) : Type 0 where
  pub variable : Fewest p.n P (variable_of r)
  pub value : LowestIn (domain P (variable_of r)) (value_of r)
  pub kind : ((kind_of r ≡ 2) × TwoOnly p No-room P (variable_of r) (value_of r))
      ⊎ ((kind_of r ≡ 3) × (TwoOnly p No-room P (variable_of r) (value_of r) → ⊥))

-- Of any passing, running search with P on top, something said of P, of the requests that find no room, and of the request chosen.
abbrev pub ChoosesAlways : (Problem → (List ℕ → Type 0) → Subproblem → List ℕ → Type 0) → Type 1
ChoosesAlways Said =
    (p : Problem) (M : Machine) (P : Subproblem) (S : List Subproblem) (s : Search M.Memory) → Passes p M s → M.stack p s.memory ≡ P ∷ S
    → number_of (verdict_of p.n (M.stack p s.memory)) ≡ 1 → Said p (λ r. M.full p r s.memory ≡ true) P (chosen p M s.memory)

-- It is the one that the rule chooses.
abbrev pub ChosenSo : Type 1
ChosenSo = ChoosesAlways Chosen

-- It deserves none of 7 to 10.
abbrev pub ChosenAccepted : Type 1
ChosenAccepted = ChoosesAlways (λ p No-room P r. Accepted p.n p.d P r)

-- The chooser meets only 11 and 12.
abbrev pub ChooserRefusals : Type 1
ChooserRefusals =
    (p : Problem) (M : Machine) → Lawful M → (limit : ℕ) (s : Search M.Memory) → Passes p M s →
    let k : ℕ = (choose p M limit s).refusal in (k ≡ 0) ⊎ (k ≡ 11) ⊎ (k ≡ 12)

-- ---- what is left passes

-- What a step, a run or the chooser leaves of a passing search passes.
abbrev pub StepPasses : Type 1
StepPasses =
    (p : Problem) (M : Machine) → Lawful M → (P : Subproblem) (S : List Subproblem) (s : Search M.Memory) (r : List ℕ) → Passes p M s
    → M.stack p s.memory ≡ P ∷ S → refusal_of_request p M r s ≡ 0 → Passes p M (step p M r s)

abbrev pub RunPasses : Type 1
RunPasses =
    (p : Problem) (M : Machine) → Lawful M → (rs : List (List ℕ)) (s : Search M.Memory) → Passes p M s → Passes p M (run p M rs s).search

abbrev pub ChooserPasses : Type 1
ChooserPasses =
    (p : Problem) (M : Machine) → Lawful M → (limit : ℕ) (s : Search M.Memory) → Passes p M s → Passes p M (choose p M limit s).search

-- ---- searches begun by opening

-- The problem has a solution.
abbrev pub HasSolution : Problem → Type 0
HasSolution p = (f : ℕ → ℕ) × Solution p.n p.allowed p.domain f

-- Of every reached search of a proper problem, on lawful machines, something said of the problem, the machine and the search.
abbrev pub Reaches : ((p : Problem) (M : Machine) → Search M.Memory → Type 0) → Type 1
Reaches Said =
    (M : ℕ → Machine) → ((room : ℕ) → Lawful (M room)) → (p : Problem) (start : List Subproblem) → Proper p → Opening p start
    → (room : ℕ) (s : Search (M room).Memory) → Reached M p start room s → Said p (M room) s

-- It passes.
abbrev pub ReachedPasses : Type 1
ReachedPasses = Reaches Passes

-- Its checks are at most 496 × steps.
abbrev pub ReachedChecks : Type 1
ReachedChecks = Reaches (λ p M s. s.checks ≤ 496 * s.steps)

-- The problem is solvable exactly if some subproblem on the agenda is.
abbrev pub ReachedSolvable : Type 1
ReachedSolvable = Reaches (λ p M s. HasSolution p ↔ ((P : Subproblem) × Memᴰ P (M.stack p s.memory) × Solvable p P))

-- Unsolvable means that the problem has no solution.
abbrev pub ReachedUnsolvable : Type 1
ReachedUnsolvable = Reaches (λ p M s. number_of (verdict_of p.n (M.stack p s.memory)) ≡ 3 → HasSolution p → ⊥)

-- With S possibilities, `count` here, at most S × (n + 1) − 1 steps were taken, none where S is 0; hence at most S × (n + 2).
abbrev pub Limited : Problem → ℕ → Type 0
Limited p steps =
    let count : ℕ = possibilities p.n p.domain in
    (steps ≤ count * (p.n + 1) - 1) × (count ≡ 0 → steps ≡ 0) × (steps ≤ count * (p.n + 2))

abbrev pub ReachedSteps : Type 1
ReachedSteps = Reaches (λ p M s. Limited p s.steps)

-- ---- two machines

-- Two searches, each on its own machine, that read as one stack and have equal counts.
pub record Alike (p : Problem) (M N : Machine) (s : Search M.Memory) (t : Search N.Memory) : Type 0 where
  pub stack : M.stack p s.memory ≡ N.stack p t.memory
  pub steps : s.steps ≡ t.steps
  pub checks : s.checks ≡ t.checks

-- Two stops with one verdict, one refusal and as many taken, at searches so alike.
pub record StopAlike (p : Problem) (M N : Machine) (x : Stopped M.Memory) (y : Stopped N.Memory) : Type 0 where
  pub verdict : verdict_of p.n (M.stack p x.search.memory) ≡ verdict_of p.n (N.stack p y.search.memory)
  pub refusal : x.refusal ≡ y.refusal
  pub taken : x.taken ≡ y.taken
  pub search : Alike p M N x.search y.search

-- Runs of one list stop alike where neither is refused by 12.
abbrev pub RunsAlike : Type 1
RunsAlike =
    (p : Problem) (M N : Machine) → Lawful M → Lawful N → (rs : List (List ℕ)) (s : Search M.Memory) (t : Search N.Memory)
    → M.Fits p s.memory → N.Fits p t.memory → Alike p M N s t
    → ((run p M rs s).refusal ≡ 12 → ⊥) → ((run p N rs t).refusal ≡ 12 → ⊥) → StopAlike p M N (run p M rs s) (run p N rs t)

-- For want of room the chooser is never turned to kind 2: wherever it comes in so many steps, kind 2 has no room where kind 3 has none. So it is where
-- the machine is never full, and on a machine that is full for both or for neither.
abbrev pub Unturned : (p : Problem) (M : Machine) → ℕ → Search M.Memory → Type 0
Unturned p M limit s =
    (k : ℕ) → k < limit → (P : Subproblem) (S : List Subproblem) →
    let m : M.Memory = (choose p M k s).search.memory in
    M.stack p m ≡ P ∷ S → M.full p (request_for p P 3) m ≡ true → M.full p (request_for p P 2) m ≡ true

-- Choosers of one limit that are not so turned stop alike where neither is refused by 12.
abbrev pub ChoosersAlike : Type 1
ChoosersAlike =
    (p : Problem) (M N : Machine) → Lawful M → Lawful N → (limit : ℕ) (s : Search M.Memory) (t : Search N.Memory)
    → Passes p M s → Passes p N t → Alike p M N s t → Unturned p M limit s → Unturned p N limit t
    → ((choose p M limit s).refusal ≡ 12 → ⊥) → ((choose p N limit t).refusal ≡ 12 → ⊥) → StopAlike p M N (choose p M limit s) (choose p N limit t)

-- ---- a machine and the stack itself

-- The stack without a limit keeps the law.
abbrev pub StacksLawful : Type 0
StacksLawful = Lawful stacks

-- The search on it that a search reads as.
abbrev pub read_out : (p : Problem) (M : Machine) → Search M.Memory → Search (List Subproblem)
read_out p M s = record { memory = M.stack p s.memory; steps = s.steps; checks = s.checks }

-- A run on a machine that is not refused by 12 stops as on the stack without a limit: so it reads after every request taken.
abbrev pub RunReads : Type 1
RunReads =
    (p : Problem) (M : Machine) → Lawful M → (rs : List (List ℕ)) (s : Search M.Memory) → M.Fits p s.memory
    → ((run p M rs s).refusal ≡ 12 → ⊥) → StopAlike p M stacks (run p M rs s) (run p stacks rs (read_out p M s))

-- So does the chooser, where it is not turned to kind 2 for want of room.
abbrev pub ChooserReads : Type 1
ChooserReads =
    (p : Problem) (M : Machine) → Lawful M → (limit : ℕ) (s : Search M.Memory) → Passes p M s → Unturned p M limit s
    → ((choose p M limit s).refusal ≡ 12 → ⊥) → StopAlike p M stacks (choose p M limit s) (choose p stacks limit (read_out p M s))
