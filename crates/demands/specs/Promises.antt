-- The three demands of docs/RULES.md, stated once of any calls and held by both: those of Rattle, on words, and those for C, on bytes. D1.1 is the language's.
use Rattle.std.specs.Prelude.{◌≡◌, ◌⊎◌, ◌↔◌, ℕ, ◌+◌, ◌-◌, ◌*◌, ◌/◌, ◌%◌, ◌≤◌, ◌<◌, min, length, get_or, take, drop}
use mathlib.Core.List.{List, Memᴰ, [], ◌∷◌, ◌++◌}
use Rattle.problem.specs.Problem.{Problem, problem_of, possibilities, Words}
use Rattle.problem.specs.FirstChecks.{Deserves1, Deserves2, Deserves4, Deserves5}
use Rattle.problem.specs.Refusing.{Refusals, FirstOf}
use Rattle.splits.specs.Splits.{pieces}
use Rattle.splits.specs.declared.subproblem.Subproblem.{Subproblem}
use Rattle.splitting.specs.Promises.{Solvable}
use Rattle.searches.specs.Steps.{refusals_of_request}
use Rattle.searches.specs.Runs.{requests_in}
use Rattle.searches.specs.Promises.{HasSolution, Shown, picks}
use Rattle.search.specs.Slots.{slots, Search, Deserves12}
use Rattle.search.specs.FirstChecks.{Deserves3Run, Deserves6}
use Rattle.search.specs.Calls.{search_of, Opens, Runs, Chooses}
use Rattle.search.specs.Outcomes.{Ran}
use Rattle.blocks.specs.Reading.{Deserves14}
use Rattle.files.specs.Reading.{said_n, said_d, Deserves15}
use Rattle.files.specs.Calls.{Deserves12Load, Deserves13, Saves, Loads}
use Rattle.files.specs.Promises.{Lived}
use Rattle.word_bytes.specs.Bytes.{Bytes, words_of}
use Rattle.console.specs.Calls.{HandsOut, OpensForC, SavesForC, LoadsForC}
use Rattle.console.specs.Searches.{Held, state_in, Lent, Typed, Outcome, Way, by_requests, by_chooser, GoesOn, LivedForC}

-- An Outcome: what is held then, the verdict (0 none, 1 running, 2 solved, 3 unsolvable), the requests or steps of the house chooser taken, the refusal.
pub record Calls : Type 1 where
  pub wide : ℕ  -- The places that a word takes in a list.
  pub words : List ℕ → List ℕ  -- The words that a list says.
  pub Opening : (m : Lent) (left : Held) (refusal : ℕ) → Type 0
  pub GoingOn : (m : Lent) (way : Way) (o : Outcome) → Type 0
  pub Saving : (m : Lent) (h : Held) (file after : List ℕ) (blocks refusal : ℕ) → Type 0
  pub Loading : (file : List ℕ) (m left : Lent) (refusal : ℕ) → Type 0
  pub Begun : (opened : List ℕ) (m : Lent) → Type 0  -- An opening of these tables began it; those in memory may differ at a variable with itself.

abbrev pub Goes : Lent → Way → List ℕ → Ran → Type 0
Goes m (by_requests l) after r = Runs m.n m.d m.domains m.tables m.held.agenda after l (state_in m.held) r
Goes m (by_chooser k) after r = Chooses m.n m.d m.domains m.tables m.held.agenda after k (state_in m.held) r

abbrev pub rattle : Calls
rattle = record {
  wide = 1;
  words = λ l. l;
  Opening = λ m x k. Opens m.n m.d m.domains m.tables m.held.agenda x.agenda (record { refusal = k; state = state_in x });
  GoingOn = λ m way o. (r : Ran) × HandsOut r o.held.steps o.held.checks o.held.subproblems o.verdict o.taken o.refusal
      × Goes m way o.held.agenda r × (Words m.held.agenda × (m.held.steps ≤ 4294967295));
  Saving = λ m h file after b k. Saves m.n m.d m.domains m.tables h.agenda (state_in h) file after (record { refusal = k; blocks = b });
  Loading = λ file m x k. Loads file m.domains x.domains m.tables x.tables m.held.agenda x.held.agenda
      (record { refusal = k; n = x.n; d = x.d; state = state_in x.held });
  Begun = λ opened m. Lived m.n m.d m.domains opened m.tables m.held.agenda (state_in m.held);
}

abbrev pub for_c : Calls
for_c = record {
  wide = 2;
  words = words_of;
  Opening = λ m x k. OpensForC m.n m.d m.domains m.tables m.held.agenda x.agenda x.steps x.checks x.subproblems k × Bytes m.held.agenda;
  GoingOn = λ m way o. GoesOn m.n m.d m.domains m.tables m.held way o × Typed m.held;
  Saving = λ m h file after b k. SavesForC m.n m.d m.domains m.tables h.agenda h.steps h.checks h.subproblems file after b k;
  Loading = λ file m x k. LoadsForC file m.domains x.domains m.tables x.tables m.held.agenda x.held.agenda x.n x.d
      x.held.steps x.held.checks x.held.subproblems k × (Bytes m.domains × Bytes m.tables × Bytes m.held.agenda);
  Begun = λ opened m. LivedForC m.n m.d m.domains opened m.tables m.held;
}

module _ (c : Calls) where  -- A problem, a search held, the requests that a way asks for, of the chooser those that its rule picks, and the first k of a way.
  abbrev pub problem : Lent → List ℕ → Problem
  problem m tables = problem_of m.n m.d (c.words m.domains) (c.words tables)

  abbrev pub search : Lent → Held → Search
  search m h = search_of m.n (c.words h.agenda) (state_in h)

  abbrev pub asked : Lent → Way → List (List ℕ)
  asked m (by_requests l) = requests_in m.n (c.words l)
  asked m (by_chooser k) = picks (problem m m.tables) (slots (length (c.words m.held.agenda) / (m.n + 2))) k (search m m.held)

  abbrev pub front : ℕ → ℕ → Way → Way
  front n k way = elim way [ by_requests l ↦ by_requests (take (c.wide * (k * (n + 3))) l) | by_chooser j ↦ by_chooser (min k j) ]

  abbrev pub Deserves3 : ℕ → ℕ → Lent → List ℕ → Type 0  -- A list that is not whole words deserves it too.
  Deserves3 n d m l = Deserves3Run n d (c.words m.domains) (c.words m.tables) (c.words m.held.agenda) (c.words l)
      ⊎ (length m.domains % c.wide + length m.tables % c.wide + length m.held.agenda % c.wide + length l % c.wide ≡ 0 → ⊥)

  abbrev pub checks : Lent → List ℕ → Refusals → Refusals  -- 1 to 5 in their order, and more.
  checks m l more = (1, Deserves1 m.n) ∷ (2, Deserves2 m.d) ∷ (3, Deserves3 m.n m.d m l)
      ∷ (4, Deserves4 (problem m m.tables)) ∷ (5, Deserves5 (problem m m.tables)) ∷ more

  -- D3.4 to D3.7: a way cut at any places: the call to a cut, a save in a buffer long enough, a load of these blocks in as long an agenda, and what is not taken.
  pub data Journey : (m : Lent) (way : Way) (refused taken : ℕ) (end : Outcome) → Type 0 where  -- The refusals of saves and loads are added up, and what is taken.
    uncut : {m : Lent} {way : Way} {o : Outcome} → c.GoingOn m way o → Journey m way 0 o.taken o
    cut : {m x y : Lent} {way : Way} {o end : Outcome} {file after : List ℕ} {b i j refused taken : ℕ} (k : ℕ) → c.GoingOn m (front m.n k way) o
        → c.Saving m o.held file after b i → c.Loading (take (512 * b) after) x y j
        → (Deserves13 m.n m.d (c.words m.domains) (c.words m.tables) (c.words o.held.agenda) (state_in o.held) file → ⊥)
        → (Deserves3 m.n m.d x [] → ⊥) → length x.held.agenda ≡ length m.held.agenda
        → Journey y (elim way [ by_requests l ↦ by_requests (drop (c.wide * (o.taken * (m.n + 3))) l) | by_chooser k ↦ by_chooser (k - o.taken) ]) refused taken end
        → Journey m way (i + (j + refused)) (o.taken + taken) end

  -- Of a call that goes on. D1.2: the number k of its first checks, the refusal where the verdict is none, else 0. D1.3, D1.5: refused so, all is as it was.
  pub record Numbered (m : Lent) (way : Way) (o : Outcome) : Type 0 where
    pub first : (k : ℕ) → (o.verdict ≡ 0 → k ≡ o.refusal) → ((o.verdict ≡ 0 → ⊥) → k ≡ 0)
        → FirstOf (checks m (elim way [ by_requests l ↦ l | by_chooser j ↦ [] ])
        ((6, Deserves6 (problem m m.tables) (c.words m.held.agenda) m.held.steps m.held.checks m.held.subproblems) ∷ [])) k
    pub kept : o.verdict ≡ 0 → (o.refusal ≡ 0 → ⊥) × (o ≡ record { held = m.held; verdict = 0; taken = 0; refusal = o.refusal })
    -- D1.2: later on a request q that is not taken, while the search that is left, P on top of S, runs, has a number: the first of 11, 7, 8, 9, 10, 12. Else none.
    pub next : (P : Subproblem) (S : List Subproblem) → o.verdict ≡ 1 → o.taken < length (asked m way) → (search m o.held).memory ≡ P ∷ S →
        let q : List ℕ = get_or (asked m way) o.taken [] in (o.refusal ≡ 0 → ⊥) × FirstOf (refusals_of_request (problem m m.tables)
        o.held.steps P q (Deserves12 (problem m m.tables) (length (c.words m.held.agenda) / (m.n + 2)) P S q)) o.refusal
    pub none : (o.verdict ≡ 0 → ⊥) → (o.verdict ≡ 1 → o.taken < length (asked m way) → ⊥) → o.refusal ≡ 0
    pub stands : (o.verdict ≡ 0 → ⊥) → (q : Outcome) → c.GoingOn m (front m.n o.taken way) q
        → q ≡ record { held = o.held; verdict = o.verdict; taken = o.taken; refusal = 0 }  -- D1.4: what was taken, alone, leaves the same, unrefused.

  pub record Answered (m : Lent) (way : Way) (o : Outcome) : Type 0 where
    pub step : o.taken ≡ 1 → (P : Subproblem) (S : List Subproblem) → (search m m.held).memory ≡ P ∷ S
        → (search m o.held).memory ≡ pieces m.n (problem m m.tables).allowed P (get_or (asked m way) 0 []) ++ S  -- D2.1: the pieces.
    pub solved : o.verdict ≡ 2 → Shown (problem m m.tables) (search m o.held).memory  -- D2.2: the top shows a plan.
    pub unsolvable : (o.verdict ≡ 0 → ⊥) → (o.verdict ≡ 3) ↔ (o.held.subproblems ≡ 0)  -- D2.3, and D2.5: the first checks pass.

  pub record Demand1 : Type 0 where  -- D1.2, D1.3, D1.5: the number given; and refused, each list is as it was, and each number handed out is 0.
    pub opening : (m : Lent) (x : Held) (k : ℕ) → c.Opening m x k
        → FirstOf (checks m [] []) k × ((k ≡ 0 → ⊥) → x ≡ record { agenda = m.held.agenda; steps = 0; checks = 0; subproblems = 0 })
    pub saving : (m : Lent) (file after : List ℕ) (blocks k : ℕ) → c.Saving m m.held file after blocks k → FirstOf (checks m []
        ((6, Deserves6 (problem m m.tables) (c.words m.held.agenda) m.held.steps m.held.checks m.held.subproblems)
        ∷ (13, Deserves13 m.n m.d (c.words m.domains) (c.words m.tables) (c.words m.held.agenda) (state_in m.held) file) ∷ [])) k
        × ((k ≡ 0 → ⊥) → (after ≡ file) × (blocks ≡ 0))
    pub loading : (file : List ℕ) (m x : Lent) (k : ℕ) → c.Loading file m x k → FirstOf ((14, Deserves14 file) ∷ (15, Deserves15 file)
        ∷ (3, Deserves3 (said_n file) (said_d file) m []) ∷ (12, Deserves12Load file (c.words m.held.agenda)) ∷ []) k × ((k ≡ 0 → ⊥)
        → x ≡ record { n = 0; d = 0; domains = m.domains; tables = m.tables; held = record { agenda = m.held.agenda; steps = 0; checks = 0; subproblems = 0 } })
    pub going_on : (m : Lent) (way : Way) (o : Outcome) → c.GoingOn m way o → Numbered m way o

  pub record Demand2 : Type 0 where  -- D2.4, D2.6: unsolvable means that the problem, as it was opened, has no plan.
    pub going_on : (m : Lent) (way : Way) (o : Outcome) → c.GoingOn m way o → Answered m way o
    pub no_plan : (m : Lent) (way : Way) (o : Outcome) → c.GoingOn m way o → (opened : List ℕ) → c.Begun opened m → o.verdict ≡ 3 → HasSolution (problem m opened) → ⊥

  pub record Demand3 : Type 0 where  -- D3.1, D3.8, D3.9: where the first checks pass, no save and no load is refused, and the end is that of the way uncut.
    pub cuts : (m : Lent) (way : Way) (o : Outcome) → c.GoingOn m way o → (o.verdict ≡ 0 → ⊥) → (refused taken : ℕ) (end : Outcome) → Journey m way refused taken end
        → (refused ≡ 0) × (taken ≡ o.taken) × (end ≡ record { held = o.held; verdict = o.verdict; taken = end.taken; refusal = o.refusal })
    pub solvable : (opened : List ℕ) (m : Lent) → c.Begun opened m  -- D3.2: the problem opened has a plan exactly if a subproblem held has one.
        → HasSolution (problem m opened) ↔ ((P : Subproblem) × Memᴰ P (search m m.held).memory × Solvable (problem m opened) P)
    pub limit : (opened : List ℕ) (m : Lent) → c.Begun opened m → m.held.steps ≤ possibilities m.n (problem m opened).domain * (m.n + 2)  -- D3.3

abbrev pub EveryInputNumbered : Type 0
EveryInputNumbered = Demand1 rattle × Demand1 for_c

abbrev pub AnswersHold : Type 0
AnswersHold = Demand2 rattle × Demand2 for_c

abbrev pub CutsEndAlike : Type 0
CutsEndAlike = Demand3 rattle × Demand3 for_c
