-- The loops of a run and of the chooser: a search goes on in memory as it does by the rules, request by request.
-- Assumes nothing.
use mathlib.Core.Path.{◌≡◌, refl, sym, ap, ◌∙◌, subst}
use mathlib.Core.Bool.{Bool, true, false, not}
use mathlib.Core.List.Memᴰ
use mathlib.Core.List.{List, [], ◌∷◌}
use Prim.Native.Nat.{ℕ, zero, suc, ◌+◌, ◌-◌, ◌*◌, ◌/◌, ◌≤◌, ◌<◌}
use native.Mathlib.Omega.{arith}
use native.Mathlib.Numerals.{add-one}
use native.Mathlib.Nat.{mul-le-mul_right, zero-mul, div-mul-le_self}
use lib.ListN.{length, take, drop, length-take, length-drop}
use lib.Seq.{drop-drop}
use borrow.Author.Tests.{not-true, not-false}
use Rattle.std.specs.Prelude.{Result, Ok, Err}
use Rattle.problem.specs.declared.refusal.Refusal.{Refusal}
use Rattle.splits.specs.Subproblems.{all_instantiated}
use Rattle.splits.specs.declared.subproblem.Subproblem.{Subproblem}
use Rattle.problem.specs.Problem.{problem_of}
use Rattle.search.specs.Agenda.{subproblem_of, slot_at, stack_of, slots_in}
use Rattle.search.specs.Slots.{slots, Stopped}
use Rattle.searches.specs.Verdicts.{finished, verdict_of}
use Rattle.searches.specs.Steps.{stop}
use Rattle.searches.specs.Runs.{run_from, run, cut_into, requests_in}
use Rattle.searches.specs.Chooser.{chosen, choose_from, choose}
use Rattle.search.specs.Calls.{search_of}
use Rattle.search.specs.Loops.Slots.{SlotIn}
use Rattle.search.specs.Loops.Kept.{Regular, Ready}
use Rattle.search.specs.Loops.Steps.{Taking, StopsAt, taken_by, gone_by, went_on}
use Rattle.search.specs.Loops.Choices.{chosen_for}
use Rattle.search.specs.Loops.Ends.{Used, request_at}
use Rattle.search.specs.declared.state.State.{State}
use Rattle.searches.specs.declared.verdict.Verdict.TheVariants.{Running, Solved, Unsolvable}
use Rattle.search.specs.Loops.Steps.{Stop}
use Rattle.search.proofs.Encoding.{length_stack_of, agenda_back}
use Rattle.searches.proofs.Verdicts.{finished_top}
use Rattle.search.proofs.step.Stepping.{stack_more}
use Rattle.searches.proofs.OneByOne.{run_on, run_halts, one_finished, choose_one, choose_on, choose_halts}
use Rattle.search.proofs.chooser.Choosing.{chosen_is}

-- ---- the top and the verdict

-- The top's slot lies within.
pub used_slot : (n m words : ℕ) → Used n m words → (m ≡ 0 → ⊥) → SlotIn n (m - 1) words
used_slot n m words u h = let up : (m - 1) + 1 ≡ m = omega arith in record { few = u.few; within = rw up u.within }

module _ (n : ℕ) (agenda : List ℕ) (m : ℕ) where
  -- The empty agenda is finished.
  pub finished_empty : m ≡ 0 → finished n (stack_of n agenda m) ≡ true
  unfolding finished verdict_of stack_of
  finished_empty e = rw e refl

  -- It is unsolvable.
  pub verdict_empty : m ≡ 0 → Unsolvable ≡ verdict_of n (stack_of n agenda m)
  unfolding verdict_of stack_of
  verdict_empty e = rw e refl

  module _ (h : m ≡ 0 → ⊥) (P : Subproblem) (top : P ≡ subproblem_of n (slot_at n agenda (m - 1))) (b : Bool) (tested : b ≡ all_instantiated n P) where
    -- The stack, top first.
    stack_is : stack_of n agenda m ≡ P ∷ stack_of n agenda (m - 1)
    stack_is = stack_more n agenda m P (omega arith) top

    -- A search is finished if its top is solved.
    pub finished_is : not b ≡ false → finished n (stack_of n agenda m) ≡ true
    finished_is e = rw stack_is (finished_top n P (stack_of n agenda (m - 1)) ∙ sym tested ∙ not-false b e)

    -- It is solved then.
    pub verdict_solved : b ≡ true → Solved ≡ verdict_of n (stack_of n agenda m)
    unfolding verdict_of
    verdict_solved e = rw (stack_is, ← tested, e) refl

    -- Else it runs.
    pub verdict_running : b ≡ false → Running ≡ verdict_of n (stack_of n agenda m)
    unfolding verdict_of
    verdict_running e = rw (stack_is, ← tested, e) refl

-- ---- one step

-- A request that is taken, or refused, is where the run goes on, or stops.
pub gone_on : (s : State) (r : Result State Refusal) → gone_by s (went_on r) ≡ taken_by s r
gone_on s (Ok to) = refl
gone_on s (Err refusal) = refl

module _ (n d : ℕ) (t agenda : List ℕ) (s : State) (ready : Ready n d t agenda (search_of n agenda s)) where
  -- The slots in use lie within.
  pub ready_used : Used n s.subproblems (length agenda)
  ready_used =
      let fits : s.subproblems ≤ slots_in n (length agenda) = rw (length_stack_of n agenda s.subproblems) at ready.fits in
      record { few = ready.fitting.few; within = rw ready.whole (mul-le-mul_right (n + 2) fits) }

  -- A search that is finished stays as it is.
  pub stays : (r : List ℕ) → finished n (stack_of n agenda s.subproblems) ≡ true
      → StopsAt n d t agenda agenda (run_from (problem_of n d [] t) (slots (slots_in n (length agenda))) (r ∷ []) (search_of n agenda s) 0)
      (record { refusal = 0; taken = 0; state = s })
  stays r e =
      rw (one_finished (problem_of n d [] t) (slots (slots_in n (length agenda))) r (search_of n agenda s) e)
      (record {
        refusal = refl;
        taken = refl;
        steps = refl;
        checks = refl;
        subproblems = sym (length_stack_of n agenda s.subproblems);
        ready = ready;
        same = refl;
      })

  -- A search that runs may take a request.
  pub taking : (P : Subproblem) (b : Bool) → (s.subproblems ≡ 0 → ⊥) → P ≡ subproblem_of n (slot_at n agenda (s.subproblems - 1))
      → b ≡ all_instantiated n P → not b ≡ true → Taking n d t agenda P s
  taking P b h top tested e = record { ready = ready; some = omega arith; top = top; runs = sym tested ∙ not-true b e }

-- The search that a step left is the one that its words hold.
pub left_is : (n d : ℕ) (t before after : List ℕ) (to : Stopped) (r : Stop) → StopsAt n d t before after to r
    → search_of n after r.state ≡ to.search
left_is n d t before after to r h =
    let stack : stack_of n after r.state.subproblems ≡ to.search.memory =
    ap (stack_of n after) h.subproblems ∙ ap (λ (l : List ℕ). stack_of n l (length to.search.memory)) h.ready.words
    ∙ agenda_back n d (length after) to.search.memory h.ready.fitting.few (λ P m. (h.ready.each P m).shape) in
    λ i. record { memory = stack i; steps = h.steps i; checks = h.checks i }

-- It is ready for the next step.
pub left_ready : (n d : ℕ) (t before after : List ℕ) (to : Stopped) (r : Stop) → StopsAt n d t before after to r
    → Ready n d t after (search_of n after r.state)
left_ready n d t before after to r h = rw (left_is n d t before after to r h) h.ready

-- ---- the requests of a list of words

-- The next request, and the rest.
cut_next : (k m w : ℕ) (ws : List ℕ) → k < m → drop k (cut_into m w ws) ≡ take w (drop (k * w) ws) ∷ drop (suc k) (cut_into m w ws)
unfolding cut_into
cut_next zero zero w ws h = absurd (omega arith)
cut_next zero (suc m) w ws h = rw zero-mul refl
cut_next (suc k) zero w ws h = absurd (omega arith)
cut_next (suc k) (suc m) w ws h =
    let along : w + k * w ≡ suc k * w = omega arith in
    cut_next k m w (drop w ws) (omega arith) ∙ rw (drop-drop (k * w) w ws, along) refl

-- After the last there is none.
cut_end : (k m w : ℕ) (ws : List ℕ) → m ≤ k → drop k (cut_into m w ws) ≡ []
unfolding cut_into
cut_end zero zero w ws h = refl
cut_end (suc k) zero w ws h = refl
cut_end zero (suc m) w ws h = absurd (omega arith)
cut_end (suc k) (suc m) w ws h = cut_end k m w (drop w ws) (omega arith)

-- ---- the loop of a run

-- A run of requests that has taken some of them.
pub record Going (n d : ℕ) (t requests before : List ℕ) (start : State) (agenda : List ℕ) (s : State) (taken : ℕ) : Type 0 where
  pub ready : Ready n d t agenda (search_of n agenda s)
  pub room : length agenda ≡ length before
  pub same : run (problem_of n d [] t) (slots (slots_in n (length before))) (requests_in n requests) (search_of n before start)
      ≡ run_from (problem_of n d [] t) (slots (slots_in n (length before))) (drop taken (requests_in n requests)) (search_of n agenda s) taken

module _ (n d : ℕ) (t requests before : List ℕ) (start : State) (agenda : List ℕ) (s : State) (taken : ℕ) (g : Going n d t requests before start agenda s taken) where
  -- At the end of the list.
  pub going_end : length requests / (n + 3) ≤ taken
      → StopsAt n d t before agenda (run (problem_of n d [] t) (slots (slots_in n (length before))) (requests_in n requests) (search_of n before start))
      (record { refusal = 0; taken = taken; state = s })
  unfolding requests_in run_from
  going_end h =
      rw (g.same, cut_end taken (length requests / (n + 3)) (n + 3) requests h)
      (record {
        refusal = refl;
        taken = refl;
        steps = refl;
        checks = refl;
        subproblems = sym (length_stack_of n agenda s.subproblems);
        ready = g.ready;
        same = g.room;
      })

  -- So many are taken then.
  pub going_all : taken ≡ length requests / (n + 3)
      → StopsAt n d t before agenda (run (problem_of n d [] t) (slots (slots_in n (length before))) (requests_in n requests) (search_of n before start))
      (record { refusal = 0; taken = length requests / (n + 3); state = s })
  going_all h =
      subst
      (λ (k : ℕ). StopsAt n d t before agenda (run (problem_of n d [] t) (slots (slots_in n (length before))) (requests_in n requests) (search_of n before start)) (record { refusal = 0; taken = k; state = s }))
      h (going_end (omega arith))

  module _ (more : taken < length requests / (n + 3)) (after : List ℕ) (stop : Stop) (request : List ℕ) (own : request ≡ request_at n requests taken)
      (stepped : StopsAt n d t agenda after (run_from (problem_of n d [] t) (slots (slots_in n (length agenda))) (request ∷ []) (search_of n agenda s) 0) stop) where
    -- The run of the request alone.
    one : Stopped
    one = run_from (problem_of n d [] t) (slots (slots_in n (length before))) (request ∷ []) (search_of n agenda s) 0

    -- The step that was made.
    one_stops : StopsAt n d t agenda after one stop
    unfolding one
    one_stops = rw g.room at stepped

    -- The run from the request on.
    from_here : run (problem_of n d [] t) (slots (slots_in n (length before))) (requests_in n requests) (search_of n before start)
        ≡ run_from (problem_of n d [] t) (slots (slots_in n (length before))) (request ∷ drop (taken + 1) (requests_in n requests)) (search_of n agenda s) taken
    unfolding requests_in request_at
    from_here = g.same ∙ rw (add-one, own, cut_next taken (length requests / (n + 3)) (n + 3) requests more) refl

    -- A request that was taken.
    pub going_on : (stop.taken ≡ 0 → ⊥) → Going n d t requests before start after stop.state (taken + 1)
    unfolding one
    going_on h = record {
      ready = left_ready n d t agenda after one stop one_stops;
      room = one_stops.same ∙ g.room;
      same =
          from_here ∙ run_on (problem_of n d [] t) (slots (slots_in n (length before))) request (search_of n agenda s) (drop (taken + 1) (requests_in n requests))
          taken
          (λ z. h (one_stops.taken ∙ z))
          ∙ rw (← left_is n d t agenda after one stop one_stops) refl;
    }

    -- A request that was not.
    pub going_stops : stop.taken ≡ 0
        → StopsAt n d t before after (run (problem_of n d [] t) (slots (slots_in n (length before))) (requests_in n requests) (search_of n before start))
        (record { refusal = stop.refusal; taken = taken; state = stop.state })
    unfolding one
    going_stops h =
        rw (from_here ∙ run_halts (problem_of n d [] t) (slots (slots_in n (length before))) request (search_of n agenda s)
        (drop (taken + 1) (requests_in n requests)) taken (sym one_stops.taken ∙ h))
        (record {
          refusal = one_stops.refusal;
          taken = refl;
          steps = one_stops.steps;
          checks = one_stops.checks;
          subproblems = one_stops.subproblems;
          ready = one_stops.ready;
          same = one_stops.same ∙ g.room;
        })

-- The words of a request are a part of the list, and lie within it.
pub request_part : (n k : ℕ) (requests : List ℕ) → take ((k * (n + 3) + (n + 3)) - k * (n + 3)) (drop (k * (n + 3)) requests) ≡ request_at n requests k
unfolding request_at
request_part n k requests = let w : (k * (n + 3) + (n + 3)) - k * (n + 3) ≡ n + 3 = omega arith in rw w refl

pub request_within : (n k words : ℕ) → k < words / (n + 3) → k * (n + 3) + (n + 3) ≤ words
request_within n k words h =
    let up : (k + 1) * (n + 3) ≤ words / (n + 3) * (n + 3) = mul-le-mul_right (n + 3) (omega arith) in
    omega (arith, div-mul-le_self words (n + 3))

pub request_long : (n k : ℕ) (requests : List ℕ) → k < length requests / (n + 3)
    → length (take ((k * (n + 3) + (n + 3)) - k * (n + 3)) (drop (k * (n + 3)) requests)) ≡ n + 3
request_long n k requests h = simp (length-take, length-drop) (omega (arith, request_within n k (length requests) h))

-- ---- the loop of the chooser

-- The chooser that has taken some steps.
pub record GoingChosen (n d : ℕ) (t : List ℕ) (limit : ℕ) (before : List ℕ) (start : State) (agenda : List ℕ) (s : State) (taken : ℕ) : Type 0 where
  pub ready : Ready n d t agenda (search_of n agenda s)
  pub room : length agenda ≡ length before
  pub same : choose (problem_of n d [] t) (slots (slots_in n (length before))) limit (search_of n before start)
      ≡ choose_from (problem_of n d [] t) (slots (slots_in n (length before))) (limit - taken) (search_of n agenda s) taken

-- At the start none is taken.
pub choosing_none : (n d : ℕ) (t : List ℕ) (limit : ℕ) (before : List ℕ) (start : State) → Ready n d t before (search_of n before start)
    → GoingChosen n d t limit before start before start 0
choosing_none n d t limit before start h =
    let all : limit ≡ limit - 0 = omega arith in
    record { ready = h; room = refl; same = ap (λ (m : ℕ). choose (problem_of n d [] t) (slots (slots_in n (length before))) m (search_of n before start)) all }

module _ (n d : ℕ) (t : List ℕ) (limit : ℕ) (before : List ℕ) (start : State) (agenda : List ℕ) (s : State) (taken : ℕ)
    (g : GoingChosen n d t limit before start agenda s taken) where
  -- At the limit.
  pub choosing_end : limit ≤ taken
      → StopsAt n d t before agenda (choose (problem_of n d [] t) (slots (slots_in n (length before))) limit (search_of n before start))
      (record { refusal = 0; taken = taken; state = s })
  unfolding choose_from
  choosing_end h =
      let none : limit - taken ≡ 0 = omega arith in
      rw (g.same, none)
      (record {
        refusal = refl;
        taken = refl;
        steps = refl;
        checks = refl;
        subproblems = sym (length_stack_of n agenda s.subproblems);
        ready = g.ready;
        same = g.room;
      })

  -- The limit is taken then.
  pub choosing_all : taken ≡ limit
      → StopsAt n d t before agenda (choose (problem_of n d [] t) (slots (slots_in n (length before))) limit (search_of n before start))
      (record { refusal = 0; taken = limit; state = s })
  choosing_all h =
      subst
      (λ (k : ℕ). StopsAt n d t before agenda (choose (problem_of n d [] t) (slots (slots_in n (length before))) limit (search_of n before start)) (record { refusal = 0; taken = k; state = s }))
      h (choosing_end (omega arith))

  module _ (more : taken < limit) (after : List ℕ) (stop : Stop)
      (stepped : StopsAt n d t agenda after (choose_from (problem_of n d [] t) (slots (slots_in n (length agenda))) 1 (search_of n agenda s) 0) stop) where
    -- The step at hand.
    one_step : Stopped
    one_step = choose_from (problem_of n d [] t) (slots (slots_in n (length before))) 1 (search_of n agenda s) 0

    -- The step that was made.
    step_stops : StopsAt n d t agenda after one_step stop
    unfolding one_step
    step_stops = rw g.room at stepped

    -- The chooser from here on.
    from_step : choose (problem_of n d [] t) (slots (slots_in n (length before))) limit (search_of n before start)
        ≡ choose_from (problem_of n d [] t) (slots (slots_in n (length before))) (suc (limit - (taken + 1))) (search_of n agenda s) taken
    from_step =
        let next : limit - taken ≡ suc (limit - (taken + 1)) = omega arith in
        g.same ∙ ap (λ (m : ℕ). choose_from (problem_of n d [] t) (slots (slots_in n (length before))) m (search_of n agenda s) taken) next

    -- A step that was taken.
    pub choosing_on : (stop.taken ≡ 0 → ⊥) → GoingChosen n d t limit before start after stop.state (taken + 1)
    unfolding one_step
    choosing_on h = record {
      ready = left_ready n d t agenda after one_step stop step_stops;
      room = step_stops.same ∙ g.room;
      same =
          from_step ∙ choose_on (problem_of n d [] t) (slots (slots_in n (length before))) (search_of n agenda s) (limit - (taken + 1)) taken
          (λ z. h (step_stops.taken ∙ z))
          ∙ rw (← left_is n d t agenda after one_step stop step_stops) refl;
    }

    -- A step that was not.
    pub choosing_stops : stop.taken ≡ 0
        → StopsAt n d t before after (choose (problem_of n d [] t) (slots (slots_in n (length before))) limit (search_of n before start))
        (record { refusal = stop.refusal; taken = taken; state = stop.state })
    unfolding one_step
    choosing_stops h =
        rw
        (from_step ∙ choose_halts (problem_of n d [] t) (slots (slots_in n (length before))) (search_of n agenda s) (limit - (taken + 1)) taken
        (sym step_stops.taken ∙ h))
        (record {
          refusal = step_stops.refusal;
          taken = refl;
          steps = step_stops.steps;
          checks = step_stops.checks;
          subproblems = step_stops.subproblems;
          ready = step_stops.ready;
          same = step_stops.same ∙ g.room;
        })

-- ---- a step of the chooser

module _ (n d : ℕ) (t agenda : List ℕ) (s : State) (ready : Ready n d t agenda (search_of n agenda s)) where
  -- A search that is finished stays as it is.
  pub stays_chosen : finished n (stack_of n agenda s.subproblems) ≡ true
      → StopsAt n d t agenda agenda (choose_from (problem_of n d [] t) (slots (slots_in n (length agenda))) 1 (search_of n agenda s) 0)
      (record { refusal = 0; taken = 0; state = s })
  stays_chosen e =
      rw (choose_one (problem_of n d [] t) (slots (slots_in n (length agenda))) (search_of n agenda s))
      (stays n d t agenda s ready (chosen (problem_of n d [] t) (slots (slots_in n (length agenda))) (stack_of n agenda s.subproblems)) e)

  -- The slots below the top are not more than all.
  pub below_room : s.subproblems - 1 ≤ slots_in n (length agenda)
  below_room = let fits : s.subproblems ≤ slots_in n (length agenda) = rw (length_stack_of n agenda s.subproblems) at ready.fits in omega arith

  module _ (P : Subproblem) (some : s.subproblems ≡ 0 → ⊥) (top : P ≡ subproblem_of n (slot_at n agenda (s.subproblems - 1))) where
    -- The stack, top first.
    whole_stack : stack_of n agenda s.subproblems ≡ P ∷ stack_of n agenda (s.subproblems - 1)
    whole_stack = stack_more n agenda s.subproblems P (omega arith) top

    -- The top is regular.
    pub top_regular : Regular n d P
    top_regular = ready.each P (rw whole_stack (Memᴰ.head refl))

    -- The request that was made is the one that the rule chooses.
    pub chosen_stops : (r after : List ℕ) (stop : Stop) → r ≡ chosen_for n d t P (slots_in n (length agenda) - (s.subproblems - 1))
        → StopsAt n d t agenda after (run_from (problem_of n d [] t) (slots (slots_in n (length agenda))) (r ∷ []) (search_of n agenda s) 0) stop
        → StopsAt n d t agenda after (choose_from (problem_of n d [] t) (slots (slots_in n (length agenda))) 1 (search_of n agenda s) 0) stop
    chosen_stops r after stop e h =
        let many : length (stack_of n agenda (s.subproblems - 1)) ≡ s.subproblems - 1 = length_stack_of n agenda (s.subproblems - 1) in
        let same : r ≡ chosen (problem_of n d [] t) (slots (slots_in n (length agenda))) (stack_of n agenda s.subproblems) =
        e ∙ ap (λ (k : ℕ). chosen_for n d t P (slots_in n (length agenda) - k)) (sym many)
        ∙ chosen_is n d t (slots_in n (length agenda)) P (stack_of n agenda (s.subproblems - 1)) (rw many below_room)
        ∙ ap (chosen (problem_of n d [] t) (slots (slots_in n (length agenda)))) (sym whole_stack) in
        rw (choose_one (problem_of n d [] t) (slots (slots_in n (length agenda))) (search_of n agenda s), ← same) h
