-- How the public calls end: what they return and leave, refused by the first checks or not.
-- Assumes nothing.
use mathlib.Core.Path.{◌≡◌, refl, sym, ap, ◌∙◌}
use mathlib.Core.Bool.{true, false}
use mathlib.Core.List.{List, [], ◌∷◌}
use Prim.Native.Nat.{ℕ, zero, suc, ◌+◌}
use lib.ListN.{length}
use lib.Dec.{eqb}
use borrow.Author.Tests.{eq-eqb, ne_eqb}
use Rattle.splits.specs.declared.subproblem.Subproblem.{Subproblem}
use Rattle.problem.specs.Problem.{problem_of}
use Rattle.search.specs.Agenda.{stack_of, agenda_of}
use Rattle.search.specs.Slots.{slots, Search, Stopped}
use Rattle.searches.specs.Verdicts.{verdict_of}
use Rattle.searches.specs.Steps.{checks_of_top, step}
use Rattle.searches.specs.Tests.Refusal.{refusal_of_top, refusal_of_request}
use Rattle.searches.specs.Runs.{run_from}
use Rattle.searches.specs.Machines.{split_top}
use Rattle.searches.specs.Chooser.{chosen_of, chosen, choose_from}
use Rattle.search.specs.Tests.FirstChecks.{open_refusal}
use Rattle.search.specs.Calls.{opening, Opens, Ends}
use Rattle.search.specs.Loops.Steps.{StopsAt}
use Rattle.search.specs.Loops.Ends.{Used, ended_by}
use Rattle.search.specs.declared.state.State.{State}
use Rattle.search.specs.Outcomes.{Ran}
use Rattle.searches.specs.declared.verdict.Verdict.{Verdict}
use Rattle.searches.specs.declared.verdict.Verdict.TheVariants.{None}
use Rattle.search.specs.Loops.Steps.{Stop}
use Rattle.search.proofs.Running.{left_is, left_ready, ready_used}

-- The verdict beside what stopped.
pub ended_made : (n : ℕ) (agenda : List ℕ) (stop : Stop) (v : Verdict) → v ≡ verdict_of n (stack_of n agenda stop.state.subproblems)
    → record { verdict = v; refusal = stop.refusal; taken = stop.taken; state = stop.state } ≡ ended_by n agenda stop
ended_made n agenda stop v e = λ i. record { verdict = e i; refusal = stop.refusal; taken = stop.taken; state = stop.state }

-- ---- a run does not read the problem's domains

module _ (n d : ℕ) (domains tables : List ℕ) (room : ℕ) where
  -- A step.
  step_same : (r : List ℕ) (s : Search)
      → step (problem_of n d [] tables) (slots room) r s ≡ step (problem_of n d domains tables) (slots room) r s
  unfolding step checks_of_top split_top
  step_same r s = go s.memory refl
    where
      go : (S : List Subproblem) → s.memory ≡ S
          → step (problem_of n d [] tables) (slots room) r s ≡ step (problem_of n d domains tables) (slots room) r s
      go [] e = rw e refl
      go (P ∷ S) e = rw e refl

  -- The refusal of a request.
  refusal_same : (r : List ℕ) (s : Search)
      → refusal_of_request (problem_of n d [] tables) (slots room) r s ≡ refusal_of_request (problem_of n d domains tables) (slots room) r s
  unfolding refusal_of_request refusal_of_top split_top
  refusal_same r s = go s.memory refl
    where
      go : (S : List Subproblem) → s.memory ≡ S
          → refusal_of_request (problem_of n d [] tables) (slots room) r s ≡ refusal_of_request (problem_of n d domains tables) (slots room) r s
      go [] e = rw e refl
      go (P ∷ S) e = rw e refl

  -- The chooser's request.
  chosen_same : (S : List Subproblem) → chosen (problem_of n d [] tables) (slots room) S ≡ chosen (problem_of n d domains tables) (slots room) S
  unfolding chosen chosen_of split_top
  chosen_same [] = refl
  chosen_same (P ∷ S) = refl

  -- A run.
  pub run_same : (rs : List (List ℕ)) (s : Search) (k : ℕ)
      → run_from (problem_of n d [] tables) (slots room) rs s k ≡ run_from (problem_of n d domains tables) (slots room) rs s k
  unfolding run_from
  run_same [] s k = refl
  run_same (r ∷ rs) s k = rw (refusal_same r s, step_same r s, run_same rs (step (problem_of n d domains tables) (slots room) r s) (k + 1)) refl

  -- The chooser.
  pub choose_same : (m : ℕ) (s : Search) (k : ℕ)
      → choose_from (problem_of n d [] tables) (slots room) m s k ≡ choose_from (problem_of n d domains tables) (slots room) m s k
  unfolding choose_from
  choose_same zero s k = refl
  choose_same (suc m) s k =
      rw (
        chosen_same s.memory,
        refusal_same (chosen (problem_of n d domains tables) (slots room) s.memory) s,
        step_same (chosen (problem_of n d domains tables) (slots room) s.memory) s,
        choose_same m (step (problem_of n d domains tables) (slots room) (chosen (problem_of n d domains tables) (slots room) s.memory) s) (k + 1),
      ) refl

-- ---- the ends

-- Refused by the first checks.
pub ends_refused : (first n : ℕ) (agenda : List ℕ) (s : State) (stopped : Stopped) (x : ℕ) → x ≡ first → (x ≡ 0 → ⊥)
    → Ends first n agenda agenda s stopped (record { verdict = None; refusal = x; taken = 0; state = s })
ends_refused first n agenda s stopped x e h =
    let no : eqb first 0 ≡ false = ne_eqb first 0 (λ z. h (e ∙ z)) in
    record {
      verdict = rw no refl;
      refusal = rw no e;
      taken = rw no refl;
      steps = rw no refl;
      checks = rw no refl;
      subproblems = rw no refl;
      agenda = rw no refl;
    }

-- Stopped by the run.
pub ends_stopped : (first n d : ℕ) (t before after : List ℕ) (s : State) (to stopped : Stopped) (x : ℕ) (stop : Stop) (r : Ran) → x ≡ first → x ≡ 0
    → StopsAt n d t before after to stop → to ≡ stopped → r ≡ ended_by n after stop → Ends first n before after s stopped r
ends_stopped first n d t before after s to stopped x stop r e z h same made =
    let yes : eqb first 0 ≡ true = eq-eqb first 0 (sym e ∙ z) in
    let stack : stack_of n after stop.state.subproblems ≡ to.search.memory = ap (λ (q : Search). q.memory) (left_is n d t before after to stop h)
    in
    rw (made, ← same)
    (record {
      verdict = rw (yes, stack) refl;
      refusal = rw yes h.refusal;
      taken = rw yes h.taken;
      steps = rw yes h.steps;
      checks = rw yes h.checks;
      subproblems = rw yes h.subproblems;
      agenda = rw (yes, ← h.same) h.ready.words;
    })

-- The memory that is left can be read.
pub stops_used : (n d : ℕ) (t before after : List ℕ) (to : Stopped) (stop : Stop) → StopsAt n d t before after to stop
    → Used n stop.state.subproblems (length after)
stops_used n d t before after to stop h = ready_used n d t after stop.state (left_ready n d t before after to stop h)

-- ---- opening

module _ (n d : ℕ) (domains tables before : List ℕ) (x : ℕ) (e : x ≡ open_refusal n d domains tables before) where
  -- Refused, it changes nothing.
  pub opens_refused : (s : State) → (x ≡ 0 → ⊥)
      → s ≡ record { counts = record { steps = record { 0 = 0 }; checks = record { 0 = 0 } }; subproblems = 0 }
      → Opens n d domains tables before before (record { refusal = x; state = s })
  opens_refused s h f =
      let no : eqb (open_refusal n d domains tables before) 0 ≡ false = ne_eqb (open_refusal n d domains tables before) 0 (λ z. h (e ∙ z)) in
      rw f (record { refusal = e; steps = refl; checks = refl; subproblems = rw no refl; agenda = rw no refl })

  -- Else it places the problem.
  pub opens_made : (after : List ℕ) (count : ℕ) (s : State) → x ≡ 0
      → (count ≡ length (opening n domains)) × (after ≡ agenda_of n (length before) (opening n domains))
      → s ≡ record { counts = record { steps = record { 0 = 0 }; checks = record { 0 = 0 } }; subproblems = count }
      → Opens n d domains tables before after (record { refusal = 0; state = s })
  opens_made after count s z m f =
      let yes : eqb (open_refusal n d domains tables before) 0 ≡ true = eq-eqb (open_refusal n d domains tables before) 0 (sym e ∙ z) in
      rw f (record { refusal = sym z ∙ e; steps = refl; checks = refl; subproblems = rw yes m.0; agenda = rw yes m.1 })
