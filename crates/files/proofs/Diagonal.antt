-- No result depends on what stands at a variable with itself: the first checks, a run, the chooser and the content.
-- Assumes nothing.
use mathlib.Core.Path.{◌≡◌, refl}
use mathlib.Core.Bool.{false}
use mathlib.Core.List.{List}
use Prim.Native.Nat.{ℕ, ◌≤◌}
use native.Mathlib.Omega.{arith}
use native.Mathlib.Decide.{ℕ_discrete}
use lib.ListN.{length}
use lib.Dec.{eqb}
use borrow.Author.Tests.{ne_eqb}
use Rattle.problem.specs.Problem.{table_of, AgreeApart, problem_of}
use Rattle.search.specs.Agenda.{slots_in}
use Rattle.search.specs.Slots.{slots, Stopped}
use Rattle.search.specs.Tests.FirstChecks.{open_refusal, search_refusal, run_refusal}
use Rattle.searches.specs.Runs.{run, requests_in}
use Rattle.searches.specs.Chooser.{choose}
use Rattle.search.specs.Calls.{search_of, Opens, Ends, Runs, Chooses}
use Rattle.searches.specs.Reached.{Passes}
use Rattle.search.specs.declared.state.State.{State}
use Rattle.search.specs.Outcomes.{Opened}
use Rattle.search.specs.Outcomes.{Ran}
use Rattle.search.proofs.Encoding.{length_stack_of}
use Rattle.search.proofs.first_checks.FirstPassing.{PassedSearch, search_is_passed, run_is_passed}
use Rattle.search.proofs.first_checks.Apart.{apart_open, apart_search, apart_run}
use Rattle.files.specs.Content.{content_of}
use Rattle.files.specs.Calls.{handed_content, save_refusal, Saves}
use Rattle.files.specs.Outcomes.{Saved}
use Rattle.files.proofs.Triangle.{triangle_same}
use Rattle.files.proofs.AgreeingRuns.{run_same, choose_same}

-- A search that passed the first checks, as the search crate says it (its promise HandedPasses asks that the agenda holds words).
passed_passes : (n d : ℕ) (domains tables agenda : List ℕ) (s : State) → s.counts.steps.0 ≤ 4294967295
    → PassedSearch n d domains tables agenda s.counts.steps.0 s.counts.checks.0 s.subproblems
    → Passes (problem_of n d domains tables) (slots (slots_in n (length agenda))) (search_of n agenda s)
passed_passes n d domains tables agenda s l h = record {
  proper = h.passed.proper;
  rules = h.rules;
  fits = rw (length_stack_of n agenda s.subproblems) h.room;
  counted = h.limit;
  stepped = l;
}

-- Where the first checks refuse, it does not matter how the run would stop.
ends_swap : (first n : ℕ) (before after : List ℕ) (s : State) (x y : Stopped) (r : Ran) → (first ≡ 0 → x ≡ y) → Ends first n before after s x r
    → Ends first n before after s y r
ends_swap first n before after s x y r h e = elim (ℕ_discrete first 0) [
  | yes z ↦ rw (← h z) e
  | no f ↦
      let b : eqb first 0 ≡ false = ne_eqb first 0 f in
      record {
        verdict = rw b (rw b at e.verdict);
        refusal = rw b (rw b at e.refusal);
        taken = rw b (rw b at e.taken);
        steps = rw b (rw b at e.steps);
        checks = rw b (rw b at e.checks);
        subproblems = rw b (rw b at e.subproblems);
        agenda = rw b (rw b at e.agenda);
      }
]

module _ (n d : ℕ) (domains tables tables' : List ℕ) (same : AgreeApart n d tables tables') where
  -- The first checks: of opening, of chooser and save, of a run.
  pub open_same : (agenda : List ℕ) → open_refusal n d domains tables agenda ≡ open_refusal n d domains tables' agenda
  open_same agenda = apart_open n d domains tables tables' agenda same

  pub search_same : (agenda : List ℕ) (steps checks subproblems : ℕ)
      → search_refusal n d domains tables agenda steps checks subproblems ≡ search_refusal n d domains tables' agenda steps checks subproblems
  search_same agenda steps checks subproblems = apart_search n d domains tables tables' agenda steps checks subproblems same

  pub run_refusal_same : (agenda requests : List ℕ) (steps checks subproblems : ℕ)
      → run_refusal n d domains tables agenda requests steps checks subproblems ≡ run_refusal n d domains tables' agenda requests steps checks subproblems
  run_refusal_same agenda requests steps checks subproblems = apart_run n d domains tables tables' agenda requests steps checks subproblems same

  -- The content.
  pub content_same : (agenda : List ℕ) (s : State) → handed_content n d domains tables agenda s ≡ handed_content n d domains tables' agenda s
  unfolding content_of
  content_same agenda s =
      rw
      (triangle_same n d (table_of n d tables) (table_of n d tables') (λ i j a l k m. same.masks i j a (omega arith) k (λ e. absurd (omega arith)) m))
      refl

  -- ---- the four calls

  -- Opening.
  pub diagonal_open : (before after : List ℕ) (r : Opened) → Opens n d domains tables before after r → Opens n d domains tables' before after r
  diagonal_open before after r h = record {
    refusal = rw (← open_same before) h.refusal;
    steps = h.steps;
    checks = h.checks;
    subproblems = rw (← open_same before) h.subproblems;
    agenda = rw (← open_same before) h.agenda;
  }

  -- A run.
  pub diagonal_run : (before after requests : List ℕ) (s : State) (r : Ran) → s.counts.steps.0 ≤ 4294967295
      → Runs n d domains tables before after requests s r
      → Runs n d domains tables' before after requests s r
  diagonal_run before after requests s r l h =
      rw (← run_refusal_same before requests s.counts.steps.0 s.counts.checks.0 s.subproblems) (ends_swap
      (run_refusal n d domains tables before requests s.counts.steps.0 s.counts.checks.0 s.subproblems) n before after s
      (run (problem_of n d domains tables) (slots (slots_in n (length before))) (requests_in n requests) (search_of n before s))
      (run (problem_of n d domains tables') (slots (slots_in n (length before))) (requests_in n requests) (search_of n before s)) r
      (λ e. run_same (problem_of n d domains tables) (table_of n d tables') same.masks (slots_in n (length before)) (requests_in n requests) (search_of n before s)
      (passed_passes n d domains tables before s l
      ((run_is_passed n d domains tables before s.counts.steps.0 s.counts.checks.0 s.subproblems requests).0 e).0)) h)

  -- The chooser.
  pub diagonal_choose : (before after : List ℕ) (limit : ℕ) (s : State) (r : Ran) → s.counts.steps.0 ≤ 4294967295
      → Chooses n d domains tables before after limit s r
      → Chooses n d domains tables' before after limit s r
  diagonal_choose before after limit s r l h =
      rw (← search_same before s.counts.steps.0 s.counts.checks.0 s.subproblems) (ends_swap
      (search_refusal n d domains tables before s.counts.steps.0 s.counts.checks.0 s.subproblems) n before after s
      (choose (problem_of n d domains tables) (slots (slots_in n (length before))) limit (search_of n before s))
      (choose (problem_of n d domains tables') (slots (slots_in n (length before))) limit (search_of n before s)) r
      (λ e. choose_same (problem_of n d domains tables) (table_of n d tables') same.masks (slots_in n (length before)) limit (search_of n before s)
      (passed_passes n d domains tables before s l
      ((search_is_passed n d domains tables before s.counts.steps.0 s.counts.checks.0 s.subproblems).0 e))) h)

  save_same : (agenda : List ℕ) (s : State) (file : List ℕ)
      → save_refusal n d domains tables agenda s file ≡ save_refusal n d domains tables' agenda s file
  unfolding save_refusal
  save_same agenda s file = rw (search_same agenda s.counts.steps.0 s.counts.checks.0 s.subproblems, content_same agenda s) refl

  -- Save.
  pub diagonal_save : (agenda : List ℕ) (s : State) (before after : List ℕ) (r : Saved) → Saves n d domains tables agenda s before after r
      → Saves n d domains tables' agenda s before after r
  diagonal_save agenda s before after r h = record {
    refusal = rw (← save_same agenda s before) h.refusal;
    blocks = rw (← save_same agenda s before, ← content_same agenda s) h.blocks;
    file = rw (← save_same agenda s before, ← content_same agenda s) h.file;
  }
