-- A call of Rattle that goes on with a search: where its first checks refuse it, and where they pass.
-- Assumes nothing.
use mathlib.Core.Path.{◌≡◌, refl, sym, ap, ◌∙◌}
use mathlib.Core.Logic.{◌↔◌}
use mathlib.Core.Bool.{cond}
use mathlib.Core.List.{List}
use Prim.Native.Nat.{ℕ, ◌+◌, ◌/◌, ◌≤◌}
use native.Mathlib.Decide.{ℕ_discrete}
use lib.ListN.{length}
use lib.Dec.{eqb}
use borrow.Author.Tests.{ne_eqb}
use Rattle.problem.specs.Problem.{Words}
use Rattle.searches.specs.Verdicts.{number_of, verdict_of}
use Rattle.searches.specs.declared.verdict.Verdict.TheVariants.{None}
use Rattle.searches.specs.Runs.{run, requests_in}
use Rattle.searches.specs.Chooser.{choose}
use Rattle.searches.specs.Reached.{Passes}
use Rattle.searches.proofs.Promises.{picks as picks_so, run_passes, chooser_passes}
use Rattle.search.specs.Agenda.{agenda_of}
use Rattle.search.specs.Slots.{slots, Stopped}
use Rattle.search.specs.FirstChecks.{WholeRequests}
use Rattle.search.specs.Tests.FirstChecks.{run_refusal, search_refusal}
use Rattle.search.specs.Calls.{search_of, Ends}
use Rattle.search.specs.Promises.{Handed, Leaves, VerdictSays}
use Rattle.search.specs.Outcomes.{Ran}
use Rattle.search.proofs.first_checks.FirstPassing.{run_is_passed, search_is_passed}
use Rattle.search.proofs.Promises.{slots_lawful, none_if_run, none_if_choose, run_leaves, chooser_leaves, run_says, chooser_says, handed_passes}
use Rattle.console.specs.Searches.{Outcome, Way, by_requests, by_chooser, Lent, state_in}
use Rattle.console.proofs.Going.{alone, outcome_is}
use Rattle.console.proofs.Living.{state_out}
use Rattle.demands.specs.Promises.{rattle, Goes, problem, search, asked}

-- The slots that are lent.
abbrev pub room : Lent → ℕ
room m = length m.held.agenda / (m.n + 2)

-- Its first checks, and where it stops.
unfoldable pub first_of : Lent → Way → ℕ
first_of m (by_requests l) =
    run_refusal m.n m.d m.domains m.tables m.held.agenda l m.held.steps m.held.checks m.held.subproblems
first_of m (by_chooser k) =
    search_refusal m.n m.d m.domains m.tables m.held.agenda m.held.steps m.held.checks m.held.subproblems

unfoldable pub stopped_of : Lent → Way → Stopped
stopped_of m (by_requests l) = run (problem rattle m m.tables) (slots (room m)) (requests_in m.n l) (search rattle m m.held)
stopped_of m (by_chooser k) = choose (problem rattle m m.tables) (slots (room m)) k (search rattle m m.held)

abbrev pub EndsSo : Lent → Way → List ℕ → Ran → Type 0
EndsSo m way after r = Ends (first_of m way) m.n m.held.agenda after (state_in m.held) (stopped_of m way) r

pub goes_ends : (m : Lent) (way : Way) (after : List ℕ) (r : Ran) → Goes m way after r → EndsSo m way after r
unfolding first_of stopped_of
goes_ends m (by_requests l) after r g = g
goes_ends m (by_chooser k) after r g = g

pub ends_goes : (m : Lent) (way : Way) (after : List ℕ) (r : Ran) → EndsSo m way after r → Goes m way after r
unfolding first_of stopped_of
ends_goes m (by_requests l) after r g = g
ends_goes m (by_chooser k) after r g = g

-- It is a run of what is asked for.
pub stopped_is : (m : Lent) (way : Way) → stopped_of m way ≡ run (problem rattle m m.tables) (slots (room m)) (asked rattle m way) (search rattle m m.held)
unfolding stopped_of
stopped_is m (by_requests l) = refl
stopped_is m (by_chooser k) = picks_so (problem rattle m m.tables) (slots (room m)) k (search rattle m m.held)

-- What is returned and left by a call, whatever it is handed.
pub some_call : (m : Lent) (way : Way) → (after : List ℕ) × (r : Ran) × Goes m way after r
some_call m way =
    let first = first_of m way in
    let x = stopped_of m way in
    let r : Ran = record {
      verdict = cond (eqb first 0) (verdict_of m.n x.search.memory) None;
      refusal = cond (eqb first 0) x.refusal first;
      taken = cond (eqb first 0) x.taken 0;
      state = record {
        counts = record {
          steps = record { 0 = cond (eqb first 0) x.search.steps m.held.steps };
          checks = record { 0 = cond (eqb first 0) x.search.checks m.held.checks };
        };
        subproblems = cond (eqb first 0) (length x.search.memory) m.held.subproblems;
      };
    } in
    let after : List ℕ = cond (eqb first 0) (agenda_of m.n (length m.held.agenda) x.search.memory) m.held.agenda in (
      after,
      r,
      ends_goes m way after r (record {
        verdict = refl;
        refusal = refl;
        taken = refl;
        steps = refl;
        checks = refl;
        subproblems = refl;
        agenda = refl;
      }),
    )

-- What goes out of a call that returns r and leaves an agenda.
abbrev pub out_of : List ℕ → Ran → Outcome
out_of after r = record {
  held = record { agenda = after; steps = r.state.counts.steps.0; checks = r.state.counts.checks.0; subproblems = r.state.subproblems };
  verdict = number_of r.verdict;
  taken = r.taken;
  refusal = r.refusal;
}

abbrev pub Fitting : Lent → Type 0
Fitting m = Words m.held.agenda × (m.held.steps ≤ 4294967295)

pub going : (m : Lent) (way : Way) (after : List ℕ) (r : Ran) → Fitting m → Goes m way after r → rattle.GoingOn m way (out_of after r)
going m way after r fits g =
    (r, record { its_refusal = refl; its_steps = refl; its_checks = refl; its_subproblems = refl; its_verdict = refl; its_taken = refl }, g, fits)

pub out_is : (m : Lent) (way : Way) (o : Outcome) (g : rattle.GoingOn m way o) → o ≡ out_of o.held.agenda g.0
out_is m way o (r, h, g, fits) =
    outcome_is o (out_of o.held.agenda r) refl h.its_steps h.its_checks h.its_subproblems h.its_verdict h.its_taken h.its_refusal

-- The outcome of a stop.
abbrev pub outcome_at : Lent → Stopped → Outcome
outcome_at m x = record {
  held = record {
    agenda = agenda_of m.n (length m.held.agenda) x.search.memory;
    steps = x.search.steps;
    checks = x.search.checks;
    subproblems = length x.search.memory;
  };
  verdict = number_of (verdict_of m.n x.search.memory);
  taken = x.taken;
  refusal = x.refusal;
}

module _ (m : Lent) (way : Way) (o : Outcome) (g : rattle.GoingOn m way o) where
  e : EndsSo m way o.held.agenda g.0
  e = goes_ends m way o.held.agenda g.0 g.2

  -- The verdict is none exactly where the first checks refuse.
  pub none_if : (o.verdict ≡ 0) ↔ (first_of m way ≡ 0 → ⊥)
  unfolding first_of
  none_if =
      let both : (number_of g.0.verdict ≡ 0) ↔ (first_of m way ≡ 0 → ⊥) = by way g.2 in
      (λ z. both.0 (sym g.1.its_verdict ∙ z), λ f. g.1.its_verdict ∙ both.1 f)
    where
      by : (w : Way) → Goes m w o.held.agenda g.0 → (number_of g.0.verdict ≡ 0) ↔ (first_of m w ≡ 0 → ⊥)
      by (by_requests l) h = none_if_run m.n m.d m.domains m.tables m.held.agenda o.held.agenda l (state_in m.held) g.0 h
      by (by_chooser k) h = none_if_choose m.n m.d m.domains m.tables m.held.agenda o.held.agenda k (state_in m.held) g.0 h

  pub passed : (o.verdict ≡ 0 → ⊥) → first_of m way ≡ 0
  passed f = elim (ℕ_discrete (first_of m way) 0) [ yes z ↦ z | no h ↦ absurd (f (none_if.1 h)) ]

  -- Where they refuse.
  pub refused_so : (first_of m way ≡ 0 → ⊥) → o ≡ alone m.held (first_of m way)
  refused_so f =
      let test = ne_eqb (first_of m way) 0 f in
      outcome_is o (alone m.held (first_of m way)) (rw test at e.agenda) (g.1.its_steps ∙ rw test at e.steps)
      (g.1.its_checks ∙ rw test at e.checks) (g.1.its_subproblems ∙ rw test at e.subproblems)
      (g.1.its_verdict ∙ ap number_of (rw test at e.verdict)) (g.1.its_taken ∙ rw test at e.taken) (g.1.its_refusal ∙ rw test at e.refusal)

  -- Where they pass.
  pub passing : first_of m way ≡ 0 → o ≡ outcome_at m (stopped_of m way)
  passing z =
      outcome_is o (outcome_at m (stopped_of m way)) (rw z at e.agenda) (g.1.its_steps ∙ rw z at e.steps) (g.1.its_checks ∙ rw z at e.checks)
      (g.1.its_subproblems ∙ rw z at e.subproblems) (g.1.its_verdict ∙ ap number_of (rw z at e.verdict)) (g.1.its_taken ∙ rw z at e.taken)
      (g.1.its_refusal ∙ rw z at e.refusal)

-- ---- of a search that passes

abbrev pub Passing : Lent → Type 0
Passing m = Handed m.n m.d m.domains m.tables m.held.agenda (state_in m.held)

-- The search passes, and a list is whole requests.
abbrev pub WholeWay : ℕ → Way → Type 0
WholeWay n (by_requests l) = WholeRequests n (length l)
WholeWay n (by_chooser k) = Unit

pub handed : (m : Lent) (way : Way) → Fitting m → first_of m way ≡ 0 → Passing m × WholeWay m.n way
unfolding first_of
handed m (by_requests l) fits z =
    let both = (run_is_passed m.n m.d m.domains m.tables m.held.agenda m.held.steps m.held.checks m.held.subproblems l).0 z in (
      record {
        words = fits.0;
        stepped = fits.1;
        passes = (search_is_passed m.n m.d m.domains m.tables m.held.agenda m.held.steps m.held.checks m.held.subproblems).1 both.0;
      },
      both.1,
    )
handed m (by_chooser k) fits z = (record { words = fits.0; stepped = fits.1; passes = z }, tt)

pub passes_first : (m : Lent) (way : Way) → Passing m → WholeWay m.n way → first_of m way ≡ 0
unfolding first_of
passes_first m (by_requests l) h w =
    (run_is_passed m.n m.d m.domains m.tables m.held.agenda m.held.steps m.held.checks m.held.subproblems l).1
    ((search_is_passed m.n m.d m.domains m.tables m.held.agenda m.held.steps m.held.checks m.held.subproblems).0 h.passes, w)
passes_first m (by_chooser k) h w = h.passes

-- What such a call leaves, and what its verdict says.
pub left_so : (m : Lent) (way : Way) → Passing m → WholeWay m.n way → (after : List ℕ) (r : Ran) → Goes m way after r
    → Leaves m.n m.d m.domains m.tables m.held.agenda after r.state (stopped_of m way).search
    × VerdictSays m.n m.d m.domains m.tables after r
    × Passes (problem rattle m m.tables) (slots (room m)) (stopped_of m way).search
unfolding stopped_of
left_so m (by_requests l) h w after r g = (
  (run_leaves m.n m.d m.domains m.tables m.held.agenda after l (state_in m.held) r h g).0 w,
  run_says m.n m.d m.domains m.tables m.held.agenda after l (state_in m.held) r h w g,
  run_passes (problem rattle m m.tables) (slots (room m)) (slots_lawful (room m)) (requests_in m.n l) (search rattle m m.held)
      (handed_passes m.n m.d m.domains m.tables m.held.agenda (state_in m.held) h),
)
left_so m (by_chooser k) h w after r g = (
  chooser_leaves m.n m.d m.domains m.tables m.held.agenda after k (state_in m.held) r h g,
  chooser_says m.n m.d m.domains m.tables m.held.agenda after k (state_in m.held) r h g,
  chooser_passes (problem rattle m m.tables) (slots (room m)) (slots_lawful (room m)) k (search rattle m m.held)
      (handed_passes m.n m.d m.domains m.tables m.held.agenda (state_in m.held) h),
)

module _ (m : Lent) (way : Way) (o : Outcome) (g : rattle.GoingOn m way o) (z : first_of m way ≡ 0) where
  both : Passing m × WholeWay m.n way
  both = handed m way g.3 z

  state_is : g.0.state ≡ state_in o.held
  state_is = state_out g.0.state g.1.its_steps g.1.its_checks g.1.its_subproblems

  -- The search that is held then is the one where it stops.
  pub search_left : search rattle m o.held ≡ (stopped_of m way).search
  search_left = ap (search_of m.n o.held.agenda) (sym state_is) ∙ (left_so m way both.0 both.1 o.held.agenda g.0 g.2).0.search

  pub passes_left : Passes (problem rattle m m.tables) (slots (room m)) (stopped_of m way).search
  passes_left = (left_so m way both.0 both.1 o.held.agenda g.0 g.2).2

  pub says_so : VerdictSays m.n m.d m.domains m.tables o.held.agenda g.0
  says_so = (left_so m way both.0 both.1 o.held.agenda g.0 g.2).1
