-- A list of requests, or the chooser, cut anywhere, saved, loaded and gone on with, ends as uncut.
-- Assumes nothing.
use mathlib.Core.Path.{◌≡◌, refl, sym, ap, ap₂, subst, ◌∙◌}
use mathlib.Core.Logic.{◌⊎◌, inl, inr}
use mathlib.Core.Bool.{Bool, true, false, cond}
use mathlib.Core.List.{List, ◌++◌}
use Prim.Native.Nat.{ℕ, zero, suc, ◌+◌, ◌-◌, ◌*◌, ◌≤◌, ◌<◌}
use native.Mathlib.Omega.{arith}
use lib.ListN.{length, drop, length-append}
use lib.Dec.{eqb}
use Rattle.problem.specs.Problem.{Problem, problem_of}
use Rattle.search.specs.Agenda.{slots_in, agenda_of}
use Rattle.search.specs.Slots.{slots, Search, Stopped}
use Rattle.search.specs.FirstChecks.{WholeRequests}
use Rattle.search.specs.Tests.FirstChecks.{run_refusal, search_refusal}
use Rattle.searches.specs.Verdicts.{verdict_of, finished}
use Rattle.searches.specs.Steps.{stop, step}
use Rattle.searches.specs.Tests.Refusal.{refusal_of_request}
use Rattle.searches.specs.Runs.{run, requests_in}
use Rattle.searches.specs.Chooser.{chosen, choose_from, choose}
use Rattle.search.specs.Calls.{search_of, Ends, Runs, Chooses}
use Rattle.search.specs.Promises.{Handed, Leaves}
use Rattle.search.specs.declared.state.State.{State}
use Rattle.search.specs.Outcomes.{Ran}
use Rattle.searches.proofs.Runs.{after, two_lists, stops}
use Rattle.search.proofs.first_checks.FirstPassing.{run_is_passed}
use Rattle.search.proofs.HandedOn.{known}
use Rattle.search.proofs.Promises.{run_leaves, chooser_leaves}
use Rattle.searches.proofs.Promises.{choose_two}
use Rattle.files.specs.Promises.{TwoWays, Trip, ChooserTrip, SameEnd}
use Rattle.files.proofs.Requests.{whole_append, requests_append, whole_drop, requests_drop}
use Rattle.files.proofs.Carried.{Carried, carried, run_on, choose_on}

-- ---- a call whose first checks pass

-- What such a call returns and leaves.
pub record Outcome (n : ℕ) (before left : List ℕ) (x : Stopped) (r : Ran) : Type 0 where
  pub verdict : r.verdict ≡ verdict_of n x.search.memory
  pub refusal : r.refusal ≡ x.refusal
  pub taken : r.taken ≡ x.taken
  pub steps : r.state.counts.steps.0 ≡ x.search.steps
  pub checks : r.state.counts.checks.0 ≡ x.search.checks
  pub subproblems : r.state.subproblems ≡ length x.search.memory
  pub agenda : left ≡ agenda_of n (length before) x.search.memory

ends_outcome : (first n : ℕ) (before left : List ℕ) (s : State) (x : Stopped) (r : Ran) → first ≡ 0 → Ends first n before left s x r
    → Outcome n before left x r
ends_outcome first n before left s x r e h = record {
  verdict = rw e at h.verdict;
  refusal = rw e at h.refusal;
  taken = rw e at h.taken;
  steps = rw e at h.steps;
  checks = rw e at h.checks;
  subproblems = rw e at h.subproblems;
  agenda = rw e at h.agenda;
}

-- ---- two calls in the place of one

-- Where the uncut call stops as the second does, so many more taken before, the end is the uncut call's.
joined_end : (n d : ℕ) (domains tables agenda : List ℕ) (w : TwoWays n d domains tables) (x x₁ x₂ : Stopped)
    → Outcome n agenda w.whole_agenda x w.whole
    → Outcome n agenda w.first_agenda x₁ w.first → Outcome n w.first_agenda w.second_agenda x₂ w.second → x ≡ after x₁.taken x₂
    → length w.first_agenda ≡ length agenda → Carried w → SameEnd w
joined_end n d domains tables agenda w x x₁ x₂ out out₁ out₂ joined kept c = record {
  saved = c.saved;
  loaded = c.loaded;
  verdict = out₂.verdict ∙ sym (out.verdict ∙ ap (λ (y : Stopped). verdict_of n y.search.memory) joined);
  refusal = out₂.refusal ∙ sym (out.refusal ∙ ap (λ (y : Stopped). y.refusal) joined);
  agenda_left =
      out₂.agenda ∙ ap (λ (k : ℕ). agenda_of n k x₂.search.memory) kept
      ∙ sym (out.agenda ∙ ap (λ (y : Stopped). agenda_of n (length agenda) y.search.memory) joined);
  steps = out₂.steps ∙ sym (out.steps ∙ ap (λ (y : Stopped). y.search.steps) joined);
  checks = out₂.checks ∙ sym (out.checks ∙ ap (λ (y : Stopped). y.search.checks) joined);
  subproblems = out₂.subproblems ∙ sym (out.subproblems ∙ ap (λ (y : Stopped). length y.search.memory) joined);
  taken = ap₂ ◌+◌ out₁.taken out₂.taken ∙ sym (out.taken ∙ ap (λ (y : Stopped). y.taken) joined);
}

-- ---- a list of requests

module _ (n d : ℕ) (domains tables agenda : List ℕ) (s : State) (requests more : List ℕ) (handed : Handed n d domains tables agenda s)
    (w : WholeRequests n (length requests)) (v : WholeRequests n (length more)) (t : Trip n d domains tables agenda s requests more) where
  p : Problem
  p = problem_of n d domains tables

  room : ℕ
  room = slots_in n (length agenda)

  -- Where the run to the cut stops.
  x₁ : Stopped
  x₁ = run p (slots room) (requests_in n requests) (search_of n agenda s)

  rest : List ℕ
  rest = drop (t.ways.first.taken * (n + 3)) (requests ++ more)

  both : WholeRequests n (length (requests ++ more))
  both = whole_append n requests more w v

  -- A run of whole requests on a search that passes.
  outcome : (before left : List ℕ) (st : State) (l : List ℕ) (r : Ran) → Handed n d domains tables before st → WholeRequests n (length l)
      → Runs n d domains tables before left l st r → Outcome n before left (run p (slots (slots_in n (length before))) (requests_in n l) (search_of n before st)) r
  unfolding p
  outcome before left st l r h whole runs =
      ends_outcome (run_refusal n d domains tables before l st.counts.steps.0 st.counts.checks.0 st.subproblems) n before left st
      (run p (slots (slots_in n (length before))) (requests_in n l) (search_of n before st)) r
      ((run_is_passed n d domains tables before st.counts.steps.0 st.counts.checks.0 st.subproblems l).1
      ((known n d domains tables before st h).passed, whole)) runs

  out₁ : Outcome n agenda t.ways.first_agenda x₁ t.ways.first
  unfolding x₁ p room
  out₁ = outcome agenda t.ways.first_agenda s requests t.ways.first handed w t.to_the_cut

  left₁ : Leaves n d domains tables agenda t.ways.first_agenda t.ways.first.state x₁.search
  unfolding x₁ p room
  left₁ = (run_leaves n d domains tables agenda t.ways.first_agenda requests s t.ways.first handed t.to_the_cut).0 w

  few : t.ways.first.taken ≤ length (requests_in n (requests ++ more))
  unfolding x₁
  few =
      rw (requests_append n requests more w v)
      (omega
      (arith, out₁.taken, (stops p (slots room) (requests_in n requests) (search_of n agenda s)).0, length-append (requests_in n requests) (requests_in n more)))

  -- Where what was gone on with stops.
  x₂ : Stopped
  x₂ = run p (slots room) (drop x₁.taken (requests_in n requests ++ requests_in n more)) x₁.search

  run₂ : run p (slots (slots_in n (length t.ways.first_agenda))) (requests_in n rest) (search_of n t.ways.first_agenda t.ways.first.state) ≡ x₂
  unfolding x₂ room rest both
  run₂ =
      ap₂ (λ (k : ℕ) (y : Search). run p (slots k) (requests_in n rest) y) (ap (slots_in n) left₁.length_kept) left₁.search
      ∙ ap (λ (l : List (List ℕ)). run p (slots room) l x₁.search)
      (requests_drop n (requests ++ more) both t.ways.first.taken few ∙ ap₂ drop out₁.taken (requests_append n requests more w v))

  out₂ : Outcome n t.ways.first_agenda t.ways.second_agenda x₂ t.ways.second
  unfolding rest both
  out₂ =
      subst (λ (y : Stopped). Outcome n t.ways.first_agenda t.ways.second_agenda y t.ways.second) run₂
      (outcome t.ways.first_agenda t.ways.second_agenda t.ways.first.state rest t.ways.second left₁.handed
      (whole_drop n (requests ++ more) both t.ways.first.taken few)
      (run_on n d domains tables t.ways left₁.handed t.ways.second_agenda rest t.ways.second t.goes_on))

  -- The end is the uncut run's.
  pub run_end : SameEnd t.ways
  unfolding x₁ x₂ p room both
  run_end =
      joined_end n d domains tables agenda t.ways (run p (slots room) (requests_in n (requests ++ more)) (search_of n agenda s)) x₁ x₂
      (outcome agenda t.ways.whole_agenda s (requests ++ more) t.ways.whole handed both t.uncut) out₁ out₂
      (ap (λ (l : List (List ℕ)). run p (slots room) l (search_of n agenda s)) (requests_append n requests more w v)
      ∙ two_lists p (slots room) (requests_in n more) (requests_in n requests) (search_of n agenda s))
      left₁.length_kept (carried n d domains tables t.ways left₁.handed)

-- ---- the chooser

-- A chooser took all its steps, or fewer; then it stops where it stopped however many it is asked for.
abbrev Took : Problem → ℕ → ℕ → Stopped → Type 0
Took p room limit a =
    (a.taken ≡ limit) ⊎ ((a.taken < limit) × ((N : ℕ) → choose_from p (slots room) (suc N) a.search 0 ≡ stop a.search a.refusal 0))

took : (p : Problem) (room m : ℕ) (s : Search) (j : ℕ) → Took p room (j + m) (choose_from p (slots room) m s j)
unfolding choose_from
took p room zero s j = inl (omega arith)
took p room (suc m) s j = go (finished p.n s.memory) refl (eqb k₁ 0) refl (took p room m t₁ (j + 1))
  where
    k₁ : ℕ
    k₁ = refusal_of_request p (slots room) (chosen p (slots room) s.memory) s

    t₁ : Search
    t₁ = step p (slots room) (chosen p (slots room) s.memory) s

    go : (a : Bool) → finished p.n s.memory ≡ a → (b : Bool) → eqb k₁ 0 ≡ b → Took p room (j + 1 + m) (choose_from p (slots room) m t₁ (j + 1))
        → Took p room (j + suc m)
        (cond a (stop s 0 j)
        (cond b (choose_from p (slots room) m t₁ (j + 1)) (stop s k₁ j)))
    go true e b f rest = inr (omega arith, λ N. rw e refl)
    go false e true f rest =
        let up : j + 1 + m ≡ j + suc m = omega arith in
        subst (λ (limit : ℕ). Took p room limit (choose_from p (slots room) m t₁ (j + 1))) up rest
    go false e false f rest = inr (omega arith, λ N. rw (e, f) refl)

-- What is left of the limits' sum, or the second limit: it is the same, unless the second asks for no step where the first was refused.
onward : (p : Problem) (room m k : ℕ) (a : Stopped) → (k ≡ 0 → a.refusal ≡ 0) → Took p room m a
    → choose p (slots room) ((m + k) - a.taken) a.search ≡ choose p (slots room) k a.search
unfolding choose_from
onward p room m k a none (inl e) =
    let left : (m + k) - a.taken ≡ k = omega arith in
    ap (λ (N : ℕ). choose p (slots room) N a.search) left
onward p room m zero a none (inr (fewer, again)) =
    let left : (m + 0) - a.taken ≡ suc ((m - a.taken) - 1) = omega arith in
    let nothing : a.refusal ≡ 0 = none refl in
    ap (λ (N : ℕ). choose p (slots room) N a.search) left ∙ again ((m - a.taken) - 1) ∙
    (λ i. stop a.search (nothing i) 0)
onward p room m (suc k) a none (inr (fewer, again)) =
    let left : (m + suc k) - a.taken ≡ suc ((m + k) - a.taken) = omega arith in
    ap (λ (N : ℕ). choose p (slots room) N a.search) left ∙ again ((m + k) - a.taken) ∙ sym (again k)

module _ (n d : ℕ) (domains tables agenda : List ℕ) (s : State) (m k : ℕ) (handed : Handed n d domains tables agenda s)
    (t : ChooserTrip n d domains tables agenda s m k) (asked : k ≡ 0 → t.ways.first.refusal ≡ 0) where
  q : Problem
  q = problem_of n d domains tables

  lent : ℕ
  lent = slots_in n (length agenda)

  -- Where the chooser stops at the cut, and where it stops that goes on.
  y₁ : Stopped
  y₁ = choose q (slots lent) m (search_of n agenda s)

  y₂ : Stopped
  y₂ = choose q (slots lent) k y₁.search

  -- The chooser on a search that passes.
  chosen_outcome : (before left : List ℕ) (limit : ℕ) (st : State) (r : Ran) → Handed n d domains tables before st
      → Chooses n d domains tables before left limit st r
      → Outcome n before left (choose q (slots (slots_in n (length before))) limit (search_of n before st)) r
  unfolding q
  chosen_outcome before left limit st r h chooses =
      ends_outcome (search_refusal n d domains tables before st.counts.steps.0 st.counts.checks.0 st.subproblems) n before left st
      (choose q (slots (slots_in n (length before))) limit (search_of n before st)) r h.passes chooses

  first : Outcome n agenda t.ways.first_agenda y₁ t.ways.first
  unfolding y₁ q lent
  first = chosen_outcome agenda t.ways.first_agenda m s t.ways.first handed t.to_the_cut

  left : Leaves n d domains tables agenda t.ways.first_agenda t.ways.first.state y₁.search
  unfolding y₁ q lent
  left = chooser_leaves n d domains tables agenda t.ways.first_agenda m s t.ways.first handed t.to_the_cut

  second : Outcome n t.ways.first_agenda t.ways.second_agenda y₂ t.ways.second
  unfolding y₂ lent
  second =
      subst (λ (y : Stopped). Outcome n t.ways.first_agenda t.ways.second_agenda y t.ways.second)
      (ap₂ (λ (room : ℕ) (y : Search). choose q (slots room) k y) (ap (slots_in n) left.length_kept) left.search)
      (chosen_outcome t.ways.first_agenda t.ways.second_agenda k t.ways.first.state t.ways.second left.handed
      (choose_on n d domains tables t.ways left.handed t.ways.second_agenda k t.ways.second t.goes_on))

  -- The uncut chooser is that to the cut, then that which goes on.
  joined : choose q (slots lent) (m + k) (search_of n agenda s) ≡ after y₁.taken y₂
  unfolding y₁ y₂
  joined =
      let all : 0 + m ≡ m = omega arith in
      choose_two q (slots lent) m k (search_of n agenda s)
      ∙ ap (after y₁.taken) (onward q lent m k y₁ (λ e. sym first.refusal ∙ asked e)
      (subst (λ (limit : ℕ). Took q lent limit (choose q (slots lent) m (search_of n agenda s))) all (took q lent m (search_of n agenda s) 0)))

  -- The end is the uncut chooser's.
  pub choose_end : SameEnd t.ways
  unfolding q lent
  choose_end =
      joined_end n d domains tables agenda t.ways (choose q (slots lent) (m + k) (search_of n agenda s)) y₁ y₂
      (chosen_outcome agenda t.ways.whole_agenda (m + k) s t.ways.whole handed t.uncut) first second joined
      left.length_kept (carried n d domains tables t.ways left.handed)
