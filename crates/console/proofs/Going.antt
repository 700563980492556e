-- A run or the chooser for C, in words: refused at its first checks it leaves every byte, and what its verdict says.
-- Assumes nothing.
use mathlib.Core.Path.{◌≡◌, refl, sym, ap, subst, ◌∙◌}
use mathlib.Core.Logic.{◌⊎◌, inl, inr, ⊎_elim}
use mathlib.Core.List.{List, []}
use Prim.Native.Nat.{ℕ, zero, suc, ◌+◌, ◌-◌, ◌*◌, ◌%◌, ◌≤◌, ◌<◌}
use native.Mathlib.Omega.{arith}
use native.Mathlib.Decide.{ℕ_discrete}
use lib.ListN.{length, get_or, take, drop}
use lib.Seq.{get_or-take, get_or-drop}
use borrow.Author.Tests.{ne_eqb}
use Rattle.problem.specs.Problem.{table_of, problem_of}
use Rattle.problem.specs.Masks.{◌∈◌, single, lowest}
use Rattle.splits.specs.Subproblems.{domain}
use Rattle.splits.specs.declared.subproblem.Subproblem.{Subproblem}
use Rattle.search.specs.Agenda.{slots_in, stack_of, slot_at, subproblem_of, holding}
use Rattle.searches.specs.Verdicts.{number_of}
use Rattle.search.specs.Slots.{slots, Stopped}
use Rattle.searches.specs.Runs.{run, requests_in}
use Rattle.searches.specs.Chooser.{choose}
use Rattle.search.specs.FirstChecks.{WholeRequests}
use Rattle.search.specs.Tests.FirstChecks.{run_refusal, search_refusal}
use Rattle.search.specs.Calls.{search_of, Ends}
use Rattle.searches.specs.Promises.{Shown}
use Rattle.search.specs.Promises.{Handed, VerdictSays}
use Rattle.search.specs.declared.state.State.{State}
use Rattle.search.specs.Outcomes.{Ran}
use Rattle.searches.specs.declared.verdict.Verdict.TheVariants.{None}
use Rattle.search.proofs.first_checks.FirstPassing.{run_is_passed}
use Rattle.search.proofs.Promises.{run_exact, choose_exact, none_if_run, none_if_choose, run_says, chooser_says}
use Rattle.blocks.proofs.Lists.{padded_at}
use Rattle.word_bytes.specs.Bytes.{Bytes, Whole, words_of, bytes_of}
use Rattle.word_bytes.proofs.Words.{words_again, bytes_again, words_small}
use Rattle.console.specs.Calls.{state_of, unwhole, WholeProblem, HandsOut}
use Rattle.console.specs.Searches.{Held, Typed, Outcome, Way, by_requests, by_chooser, GoesOn, slot_word, PlanIn}
use Rattle.console.proofs.OneOutcome.{whole_or_not}
use Rattle.console.proofs.parts.Runs.{run_handed}

-- The three numbers as a state.
abbrev pub state_in : Held → State
state_in s = state_of s.steps s.checks s.subproblems

-- Nothing changed, and verdict and taken 0.
abbrev pub alone : Held → ℕ → Outcome
alone s k = record { held = s; verdict = 0; taken = 0; refusal = k }

-- Two outcomes whose parts are equal.
pub outcome_is : (o q : Outcome) → o.held.agenda ≡ q.held.agenda → o.held.steps ≡ q.held.steps → o.held.checks ≡ q.held.checks
    → o.held.subproblems ≡ q.held.subproblems → o.verdict ≡ q.verdict → o.taken ≡ q.taken → o.refusal ≡ q.refusal → o ≡ q
outcome_is o q a b c e f g h =
    λ i. record {
      held = record { agenda = a i; steps = b i; checks = c i; subproblems = e i };
      verdict = f i;
      taken = g i;
      refusal = h i;
    }

-- A call that ended so, in words.
pub record Went (n : ℕ) (s : Held) (first : ℕ) (x : Stopped) (o : Outcome) : Type 0 where
  pub ran : Ran
  pub ends : Ends first n (words_of s.agenda) (words_of o.held.agenda) (state_in s) x ran
  pub out : HandsOut ran o.held.steps o.held.checks o.held.subproblems o.verdict o.taken o.refusal
  pub said : o.held.agenda ≡ bytes_of (words_of o.held.agenda)

-- The bytes of a way that are to be whole words.
unfoldable pub list_of : Way → List ℕ
list_of (by_requests requests) = requests
list_of (by_chooser limit) = []

module _ (n d : ℕ) (domains tables : List ℕ) (s : Held) where
  -- Its first checks, and where it stops.
  unfoldable pub first_of : Way → ℕ
  first_of (by_requests requests) =
      run_refusal n d (words_of domains) (words_of tables) (words_of s.agenda) (words_of requests) s.steps s.checks s.subproblems
  first_of (by_chooser limit) = search_refusal n d (words_of domains) (words_of tables) (words_of s.agenda) s.steps s.checks s.subproblems

  unfoldable pub stopped_of : Way → Stopped
  stopped_of (by_requests requests) =
      run (problem_of n d (words_of domains) (words_of tables)) (slots (slots_in n (length (words_of s.agenda)))) (requests_in n (words_of requests))
      (search_of n (words_of s.agenda) (state_in s))
  stopped_of (by_chooser limit) =
      choose (problem_of n d (words_of domains) (words_of tables)) (slots (slots_in n (length (words_of s.agenda)))) limit
      (search_of n (words_of s.agenda) (state_in s))

  pub went : (way : Way) (o : Outcome) → WholeProblem domains tables s.agenda → Whole (list_of way) → GoesOn n d domains tables s way o
      → Went n s (first_of way) (stopped_of way) o
  unfolding GoesOn list_of first_of stopped_of
  went (by_requests requests) o w e h =
      let x = h.runs.whole w e in
      let again : words_of o.held.agenda ≡ x.left = ap words_of x.said ∙ words_again x.left in
      record { ran = h.outcome; ends = rw again x.runs; out = h.hands_out; said = x.said ∙ ap bytes_of (sym again) }
  went (by_chooser limit) o w e h =
      let x = h.chooses.whole w in
      let again : words_of o.held.agenda ≡ x.left = ap words_of x.said ∙ words_again x.left in
      record { ran = h.outcome; ends = rw again x.chooses; out = h.hands_out; said = x.said ∙ ap bytes_of (sym again) }

  odd_out : (way : Way) (o : Outcome) (r : Ran) → HandsOut r o.held.steps o.held.checks o.held.subproblems o.verdict o.taken o.refusal
      → (r ≡ record { verdict = None; refusal = unwhole n d; taken = 0; state = state_in s }) → o.held.agenda ≡ s.agenda → o ≡ alone s (unwhole n d)
  odd_out way o r out e same =
      outcome_is o (alone s (unwhole n d)) same (out.its_steps ∙ ap (λ (y : Ran). y.state.counts.steps.0) e)
      (out.its_checks ∙ ap (λ (y : Ran). y.state.counts.checks.0) e) (out.its_subproblems ∙ ap (λ (y : Ran). y.state.subproblems) e)
      (out.its_verdict ∙ ap (λ (y : Ran). number_of y.verdict) e) (out.its_taken ∙ ap (λ (y : Ran). y.taken) e)
      (out.its_refusal ∙ ap (λ (y : Ran). y.refusal) e)

  -- Where some slice is not whole words.
  odd_way : (way : Way) (o : Outcome) → (WholeProblem domains tables s.agenda → Whole (list_of way) → ⊥) → GoesOn n d domains tables s way o
      → o ≡ alone s (unwhole n d)
  unfolding GoesOn list_of
  odd_way (by_requests requests) o f h = let (e, same) = h.runs.odd f in odd_out (by_requests requests) o h.outcome h.hands_out e same
  odd_way (by_chooser limit) o f h =
      let (e, same) = h.chooses.odd (λ w. f w refl) in odd_out (by_chooser limit) o h.outcome h.hands_out e same

  -- It is one or the other.
  pub whole_or_odd : (way : Way) (o : Outcome) → GoesOn n d domains tables s way o
      → (WholeProblem domains tables s.agenda × Whole (list_of way)) ⊎ (o ≡ alone s (unwhole n d))
  whole_or_odd way o h = elim (whole_or_not domains tables s.agenda) [
    | yes w ↦ elim (ℕ_discrete (length (list_of way) % 2) 0) [
      | yes e ↦ inl (w, e)
      | no f ↦ inr (odd_way way o (λ v e. f e) h)
    ]
    | no f ↦ inr (odd_way way o (λ v e. f v) h)
  ]

  -- 1 to 6 are the first checks'.
  first_not : (way : Way) (o : Outcome) → WholeProblem domains tables s.agenda → Whole (list_of way) → GoesOn n d domains tables s way o
      → 1 ≤ o.refusal → o.refusal ≤ 6 → first_of way ≡ 0 → ⊥
  unfolding first_of stopped_of
  first_not (by_requests requests) o w e h low high z =
      let x = went (by_requests requests) o w e h in
      let same = ((run_exact n d _ _ _ _ _ (state_in s) x.ran x.ends).0 o.refusal low high).0 (sym x.out.its_refusal) in
      let none : 0 ≡ o.refusal = sym z ∙ same in
      omega arith
  first_not (by_chooser limit) o w e h low high z =
      let x = went (by_chooser limit) o w e h in
      let same = ((choose_exact n d _ _ _ _ _ (state_in s) x.ran x.ends).0 o.refusal low high).0 (sym x.out.its_refusal) in
      let none : 0 ≡ o.refusal = sym z ∙ same in
      omega arith

  -- The first checks pass unless the verdict is none.
  first_none : (way : Way) (o : Outcome) (w : WholeProblem domains tables s.agenda) (e : Whole (list_of way)) (h : GoesOn n d domains tables s way o)
      → (o.verdict ≡ 0 → ⊥) → first_of way ≡ 0
  unfolding first_of stopped_of
  first_none (by_requests requests) o w e h f = elim (ℕ_discrete (first_of (by_requests requests)) 0) [
    | yes z ↦ z
    | no g ↦
        let x = went (by_requests requests) o w e h in
        absurd (f (x.out.its_verdict ∙ (none_if_run n d _ _ _ _ _ (state_in s) x.ran x.ends).1 g))
  ]
  first_none (by_chooser limit) o w e h f = elim (ℕ_discrete (first_of (by_chooser limit)) 0) [
    | yes z ↦ z
    | no g ↦
        let x = went (by_chooser limit) o w e h in
        absurd (f (x.out.its_verdict ∙ (none_if_choose n d _ _ _ _ _ (state_in s) x.ran x.ends).1 g))
  ]

-- Refused at its first checks, it leaves all.
ends_alone : (n : ℕ) (s : Held) (first : ℕ) (x : Stopped) (o : Outcome) → Bytes s.agenda → Whole s.agenda → Went n s first x o
    → (first ≡ 0 → ⊥) → o ≡ alone s o.refusal
ends_alone n s first x o bytes even w f =
    let test = ne_eqb first 0 f in
    let e = w.ends in
    outcome_is o (alone s o.refusal) (w.said ∙ ap bytes_of (rw test at e.agenda) ∙ bytes_again s.agenda even bytes)
    (w.out.its_steps ∙ rw test at e.steps) (w.out.its_checks ∙ rw test at e.checks) (w.out.its_subproblems ∙ rw test at e.subproblems)
    (w.out.its_verdict ∙ ap number_of (rw test at e.verdict)) (w.out.its_taken ∙ rw test at e.taken) refl

pub first_left : (n d : ℕ) (domains tables : List ℕ) (s : Held) (way : Way) (o : Outcome) → Typed s → GoesOn n d domains tables s way o
    → 1 ≤ o.refusal → o.refusal ≤ 6 → o ≡ alone s o.refusal
first_left n d domains tables s way o typed h low high =
    ⊎_elim
    (λ (w, e). ends_alone n s _ _ o typed.bytes w.of_agenda (went n d domains tables s way o w e h)
    (first_not n d domains tables s way o w e h low high))
    (λ e. e ∙ ap (alone s) (sym (ap (λ (x : Outcome). x.refusal) e))) (whole_or_odd n d domains tables s way o h)

-- ---- what the verdict says

-- A call that is not refused at its first checks: in words, with what its verdict says.
pub record Passed (n d : ℕ) (domains tables : List ℕ) (s : Held) (way : Way) (o : Outcome) : Type 0 where
  pub whole : WholeProblem domains tables s.agenda
  pub list : Whole (list_of way)
  pub first : first_of n d domains tables s way ≡ 0
  pub goes : Went n s (first_of n d domains tables s way) (stopped_of n d domains tables s way) o
  pub handed : Handed n d (words_of domains) (words_of tables) (words_of s.agenda) (state_in s)
  pub says : VerdictSays n d (words_of domains) (words_of tables) (words_of o.held.agenda) goes.ran

pub requests_whole : (n d : ℕ) (domains tables requests : List ℕ) (s : Held) → first_of n d domains tables s (by_requests requests) ≡ 0
    → WholeRequests n (length (words_of requests))
unfolding first_of
requests_whole n d domains tables requests s z =
    ((run_is_passed n d (words_of domains) (words_of tables) (words_of s.agenda) s.steps s.checks s.subproblems (words_of requests)).0 z).1

run_passes : (n d : ℕ) (domains tables requests : List ℕ) (s : Held) (o : Outcome) → Typed s → WholeProblem domains tables s.agenda → Whole requests
    → GoesOn n d domains tables s (by_requests requests) o → (o.verdict ≡ 0 → ⊥) → Passed n d domains tables s (by_requests requests) o
unfolding list_of first_of stopped_of
run_passes n d domains tables requests s o typed w e h f =
    let z = first_none n d domains tables s (by_requests requests) o w e h f in
    let x = went n d domains tables s (by_requests requests) o w e h in
    let handed = run_handed n d (words_of domains) (words_of tables) (words_of s.agenda) (state_in s) (words_small s.agenda typed.bytes)
    typed.stepped (words_of requests) z in
    record {
      whole = w;
      list = e;
      first = z;
      goes = x;
      handed = handed;
      says = run_says n d _ _ _ _ (words_of requests) (state_in s) x.ran handed (requests_whole n d domains tables requests s z) x.ends;
    }

choose_passes : (n d : ℕ) (domains tables : List ℕ) (limit : ℕ) (s : Held) (o : Outcome) → Typed s → WholeProblem domains tables s.agenda
    → Whole (list_of (by_chooser limit)) → GoesOn n d domains tables s (by_chooser limit) o → (o.verdict ≡ 0 → ⊥)
    → Passed n d domains tables s (by_chooser limit) o
unfolding first_of stopped_of
choose_passes n d domains tables limit s o typed w e h f =
    let z = first_none n d domains tables s (by_chooser limit) o w e h f in
    let x = went n d domains tables s (by_chooser limit) o w e h in
    let handed : Handed n d (words_of domains) (words_of tables) (words_of s.agenda) (state_in s) =
    record { words = words_small s.agenda typed.bytes; stepped = typed.stepped; passes = z } in
    record {
      whole = w;
      list = e;
      first = z;
      goes = x;
      handed = handed;
      says = chooser_says n d _ _ _ _ limit (state_in s) x.ran handed x.ends;
    }

pub passes_so : (n d : ℕ) (domains tables : List ℕ) (s : Held) (way : Way) (o : Outcome) → Typed s → GoesOn n d domains tables s way o
    → (o.verdict ≡ 0 → ⊥) → Passed n d domains tables s way o
unfolding list_of
passes_so n d domains tables s (by_requests requests) o typed h f =
    ⊎_elim (λ w. run_passes n d domains tables requests s o typed w.0 w.1 h f) (λ e. absurd (f (ap (λ (x : Outcome). x.verdict) e)))
    (whole_or_odd n d domains tables s (by_requests requests) o h)
passes_so n d domains tables s (by_chooser limit) o typed h f =
    ⊎_elim (λ w. choose_passes n d domains tables limit s o typed w.0 w.1 h f) (λ e. absurd (f (ap (λ (x : Outcome). x.verdict) e)))
    (whole_or_odd n d domains tables s (by_chooser limit) o h)

-- The masks of a slot are the domains of the subproblem that it holds.
slot_mask : (n : ℕ) (agenda : List ℕ) (k i : ℕ) → i < n → domain (subproblem_of n (slot_at n (words_of agenda) k)) i ≡ slot_word n agenda k i
unfolding subproblem_of holding slot_at
slot_mask n agenda k i h =
    padded_at (take n (take (n + 2) (drop (k * (n + 2)) (words_of agenda)))) (32 - n) i
    ∙ get_or-take n (take (n + 2) (drop (k * (n + 2)) (words_of agenda))) i 0 h
    ∙ get_or-take (n + 2) (drop (k * (n + 2)) (words_of agenda)) i 0 (omega arith) ∙ get_or-drop (k * (n + 2)) (words_of agenda) i 0

-- A top that shows a solution is a slot that shows a plan.
pub plan_in : (n d : ℕ) (domains tables agenda : List ℕ) (m : ℕ)
    → Shown (problem_of n d (words_of domains) (words_of tables)) (stack_of n (words_of agenda) m)
    → (1 ≤ m) × PlanIn n d domains tables agenda (m - 1)
unfolding stack_of
plan_in n d domains tables agenda zero (P, S, e, each, solution) = let none = ap length e in absurd (omega (arith, none))
plan_in n d domains tables agenda (suc m) (P, S, e, each, solution) =
    let top : subproblem_of n (slot_at n (words_of agenda) m) ≡ P = ap (λ (l : List Subproblem). get_or l 0 P) e in
    let less : suc m - 1 ≡ m = omega arith in
    (omega arith, subst (PlanIn n d domains tables agenda) (sym less) (shows top))
  where
    mask : subproblem_of n (slot_at n (words_of agenda) m) ≡ P → (i : ℕ) → i < n → domain P i ≡ slot_word n agenda m i
    mask top i h = ap (λ (Q : Subproblem). domain Q i) (sym top) ∙ slot_mask n agenda m i h

    shows : subproblem_of n (slot_at n (words_of agenda) m) ≡ P → PlanIn n d domains tables agenda m
    shows top = record {
      one_value = λ i h. subst (λ (x : ℕ). x ≡ single (lowest x)) (mask top i h) (each i h);
      plan = record {
        possible = λ i h. subst (λ (x : ℕ). lowest x ∈ get_or (words_of domains) i 0) (mask top i h) (solution.possible i h);
        consistent = λ i j h k f.
            subst (λ (x : ℕ). lowest (slot_word n agenda m j) ∈ table_of n d (words_of tables) i j (lowest x)) (mask top i h)
            (subst (λ (x : ℕ). lowest x ∈ table_of n d (words_of tables) i j (lowest (domain P i))) (mask top j k) (solution.consistent i j h k f));
      };
    }
