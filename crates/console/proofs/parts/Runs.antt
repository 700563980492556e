-- A run of two lists of requests, one after the other: of a stack, and in lent words.
-- Assumes nothing.
use mathlib.Core.Path.{◌≡◌, refl, sym, ap, ap₂, subst, ◌∙◌}
use mathlib.Core.Logic.{⊎_elim}
use mathlib.Core.Bool.{Bool, true, false}
use mathlib.Core.List.{List, [], ◌∷◌, ◌++◌, append_assoc}
use Prim.Native.Nat.{ℕ, zero, suc, ◌+◌, ◌-◌, ◌*◌, ◌^◌, ◌≤◌, ◌<◌}
use native.Mathlib.Omega.{arith}
use native.Mathlib.Nat.{mul-le-mul_right}
use native.Mathlib.Numerals.{one-add}
use native.Mathlib.Decide.{ℕ_discrete}
use lib.ListN.{length, get_or, take, drop, length-append}
use lib.Seq.{drop-nil, drop-append_seam}
use lib.Dec.{eqb}
use borrow.Author.Tests.{ne_eqb}
use Rattle.problem.specs.Problem.{Problem, problem_of}
use Rattle.splits.specs.Splits.{pieces}
use Rattle.splits.specs.declared.subproblem.Subproblem.{Subproblem}
use Rattle.search.specs.Agenda.{stack_of, stack_words, slots_in, agenda_of}
use Rattle.search.specs.Slots.{slots, Search, Stopped}
use Rattle.searches.specs.Verdicts.{number_of, finished, verdict_of}
use Rattle.searches.specs.Steps.{stop, step}
use Rattle.searches.specs.Runs.{run, requests_in}
use Rattle.searches.specs.Machines.{split_top}
use Rattle.search.specs.FirstChecks.{WholeRequests}
use Rattle.search.specs.Tests.FirstChecks.{run_refusal}
use Rattle.search.specs.Calls.{search_of, Ends, Runs, Chooses}
use Rattle.search.specs.Promises.{Handed, Leaves}
use Rattle.searches.specs.Promises.{picks}
use Rattle.search.specs.declared.state.State.{State}
use Rattle.search.specs.Outcomes.{Ran}
use Rattle.searches.specs.declared.verdict.Verdict.TheVariants.{Running}
use Rattle.searches.proofs.Verdicts.{running}
use Rattle.searches.proofs.Runs.{after, after_none, run_finished, run_taken, run_refused, run_ind, stops}
use Rattle.search.proofs.Encoding.{length_stack_of, stack_of_words}
use Rattle.search.proofs.first_checks.FirstPassing.{requests_none, search_is_passed, run_is_passed}
use Rattle.searches.proofs.Picking.{picked}
use Rattle.search.proofs.HandedOn.{known, run_leaves_so, chooser_leaves_so}
use Rattle.searches.proofs.Promises.{steps_count}
use Rattle.files.proofs.Stacks.{slots_in_lem}
use Rattle.files.proofs.Requests.{whole_append, requests_append}
use Rattle.files.proofs.LoadOutcomes.{given, not_given}
use Rattle.console.specs.Loops.Parts.{Narrow}

-- ---- of a stack

module _ (p : Problem) (room : ℕ) where
  after_more : (k : ℕ) (x : Stopped) → after 1 (after k x) ≡ after (1 + k) x
  after_more k x =
      let e : 1 + (k + x.taken) ≡ 1 + k + x.taken = omega arith in
      λ i. stop x.search x.refusal (e i)

  -- A list that is taken whole is gone on from.
  pub run_on : (qs rs : List (List ℕ)) (s : Search) → (run p (slots room) rs s).refusal ≡ 0 → (run p (slots room) rs s).taken ≡ length rs
      → run p (slots room) (rs ++ qs) s ≡ after (run p (slots room) rs s).taken (run p (slots room) qs (run p (slots room) rs s).search)
  run_on qs =
      run_ind p (slots room) (λ rs s x. x.refusal ≡ 0 → x.taken ≡ length rs → run p (slots room) (rs ++ qs) s ≡ after x.taken (run p (slots room) qs x.search))
      (λ s e t. after_none (run p (slots room) qs s))
      (λ r rs s e f t. absurd (omega (arith, t)))
      (λ r rs s e h f t. absurd (h f))
      (λ r rs s x e h same f t.
      run_taken p (slots room) r (rs ++ qs) s e h ∙ ap (after 1) (same f (omega (arith, t))) ∙ after_more x.taken (run p (slots room) qs x.search))

  is_finished : (s : Search) → (verdict_of p.n s.memory ≡ Running → ⊥) → finished p.n s.memory ≡ true
  is_finished s f = go (finished p.n s.memory) refl
    where
      go : (b : Bool) → finished p.n s.memory ≡ b → b ≡ true
      go true e = refl
      go false e = absurd (f (running p.n s.memory e))

  -- A run that stops in its list stops there, whatever follows.
  pub run_stopped : (qs rs : List (List ℕ)) (s : Search)
      → ((run p (slots room) rs s).refusal ≡ 0 → verdict_of p.n (run p (slots room) rs s).search.memory ≡ Running → ⊥) → run p (slots room) (rs ++ qs) s ≡ run p (slots room) rs s
  run_stopped qs =
      run_ind p (slots room) (λ rs s x. (x.refusal ≡ 0 → verdict_of p.n x.search.memory ≡ Running → ⊥) → run p (slots room) (rs ++ qs) s ≡ x)
      (λ s f. run_finished p (slots room) qs s (is_finished s (f refl)))
      (λ r rs s e f. run_finished p (slots room) (r ∷ rs ++ qs) s e)
      (λ r rs s e h f. run_refused p (slots room) r (rs ++ qs) s e h)
      (λ r rs s x e h same f. run_taken p (slots room) r (rs ++ qs) s e h ∙ ap (after 1) (same f))

  -- One less of a list.
  drop_one : (t : ℕ) (S : List Subproblem) → (A : List Subproblem) × (drop t S ≡ A ++ drop (suc t) S)
  drop_one t [] = ([], drop-nil t)
  drop_one zero (P ∷ S) = (P ∷ [], refl)
  drop_one (suc t) (P ∷ S) = drop_one t S

  drop_under : (t : ℕ) (A S : List Subproblem) → (U : List Subproblem) × (drop t (A ++ S) ≡ U ++ drop t S)
  drop_under t [] S = ([], refl)
  drop_under zero (P ∷ A) S = (P ∷ A, refl)
  drop_under (suc t) (P ∷ A) S =
      let (U, e) = drop_under t A S in
      let (B, f) = drop_one t S in
      (U ++ B, e ∙ ap (λ (l : List Subproblem). U ++ l) f ∙ sym (append_assoc U B (drop (suc t) S)))

  split_under : (r : List ℕ) (t : ℕ) (S : List Subproblem) → (U : List Subproblem) × (drop t (split_top p r S) ≡ U ++ drop (1 + t) S)
  unfolding split_top
  split_under r t [] = rw one-add ([], drop-nil t)
  split_under r t (P ∷ S) = rw one-add (drop_under t (pieces p.n p.allowed P r) S)

  -- Each request taken replaces one subproblem: those under them stay.
  pub run_under : (rs : List (List ℕ)) (s : Search)
      → (T : List Subproblem) × ((run p (slots room) rs s).search.memory ≡ T ++ drop (run p (slots room) rs s).taken s.memory)
  unfolding step
  run_under =
      run_ind p (slots room) (λ rs s x. (T : List Subproblem) × (x.search.memory ≡ T ++ drop x.taken s.memory))
      (λ s. ([], refl)) (λ r rs s e. ([], refl)) (λ r rs s e h. ([], refl))
      (λ r rs s x e h same.
      let (U, f) = split_under r x.taken s.memory in
      (same.0 ++ U, same.1 ∙ ap (λ (l : List Subproblem). same.0 ++ l) f ∙ sym (append_assoc same.0 U (drop (1 + x.taken) s.memory))))

  -- Still running with none refused, it took all.
  pub run_whole : (rs : List (List ℕ)) (s : Search) → (run p (slots room) rs s).refusal ≡ 0 → verdict_of p.n (run p (slots room) rs s).search.memory ≡ Running
      → (run p (slots room) rs s).taken ≡ length rs
  run_whole rs s e v =
      ⊎_elim (λ f. absurd (f.verdict (ap number_of v))) (λ k. ⊎_elim (λ f. absurd (f.refused e)) (λ f. f.taken) k) (stops p (slots room) rs s).1

-- ---- in lent words

-- The end of a part, with what the parts before it took.
abbrev pub joined : ℕ → Ran → Ran
joined taken r = record { verdict = r.verdict; refusal = r.refusal; taken = taken + r.taken; state = r.state }

-- What stands under the top slots.
drop_stack : (n : ℕ) (agenda : List ℕ) (t m : ℕ) → drop t (stack_of n agenda m) ≡ stack_of n agenda (m - t)
unfolding stack_of
drop_stack n agenda zero m = let e : m ≡ m - 0 = omega arith in ap (stack_of n agenda) e
drop_stack n agenda (suc t) zero = let e : 0 ≡ 0 - suc t = omega arith in ap (stack_of n agenda) e
drop_stack n agenda (suc t) (suc m) = let e : m - t ≡ suc m - suc t = omega arith in drop_stack n agenda t m ∙ ap (stack_of n agenda) e

-- The statement of a run at an equal list.
pub runs_list : (n d : ℕ) (domains tables before left a b : List ℕ) (s : State) (r : Ran) → a ≡ b → Runs n d domains tables before left a s r
    → Runs n d domains tables before left b s r
runs_list n d domains tables before left a b s r e h = rw (← e) h

-- 32 bits hold the subproblems of a search that passes.
few_held : (n d : ℕ) (domains tables agenda : List ℕ) (s : State) → Handed n d domains tables agenda s → s.subproblems < 4294967296
few_held n d domains tables agenda s h =
    let passed = (known n d domains tables agenda s h).passed in
    let (slots, some, most, words) = passed.passed.slots in
    let count : slots_in n (length agenda) ≡ slots = ap (slots_in n) words ∙ slots_in_lem n slots in
    omega (arith, passed.room)

-- What a call ends with that passed its first checks, and whose run took so many steps, fits 32 bits.
ends_narrow : (first n d : ℕ) (domains tables before left : List ℕ) (s : State) (x : Stopped) (r : Ran) → Ends first n before left s x r
    → s.subproblems < 4294967296 → (first ≡ 0 → Leaves n d domains tables before left r.state x.search)
    → x.search.steps ≡ s.counts.steps.0 + x.taken → Narrow r
ends_narrow first n d domains tables before left s x r ends few leaves stepped = elim (ℕ_discrete first 0) [
  | yes e ↦
      let l = leaves e in
      let taken : r.taken ≡ x.taken = rw e at ends.taken in
      let steps : r.state.counts.steps.0 ≡ x.search.steps = rw e at ends.steps in
      record { taken = omega (arith, l.handed.stepped); subproblems = few_held n d domains tables left r.state l.handed }
  | no f ↦
      let taken : r.taken ≡ 0 = rw (ne_eqb first 0 f) at ends.taken in
      let count : r.state.subproblems ≡ s.subproblems = rw (ne_eqb first 0 f) at ends.subproblems in
      record { taken = omega arith; subproblems = omega arith }
]

module _ (n d : ℕ) (domains tables before : List ℕ) (s : State) (small : (i : ℕ) → get_or before i 0 < 2 ^ 16) (stepped : s.counts.steps.0 ≤ 4294967295) where
  p : Problem
  p = problem_of n d domains tables

  room : ℕ
  room = slots_in n (length before)

  -- A search that passes the first checks of a run.
  pub run_handed : (requests : List ℕ) → run_refusal n d domains tables before requests s.counts.steps.0 s.counts.checks.0 s.subproblems ≡ 0
      → Handed n d domains tables before s
  run_handed requests e = record {
    words = small;
    stepped = stepped;
    passes =
        (search_is_passed n d domains tables before s.counts.steps.0 s.counts.checks.0 s.subproblems).1
        ((run_is_passed n d domains tables before s.counts.steps.0 s.counts.checks.0 s.subproblems requests).0 e).0;
  }

  -- What a run and the chooser return fits 32 bits.
  pub run_narrow : (left requests : List ℕ) (r : Ran) → WholeRequests n (length requests) → s.subproblems < 4294967296
      → Runs n d domains tables before left requests s r → Narrow r
  run_narrow left requests r whole few runs =
      ends_narrow _ n d domains tables before left s _ r runs few
      (λ e. (run_leaves_so n d domains tables before left requests s r (run_handed requests e) runs).0 whole)
      (steps_count (problem_of n d domains tables) (slots (slots_in n (length before))) (requests_in n requests) (search_of n before s))

  -- The steps that a run leaves fit their counter.
  pub run_stepped : (left requests : List ℕ) (r : Ran) → WholeRequests n (length requests) → Runs n d domains tables before left requests s r
      → r.state.counts.steps.0 ≤ 4294967295
  run_stepped left requests r whole runs =
      let first : ℕ = run_refusal n d domains tables before requests s.counts.steps.0 s.counts.checks.0 s.subproblems in
      elim (ℕ_discrete first 0) [
        | yes e ↦ ((run_leaves_so n d domains tables before left requests s r (run_handed requests e) runs).0 whole).handed.stepped
        | no f ↦ let same : r.state.counts.steps.0 ≡ s.counts.steps.0 = rw (ne_eqb first 0 f) at runs.steps in omega (arith, stepped)
      ]

  -- Past the slots used before and after a run nothing changes.
  pub run_past : (left requests : List ℕ) (r : Ran) → WholeRequests n (length requests) → Runs n d domains tables before left requests s r
      → (i : ℕ) → i < length before → i < length left → s.subproblems * (n + 2) ≤ i → r.state.subproblems * (n + 2) ≤ i
      → get_or left i 0 ≡ get_or before i 0
  run_past left requests r whole runs i h h' b a =
      let first : ℕ = run_refusal n d domains tables before requests s.counts.steps.0 s.counts.checks.0 s.subproblems in
      elim (ℕ_discrete first 0) [
        | yes e ↦
            let handed = run_handed requests e in
            let l = (run_leaves_so n d domains tables before left requests s r handed runs).0 whole in
            (known n d domains tables left r.state l.handed).passed.zeros i a h' ∙ sym
            ((known n d domains tables before s handed).passed.zeros i b h)
        | no f ↦ let same : left ≡ before = rw (ne_eqb first 0 f) at runs.agenda in ap (λ (w : List ℕ). get_or w i 0) same
      ]

  -- Nor below the slots that the requests taken can have replaced.
  pub run_lower : (left requests : List ℕ) (r : Ran) → WholeRequests n (length requests) → Runs n d domains tables before left requests s r
      → take ((s.subproblems - r.taken) * (n + 2)) left ≡ take ((s.subproblems - r.taken) * (n + 2)) before
  run_lower left requests r whole runs =
      let first : ℕ = run_refusal n d domains tables before requests s.counts.steps.0 s.counts.checks.0 s.subproblems in
      let x : Stopped = run (problem_of n d domains tables) (slots (slots_in n (length before))) (requests_in n requests) (search_of n before s) in
      elim (ℕ_discrete first 0) [
        | yes e ↦
            let handed = run_handed requests e in
            let passed = (known n d domains tables before s handed).passed in
            let l = (run_leaves_so n d domains tables before left requests s r handed runs).0 whole in
            let (slots, some, most, words) = passed.passed.slots in
            let count : slots_in n (length before) ≡ slots = ap (slots_in n) words ∙ slots_in_lem n slots in
            let k : ℕ = s.subproblems - r.taken in
            let inside : k * (n + 2) ≤ slots * (n + 2) = mul-le-mul_right (n + 2) (omega (arith, passed.room)) in
            let (T, under) = run_under (problem_of n d domains tables) (slots_in n (length before)) (requests_in n requests) (search_of n before s) in
            let taken : r.taken ≡ x.taken = rw e at runs.taken in
            let same : stack_of n left r.state.subproblems ≡ T ++ stack_of n before k =
            ap (λ (y : Search). y.memory) l.search ∙ under
            ∙ ap (λ (j : ℕ). T ++ drop j (stack_of n before s.subproblems)) (sym taken)
            ∙ ap (λ (S : List Subproblem). T ++ S) (drop_stack n before r.taken s.subproblems) in
            let sum : r.state.subproblems ≡ length T + k =
            sym (length_stack_of n left r.state.subproblems) ∙ ap length same ∙ length-append T (stack_of n before k)
            ∙ ap (λ (j : ℕ). length T + j) (length_stack_of n before k) in
            let less : r.state.subproblems - length T ≡ k = omega arith in
            let stack : stack_of n left k ≡ stack_of n before k =
            ap (stack_of n left) (sym less) ∙ sym (drop_stack n left (length T) r.state.subproblems) ∙ ap (drop (length T)) same
            ∙ drop-append_seam T (stack_of n before k) in
            sym (stack_of_words n left k (omega (arith, l.length_kept)) l.handed.words) ∙ ap (stack_words n) stack
            ∙ stack_of_words n before k (omega arith) small
        | no f ↦
            let same : left ≡ before = rw (ne_eqb first 0 f) at runs.agenda in
            ap (take ((s.subproblems - r.taken) * (n + 2))) same
      ]

  pub choose_narrow : (left : List ℕ) (limit : ℕ) (r : Ran) → s.subproblems < 4294967296 → Chooses n d domains tables before left limit s r
      → Narrow r
  choose_narrow left limit r few chooses =
      let as-run = picked (problem_of n d domains tables) (slots (slots_in n (length before))) limit (search_of n before s) 0 in
      ends_narrow _ n d domains tables before left s _ r chooses few
      (λ e. chooser_leaves_so n d domains tables before left limit s r (record { words = small; stepped = stepped; passes = e }) chooses)
      (rw as-run
      (steps_count (problem_of n d domains tables) (slots (slots_in n (length before)))
      (picks (problem_of n d domains tables) (slots (slots_in n (length before))) limit (search_of n before s)) (search_of n before s)))

  module _ (mid a b : List ℕ) (r : Ran) (wa : WholeRequests n (length a)) (wb : WholeRequests n (length b)) (runs : Runs n d domains tables before mid a s r) where
    first : List ℕ → ℕ
    first requests = run_refusal n d domains tables before requests s.counts.steps.0 s.counts.checks.0 s.subproblems

    -- The list's length apart, the first checks do not read the requests.
    first_same : first (a ++ b) ≡ first a
    unfolding first run_refusal
    first_same = rw ((requests_none n (length a)).1 wa, (requests_none n (length (a ++ b))).1 (whole_append n a b wa wb)) refl

    -- A run that is not refused passed its first checks.
    passed : r.refusal ≡ 0 → first a ≡ 0
    unfolding first
    passed e = elim (ℕ_discrete (first a) 0) [
      | yes z ↦ z
      | no f ↦ absurd (f (sym (rw (ne_eqb (first a) 0 f) at runs.refusal) ∙ e))
    ]

    x0 : Search
    x0 = search_of n before s

    x1 : Stopped
    x1 = run p (slots room) (requests_in n a) x0

    -- The run of both lists, where the first was taken whole.
    pub run_joined : r.refusal ≡ 0 → r.taken ≡ length (requests_in n a) → (left : List ℕ) (q : Ran) → Runs n d domains tables mid left b r.state q
        → Runs n d domains tables before left (a ++ b) s (joined r.taken q)
    unfolding first p room x0 x1
    run_joined e t left q more =
        let zero : first a ≡ 0 = passed e in
        let l = (run_leaves_so n d domains tables before mid a s r (run_handed a zero) runs).0 wa in
        let none : run_refusal n d domains tables mid b r.state.counts.steps.0 r.state.counts.checks.0 r.state.subproblems ≡ 0 =
        (run_is_passed n d domains tables mid r.state.counts.steps.0 r.state.counts.checks.0 r.state.subproblems b).1
        ((known n d domains tables mid r.state l.handed).passed, wb) in
        let x2 : Stopped = run p (slots (slots_in n (length mid))) (requests_in n b) (search_of n mid r.state) in
        let same : x2 ≡ run p (slots room) (requests_in n b) x1.search =
        ap₂ (λ (k : ℕ) (y : Search). run p (slots k) (requests_in n b) y) (ap (slots_in n) l.length_kept) l.search in
        let refused : x1.refusal ≡ 0 = sym (rw zero at runs.refusal) ∙ e in
        let taken : r.taken ≡ x1.taken = rw zero at runs.taken in
        let whole : run p (slots room) (requests_in n (a ++ b)) x0 ≡ after x1.taken x2 =
        ap (λ (rs : List (List ℕ)). run p (slots room) rs x0) (requests_append n a b wa wb)
        ∙ run_on p room (requests_in n b) (requests_in n a) x0 refused (sym taken ∙ t) ∙ ap (after x1.taken) (sym same) in
        let all : first (a ++ b) ≡ 0 = first_same ∙ zero in
        record {
          verdict =
              given (first (a ++ b)) _ _ _ all ((rw none at more.verdict) ∙ sym (ap (λ (y : Stopped). verdict_of n y.search.memory) whole));
          refusal = given (first (a ++ b)) _ _ _ all ((rw none at more.refusal) ∙ sym (ap (λ (y : Stopped). y.refusal) whole));
          taken = given (first (a ++ b)) _ _ _ all (ap₂ ◌+◌ taken (rw none at more.taken) ∙ sym (ap (λ (y : Stopped). y.taken) whole));
          steps = given (first (a ++ b)) _ _ _ all ((rw none at more.steps) ∙ sym (ap (λ (y : Stopped). y.search.steps) whole));
          checks = given (first (a ++ b)) _ _ _ all ((rw none at more.checks) ∙ sym (ap (λ (y : Stopped). y.search.checks) whole));
          subproblems =
              given (first (a ++ b)) _ _ _ all ((rw none at more.subproblems) ∙ sym (ap (λ (y : Stopped). length y.search.memory) whole));
          agenda = given (first (a ++ b)) _ _ _ all ((rw none at more.agenda) ∙ ap (λ (k : ℕ). agenda_of n k x2.search.memory) l.length_kept
              ∙ sym (ap (λ (y : Stopped). agenda_of n (length before) y.search.memory) whole));
        }

    -- It is the run of the first, where this was refused or is not running any more.
    pub run_ended : (r.refusal ≡ 0 → r.verdict ≡ Running → ⊥) → Runs n d domains tables before mid (a ++ b) s r
    unfolding first p room x0 x1
    run_ended f = elim (ℕ_discrete (first a) 0) [
      | yes nothing ↦
          let refused : r.refusal ≡ x1.refusal = rw nothing at runs.refusal in
          let verdict : r.verdict ≡ verdict_of n x1.search.memory = rw nothing at runs.verdict in
          let same : run p (slots room) (requests_in n (a ++ b)) x0 ≡ x1 =
          ap (λ (rs : List (List ℕ)). run p (slots room) rs x0) (requests_append n a b wa wb)
          ∙ run_stopped p room (requests_in n b) (requests_in n a) x0 (λ e v. f (refused ∙ e) (verdict ∙ v)) in
          subst (λ (k : ℕ). Ends k n before mid s (run p (slots room) (requests_in n (a ++ b)) x0) r) (sym first_same)
          (subst (λ (y : Stopped). Ends (first a) n before mid s y r) (sym same) runs)
      | no some ↦
          let test : eqb (first a) 0 ≡ false = ne_eqb (first a) 0 some in
          let all : first (a ++ b) ≡ 0 → ⊥ = λ e. some (sym first_same ∙ e) in
          record {
            verdict = not_given (first (a ++ b)) _ _ _ all (rw test at runs.verdict);
            refusal = not_given (first (a ++ b)) _ _ _ all ((rw test at runs.refusal) ∙ sym first_same);
            taken = not_given (first (a ++ b)) _ _ _ all (rw test at runs.taken);
            steps = not_given (first (a ++ b)) _ _ _ all (rw test at runs.steps);
            checks = not_given (first (a ++ b)) _ _ _ all (rw test at runs.checks);
            subproblems = not_given (first (a ++ b)) _ _ _ all (rw test at runs.subproblems);
            agenda = not_given (first (a ++ b)) _ _ _ all (rw test at runs.agenda);
          }
    ]

    -- Still running with none refused, it took all.
    pub took_all : r.refusal ≡ 0 → r.verdict ≡ Running → r.taken ≡ length (requests_in n a)
    unfolding first p room x0 x1
    took_all e v =
        let zero : first a ≡ 0 = passed e in
        (rw zero at runs.taken) ∙ run_whole p room (requests_in n a) x0 (sym (rw zero at runs.refusal) ∙ e)
        (sym (rw zero at runs.verdict) ∙ v)
