-- The refusal and the verdict that run and chooser return, exactly.
-- Assumes nothing.
use mathlib.Core.Path.{◌≡◌, sym, ap, ◌∙◌}
use mathlib.Core.Logic.{⊎_elim}
use mathlib.Core.Bool.{Bool, true, false, cond, ◌&&◌, ◌||◌}
use mathlib.Core.List.{List, [], ◌∷◌}
use Prim.Native.Nat.{ℕ, ◌+◌, ◌*◌, ◌%◌, ◌≤◌, ◌<◌}
use native.Mathlib.Omega.{arith}
use native.Mathlib.Decide.{ℕ_discrete}
use lib.ListN.{length, get_or}
use lib.Dec.{eqb, leb, ltb}
use borrow.Author.Tests.{eq-eqb, ne_eqb}
use Rattle.problem.specs.Problem.{Problem, problem_of}
use Rattle.splits.specs.Subproblems.{all_instantiated}
use Rattle.splits.specs.declared.subproblem.Subproblem.{Subproblem}
use Rattle.search.specs.Agenda.{stack_of, slots_in}
use Rattle.search.specs.Slots.{slots, Search, Stopped}
use Rattle.problem.specs.Tests.FirstChecks.{or_else, masks_below, symmetric, refusal_of_numbers, refusal_of_problem}
use Rattle.search.specs.Tests.FirstChecks.{all_obey, zeros_from, whole_slots, refusal_of_lengths, refusal_of_requests, refusal_of_search, open_refusal, search_refusal, run_refusal}
use Rattle.searches.specs.Verdicts.{number_of, verdict_of}
use Rattle.searches.specs.Tests.Refusal.{refusal_of_request}
use Rattle.searches.specs.Runs.{run, requests_in}
use Rattle.searches.specs.Chooser.{chosen, choose}
use Rattle.search.specs.Calls.{search_of, Ends}
use Rattle.search.specs.Promises.{NoneIf, ExactRefusal, RunExact, ChooseExact}
use Rattle.search.specs.declared.state.State.{State}
use Rattle.search.specs.Outcomes.{Ran}
use Rattle.searches.specs.declared.verdict.Verdict.TheVariants.{None, Running, Solved}
use Rattle.searches.proofs.Runs.{stops}
use Rattle.searches.proofs.Picking.{choose_stops}
use Rattle.searches.proofs.Numbers.{Late, run_late, choose_late}

-- ---- which numbers there are

cond_few : (b : Bool) (x y most : ℕ) → x ≤ most → y ≤ most → cond b x y ≤ most
cond_few true x y most h k = h
cond_few false x y most h k = k

-- The first checks give 0 to 6.
search_few : (p : Problem) (agenda : List ℕ) (steps checks subproblems : ℕ) → refusal_of_search p agenda steps checks subproblems ≤ 6
unfolding refusal_of_search
search_few p agenda steps checks subproblems =
    cond_few (leb subproblems (slots_in p.n (length agenda)) && all_obey p (stack_of p.n agenda subproblems)
    && zeros_from (subproblems * (p.n + 2)) agenda && leb checks (496 * steps)) 0 6 6 (omega arith) (omega arith)

problem_few : (p : Problem) → refusal_of_problem p ≤ 6
unfolding refusal_of_problem
problem_few p =
    cond_few (masks_below p) (cond (symmetric p) 0 5) 4 6 (cond_few (symmetric p) 0 5 6 (omega arith) (omega arith)) (omega arith)

lengths_few : (n d x y z : ℕ) → refusal_of_lengths n d x y z ≤ 6
unfolding refusal_of_lengths
lengths_few n d x y z = cond_few (eqb x n && eqb y (n * n * d) && whole_slots n z) 0 3 6 (omega arith) (omega arith)

numbers_few : (n d : ℕ) → refusal_of_numbers n d ≤ 6
unfolding refusal_of_numbers
numbers_few n d =
    cond_few (ltb n 1 || ltb 32 n) 1 (cond (ltb d 1 || ltb 16 d) 2 0) 6 (omega arith)
    (cond_few (ltb d 1 || ltb 16 d) 2 0 6 (omega arith) (omega arith))

requests_few : (n words : ℕ) → refusal_of_requests n words ≤ 6
unfolding refusal_of_requests
requests_few n words = cond_few (eqb (words % (n + 3)) 0) 0 3 6 (omega arith) (omega arith)

else_few : (a b : ℕ) → a ≤ 6 → b ≤ 6 → or_else a b ≤ 6
else_few a b h k = cond_few (eqb a 0) b a 6 k h

pub search_refusal_few : (n d : ℕ) (domains tables agenda : List ℕ) (steps checks subproblems : ℕ)
    → search_refusal n d domains tables agenda steps checks subproblems ≤ 6
unfolding search_refusal open_refusal
search_refusal_few n d domains tables agenda steps checks subproblems =
    let p : Problem = problem_of n d domains tables in
    let lengths : ℕ = refusal_of_lengths n d (length domains) (length tables) (length agenda) in
    let problem : ℕ = refusal_of_problem p in
    else_few (or_else (refusal_of_numbers n d) (or_else lengths problem)) (refusal_of_search p agenda steps checks subproblems)
    (else_few (refusal_of_numbers n d) (or_else lengths problem) (numbers_few n d)
    (else_few lengths problem (lengths_few n d (length domains) (length tables) (length agenda)) (problem_few p)))
    (search_few p agenda steps checks subproblems)

run_refusal_few : (n d : ℕ) (domains tables agenda requests : List ℕ) (steps checks subproblems : ℕ)
    → run_refusal n d domains tables agenda requests steps checks subproblems ≤ 6
unfolding run_refusal
run_refusal_few n d domains tables agenda requests steps checks subproblems =
    let p : Problem = problem_of n d domains tables in
    let lengths : ℕ = refusal_of_lengths n d (length domains) (length tables) (length agenda) in
    let list : ℕ = refusal_of_requests n (length requests) in
    let problem : ℕ = refusal_of_problem p in
    let last : ℕ = refusal_of_search p agenda steps checks subproblems in
    else_few (refusal_of_numbers n d) (or_else lengths (or_else list (or_else problem last))) (numbers_few n d)
    (else_few lengths (or_else list (or_else problem last)) (lengths_few n d (length domains) (length tables) (length agenda))
    (else_few list (or_else problem last) (requests_few n (length requests)) (else_few problem last (problem_few p) (search_few p agenda steps checks subproblems))))

-- ---- of any call that ends so

-- A stack's verdict is not none.
some_number : (n : ℕ) (S : List Subproblem) → number_of (verdict_of n S) ≡ 0 → ⊥
unfolding verdict_of
some_number n [] e = omega (arith, e)
some_number n (P ∷ S) e = by (all_instantiated n P) e
  where
    by : (b : Bool) → number_of (cond b Solved Running) ≡ 0 → ⊥
    by true e = omega (arith, e)
    by false e = omega (arith, e)

module _ (first n : ℕ) (before after : List ℕ) (s : State) (x : Stopped) (r : Ran) (ends : Ends first n before after s x r) where
  refused_first : (first ≡ 0 → ⊥) → r.refusal ≡ first
  refused_first h = let test : eqb first 0 ≡ false = ne_eqb first 0 h in rw test at ends.refusal

  same_refusal : first ≡ 0 → r.refusal ≡ x.refusal
  same_refusal e = let test : eqb first 0 ≡ true = eq-eqb first 0 e in rw test at ends.refusal

  same_taken : first ≡ 0 → r.taken ≡ x.taken
  same_taken e = let test : eqb first 0 ≡ true = eq-eqb first 0 e in rw test at ends.taken

  same_verdict : first ≡ 0 → r.verdict ≡ verdict_of n x.search.memory
  same_verdict e = let test : eqb first 0 ≡ true = eq-eqb first 0 e in rw test at ends.verdict

  pub none_if : NoneIf first r
  none_if = (
    (λ e none. some_number n x.search.memory (sym (ap number_of (same_verdict none)) ∙ e)),
    (λ h. let test : eqb first 0 ≡ false = ne_eqb first 0 h in let v : r.verdict ≡ None = rw test at ends.verdict in ap number_of v),
  )

  -- Exact, if a late refusal is given exactly where the run is running, fewer than `most` were taken, and it is the next one's.
  exact : (most : ℕ) (next : Ran → ℕ) → first ≤ 6 → Late x.refusal
      → ((k : ℕ) → 7 ≤ k → r.taken ≡ x.taken → x.refusal ≡ k → (number_of (verdict_of n x.search.memory) ≡ 1) × (x.taken < most) × (next r ≡ k))
      → ((k : ℕ) → 7 ≤ k → r.taken ≡ x.taken → number_of (verdict_of n x.search.memory) ≡ 1 → x.taken < most → next r ≡ k → x.refusal ≡ k) → ExactRefusal first most next r
  exact most next few late there back = (
    (λ k some small. (
      (λ e. elim (ℕ_discrete first 0) [
        | yes none ↦
            let same = same_refusal none in
            ⊎_elim (λ z. absurd (omega (arith, z, same, e, some))) (λ z. absurd (omega (arith, z, same, e, small))) late
        | no h ↦ sym (refused_first h) ∙ e
      ]),
      (λ e. refused_first (λ z. omega (arith, z, e, some)) ∙ e),
    )),
    (λ k big. (
      (λ e. elim (ℕ_discrete first 0) [
        | yes none ↦
            let (v, t, m) = there k big (same_taken none) (sym (same_refusal none) ∙ e) in
            (none, ap number_of (same_verdict none) ∙ v, (let same = same_taken none in omega (arith, same, t)), m)
        | no h ↦ let same = refused_first h in absurd (omega (arith, same, e, few, big))
      ]),
      (λ w.
          let (none, v, t, m) = w in
          same_refusal none ∙ back k big (same_taken none) (sym (ap number_of (same_verdict none)) ∙ v) (let same = same_taken none in omega (arith, same, t)) m),
    )),
  )

-- ---- a run

pub run_exact : RunExact
run_exact n d domains tables before after requests s r runs =
    let p : Problem = problem_of n d domains tables in
    let room : ℕ = slots_in n (length before) in
    let rs : List (List ℕ) = requests_in n requests in
    let y : Search = search_of n before s in
    let x : Stopped = run p (slots room) rs y in
    let first : ℕ = run_refusal n d domains tables before requests s.counts.steps.0 s.counts.checks.0 s.subproblems in
    exact first n before after s x r runs (length rs) (λ z. refusal_of_request p (slots room) (get_or rs z.taken []) x.search)
    (run_refusal_few n d domains tables before requests s.counts.steps.0 s.counts.checks.0 s.subproblems) (run_late p (slots room) rs y)
    (λ k big same e. ⊎_elim (λ f. absurd (let z = f.refusal in omega (arith, z, e, big)))
    (λ w. ⊎_elim
    (λ f. (f.verdict, f.request, ap (λ j. refusal_of_request p (slots room) (get_or rs j []) x.search) same ∙ sym f.refusal ∙ e))
    (λ f. absurd (let z = f.refusal in omega (arith, z, e, big))) w) (stops p (slots room) rs y).1)
    (λ k big same v t m. ⊎_elim (λ f. absurd (f.verdict v))
    (λ w. ⊎_elim (λ f. f.refusal ∙ ap (λ j. refusal_of_request p (slots room) (get_or rs j []) x.search) (sym same) ∙ m)
    (λ f. absurd (let z = f.taken in omega (arith, z, t))) w) (stops p (slots room) rs y).1)

-- ---- the chooser

pub choose_exact : ChooseExact
choose_exact n d domains tables before after limit s r chooses =
    let p : Problem = problem_of n d domains tables in
    let room : ℕ = slots_in n (length before) in
    let first : ℕ = search_refusal n d domains tables before s.counts.steps.0 s.counts.checks.0 s.subproblems in
    let y : Search = search_of n before s in
    let x : Stopped = choose p (slots room) limit y in
    exact first n before after s x r chooses limit (λ z. refusal_of_request p (slots room) (chosen p (slots room) x.search.memory) x.search)
    (search_refusal_few n d domains tables before s.counts.steps.0 s.counts.checks.0 s.subproblems) (choose_late p (slots room) limit y)
    (λ k big same e. ⊎_elim (λ f. absurd (let z = f.refusal in omega (arith, z, e, big)))
    (λ w. ⊎_elim (λ f. (f.verdict, f.below, sym f.refusal ∙ e)) (λ f. absurd (let z = f.refusal in omega (arith, z, e, big))) w)
    (choose_stops p (slots room) limit y).1)
    (λ k big same v t m. ⊎_elim (λ f. absurd (f.verdict v))
    (λ w. ⊎_elim (λ f. f.refusal ∙ m) (λ f. absurd (let z = f.taken in omega (arith, z, t))) w) (choose_stops p (slots room) limit y).1)
