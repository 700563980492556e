-- What holds of every search begun by opening: it passes, keeps the problem's solvability, and its measure falls with each step.
-- Assumes nothing.
use mathlib.Core.Path.{◌≡◌, refl, sym, ap, ap₂, ◌∙◌}
use mathlib.Core.Logic.{inl, inr, ⊎_elim, ◌↔◌}
use mathlib.Core.List.Memᴰ
use mathlib.Core.List.{List, Memᴰ, [], ◌∷◌, ◌++◌}
use Prim.Native.Nat.{ℕ, zero, suc, ◌+◌, ◌-◌, ◌*◌, ◌≤◌}
use native.Mathlib.Omega.{arith}
use native.Mathlib.Nat.{zero-add}
use Rattle.problem.specs.Masks.{bit, size}
use Rattle.problem.specs.Problem.{Problem, Proper, possibilities}
use Rattle.problem.specs.Lists.{total, sum}
use Rattle.splits.specs.Subproblems.{Instantiated, Rules, SolutionOf}
use Rattle.splits.specs.Splits.{pieces}
use Rattle.splitting.specs.Measure.{unmarked, measure}
use Rattle.splitting.specs.Promises.{Splits, Solvable}
use Rattle.splits.specs.declared.subproblem.Subproblem.{Subproblem}
use Rattle.problem.proofs.mask.Masks.{bit_none, member_some}
use Rattle.problem.proofs.Products.{product_same}
use Rattle.splitting.proofs.Promises.{sound, cover, falls}
use Rattle.searches.specs.Machines.{Machine, Lawful}
use Rattle.searches.specs.Steps.{Search, step}
use Rattle.searches.specs.Tests.Refusal.{refusal_of_request}
use Rattle.searches.specs.Runs.{run}
use Rattle.searches.specs.Chooser.{choose}
use Rattle.searches.specs.Reached.{Passes, Whole, EmptyDomain, Opening, begin, Reached, opened, ran, chose, moved}
use Rattle.searches.specs.Promises.{HasSolution, Limited, picks}
use Rattle.searches.proofs.Verdicts.{running_top}
use Rattle.searches.proofs.Runs.{run_ind}
use Rattle.searches.proofs.Passing.{step_stack, splits, step_passes}
use Rattle.searches.proofs.Picking.{picked}

-- Some subproblem of a stack has a solution.
abbrev pub SomeSolvable : Problem → List Subproblem → Type 0
SomeSolvable p S = (P : Subproblem) × Memᴰ P S × Solvable p P

-- Of an empty stack none has.
pub none_solvable : (p : Problem) (S : List Subproblem) → S ≡ [] → SomeSolvable p S → ⊥
none_solvable p S e (P, m, g) = Memᴰ.not-nil (rw e at m)

-- The invariant: with `limit` the measure of the opening.
pub record Holds (p : Problem) (M : Machine) (limit : ℕ) (s : Search M.Memory) : Type 0 where
  pub passes : Passes p M s
  pub solvable : HasSolution p ↔ SomeSolvable p (M.stack p s.memory)
  pub falling : sum (measure p.n) (M.stack p s.memory) + s.steps ≤ limit

-- ---- a step

sum_append : (g : Subproblem → ℕ) (l m : List Subproblem) → sum g (l ++ m) ≡ sum g l + sum g m
unfolding sum
sum_append g [] m = sym (zero-add (sum g m))
sum_append g (x ∷ l) m = omega (arith, sum_append g l m)

-- The pieces are solvable where P is.
split_solvable : (p : Problem) (P : Subproblem) (S : List Subproblem) (r : List ℕ) → Splits p P r
    → SomeSolvable p (P ∷ S) ↔ SomeSolvable p (pieces p.n p.allowed P r ++ S)
split_solvable p P S r s = (to, from)
  where
    to : SomeSolvable p (P ∷ S) → SomeSolvable p (pieces p.n p.allowed P r ++ S)
    to (Q, m, f) =
        ⊎_elim
        (λ (e : Q ≡ P). let (R, k, g) = cover p P r s (rw e at f) in (R, Memᴰ.append_left S k, g))
        (λ (k : Memᴰ Q S). (Q, Memᴰ.append_right (pieces p.n p.allowed P r) k, f)) (Memᴰ.cases_cons m)

    from : SomeSolvable p (pieces p.n p.allowed P r ++ S) → SomeSolvable p (P ∷ S)
    from (Q, m, (f, g)) =
        ⊎_elim
        (λ (k : Memᴰ Q (pieces p.n p.allowed P r)). (P, Memᴰ.head refl, (f, sound p P r s Q k f g)))
        (λ (k : Memᴰ Q S). (Q, Memᴰ.tail k, (f, g))) (Memᴰ.append_cases (pieces p.n p.allowed P r) m)

step_holds : (p : Problem) (M : Machine) → Lawful M → (limit : ℕ) (P : Subproblem) (S : List Subproblem) (s : Search M.Memory) (r : List ℕ)
    → M.stack p s.memory ≡ P ∷ S → refusal_of_request p M r s ≡ 0 → Holds p M limit s → Holds p M limit (step p M r s)
unfolding sum step
step_holds p M law limit P S s r top k h =
    let split : Splits p P r = splits p M law P S s r h.passes top k in
    let there = split_solvable p P S r split in
    let before : sum (measure p.n) (P ∷ S) + s.steps ≤ limit = rw top at h.falling in
    let old : HasSolution p ↔ SomeSolvable p (P ∷ S) = rw top at h.solvable in
    let is = step_stack p M law P S s r h.passes.fits top k in
    record {
      passes = step_passes p M law P S s r h.passes top k;
      solvable = rw is (λ f. there.0 (old.0 f), λ f. old.1 (there.1 f));
      falling = rw is (omega (arith, before, sum_append (measure p.n) (pieces p.n p.allowed P r) S, falls p P r split));
    }

-- ---- a run and the chooser

run_holds : (p : Problem) (M : Machine) → Lawful M → (limit : ℕ) (rs : List (List ℕ)) (s : Search M.Memory) → Holds p M limit s
    → Holds p M limit (run p M rs s).search
run_holds p M law limit =
    run_ind p M (λ rs s x. Holds p M limit s → Holds p M limit x.search) (λ s h. h) (λ r rs s e h. h) (λ r rs s e k h. h)
    (λ r rs s x e k more h. let (P, S, top) = running_top p.n (M.stack p s.memory) e in more (step_holds p M law limit P S s r top k h))

choose_holds : (p : Problem) (M : Machine) → Lawful M → (limit m : ℕ) (s : Search M.Memory) → Holds p M limit s
    → Holds p M limit (choose p M m s).search
choose_holds p M law limit m s h = rw (picked p M m s 0) (run_holds p M law limit (picks p M m s) s h)

-- Other memory in order that reads as the same stack changes nothing.
move_holds : (p : Problem) (M N : Machine) (limit : ℕ) (s : Search M.Memory) (m : N.Memory) → N.Fits p m
    → N.stack p m ≡ M.stack p s.memory → Holds p M limit s → Holds p N limit (record { memory = m; steps = s.steps; checks = s.checks })
move_holds p M N limit s m fits same h = record {
  passes = record {
    proper = h.passes.proper;
    rules = λ P k. h.passes.rules P (rw same at k);
    fits = fits;
    counted = h.passes.counted;
    stepped = h.passes.stepped;
  };
  solvable = rw same h.solvable;
  falling = rw same h.falling;
}

-- ---- opening

none_marked : (n : ℕ) → total n (λ i. 1 - bit 0 i) ≡ n
unfolding total
none_marked zero = refl
none_marked (suc n) = omega (arith, none_marked n, bit_none n)

module _ (p : Problem) (P : Subproblem) (whole : Whole p P) where
  first_free : (i : ℕ) → Instantiated P i → ⊥
  first_free i o = let z : bit 0 i ≡ 1 = rw (← whole.marked) o in omega (arith, bit_none i, z)

  first_measure : measure p.n P ≡ possibilities p.n p.domain * (p.n + 1) - 1
  unfolding measure unmarked possibilities
  first_measure =
      rw whole.marked
      (ap₂ (λ (x y : ℕ). x * (y + 1) - 1) (product_same p.n _ _ (λ i l. ap size (whole.domains i l))) (none_marked p.n))

  first_rules : (EmptyDomain p → ⊥) → Rules p P
  first_rules filled = record {
    filled = λ i k z. filled (i, k, sym (whole.domains i k) ∙ z);
    part = λ i k v m. rw (whole.domains i k) at m;
    one_value = λ i k o. absurd (first_free i o);
    mutual_values = λ i j a b k l q o u m t. absurd (first_free i o);
    marks = λ i k o. first_free i o;
  }

  -- It has the problem's solutions.
  first_solvable : HasSolution p ↔ SomeSolvable p (P ∷ [])
  first_solvable = (to, from)
    where
      to : HasSolution p → SomeSolvable p (P ∷ [])
      to (f, s) = (P, Memᴰ.head refl, (f, record { possible = λ i k. rw (whole.domains i k) (s.possible i k); consistent = s.consistent }))

      from : SomeSolvable p (P ∷ []) → HasSolution p
      from (Q, m, (f, s)) =
          let e : Q ≡ P = Memᴰ.eq_of_singleton m in
          let t : SolutionOf p P f = rw e at s in
          (f, record { possible = λ i k. rw (whole.domains i k) at (t.possible i k); consistent = t.consistent })

-- The measure of the problem.
abbrev pub whole_measure : Problem → ℕ
whole_measure p = possibilities p.n p.domain * (p.n + 1) - 1

opening_holds : (p : Problem) (M : Machine) (start : List Subproblem) → Proper p → Opening p start → (m : M.Memory) → M.Fits p m
    → M.stack p m ≡ start → Holds p M (whole_measure p) (begin m)
unfolding sum
opening_holds p M start proper (inl ((i, k, z), none)) m fits is = record {
  passes = record {
    proper = proper;
    rules = λ P q. absurd (Memᴰ.not-nil (rw (is ∙ none) at q));
    fits = fits;
    counted = omega arith;
    stepped = omega arith;
  };
  solvable = rw (is ∙ none) (λ h. absurd (member_some (p.domain i) (h.0 i) (h.1.possible i k) z), λ h. absurd (Memᴰ.not-nil h.1));
  falling = rw (is ∙ none) (omega arith);
}
opening_holds p M start proper (inr (filled, (P, whole, one))) m fits is = record {
  passes = record {
    proper = proper;
    rules = λ Q q. rw (Memᴰ.eq_of_singleton (rw (is ∙ one) at q)) (first_rules p P whole filled);
    fits = fits;
    counted = omega arith;
    stepped = omega arith;
  };
  solvable = rw (is ∙ one) (first_solvable p P whole);
  falling = rw (is ∙ one) (omega (arith, first_measure p P whole));
}

-- ---- every reached search

module _ (M : ℕ → Machine) (law : (room : ℕ) → Lawful (M room)) (p : Problem) (start : List Subproblem) (proper : Proper p) (opening : Opening p start) where
  -- The invariant holds of it.
  pub reached_holds : {room : ℕ} {s : Search (M room).Memory} → Reached M p start room s → Holds p (M room) (whole_measure p) s
  reached_holds (opened {room} m fits is) = opening_holds p (M room) start proper opening m fits is
  reached_holds (ran {room} {s} h rs) = run_holds p (M room) (law room) _ rs s (reached_holds h)
  reached_holds (chose {room} {s} h limit) = choose_holds p (M room) (law room) _ limit s (reached_holds h)
  reached_holds (moved {room} {s} h {other} m fits same) = move_holds p (M room) (M other) _ s m fits same (reached_holds h)

  -- So the steps are few.
  pub steps_few : {room : ℕ} {s : Search (M room).Memory} → Reached M p start room s → Limited p s.steps
  steps_few {room} {s} h =
      let count : ℕ = possibilities p.n p.domain in
      let l : s.steps ≤ count * (p.n + 1) - 1 = omega (arith, (reached_holds h).falling) in
      (l, λ e. let k : s.steps ≤ 0 * (p.n + 1) - 1 = rw e at l in omega arith, omega arith)
