-- A run in the front of an agenda: where the front has room for all that the requests can make, and only zeros come after it, the run in all of the
-- agenda is the same.
-- Assumes nothing.
use mathlib.Core.Path.{◌≡◌, refl, sym, ap, ap₂, subst, ◌∙◌}
use mathlib.Core.Bool.{Bool, true, false, not, cond}
use mathlib.Core.List.{List, [], ◌∷◌, ◌++◌, map, append_assoc}
use Prim.Native.Nat.{ℕ, zero, suc, ◌+◌, ◌-◌, ◌*◌, ◌≤◌}
use native.Mathlib.Omega.{arith}
use native.Mathlib.Nat.{mul-le-mul_right}
use native.Mathlib.Decide.{dec_lt}
use lib.ListN.{length, get_or, take, drop, replicate, length-append, length-drop, length-map, length-replicate, replicate-append-replicate, get_or-eq_default}
use lib.Seq.{take-append-le, drop-append-le, ext_get_or}
use lib.Dec.{eqb}
use borrow.Author.Tests.{le-leb, le-ltb, eqb-true, eq-eqb}
use Rattle.problem.specs.Problem.{Problem, Table, problem_of}
use Rattle.splits.specs.Subproblems.{domain, empty}
use Rattle.problem.specs.Lists.{every, below, keep}
use Rattle.splits.specs.Requests.{kind_of, variable_of, value_of, target_of}
use Rattle.splits.specs.Splits.{forbidden, instantiate, disjunct, extract, backtracking, forward_checking, idc, halving, extraction, named, filled, pieces}
use Rattle.splits.specs.declared.subproblem.Subproblem.{Subproblem}
use Rattle.problem.proofs.Tests.{every_at, every_all, same_test}
use Rattle.search.specs.Agenda.{subproblem_of, slot_at, stack_of, slots_in, stack_words, agenda_of}
use Rattle.search.specs.Slots.{slots, Search, Stopped}
use Rattle.searches.specs.Steps.{stop, step}
use Rattle.searches.specs.Tests.Refusal.{refusal_of_top, refusal_of_request}
use Rattle.searches.specs.Runs.{run_from, run, requests_in}
use Rattle.searches.specs.Machines.{split_top}
use Rattle.search.specs.Tests.FirstChecks.{refusal_of_lengths, zeros_from, refusal_of_search, run_refusal}
use Rattle.search.specs.Calls.{search_of, Ends, Runs}
use Rattle.search.specs.declared.state.State.{State}
use Rattle.search.specs.Outcomes.{Ran}
use Rattle.searches.proofs.Runs.{after, run_finished, run_taken, run_refused, run_ind}
use Rattle.search.proofs.Encoding.{length_stack_of}
use Rattle.search.proofs.first_checks.Deserved.{slots_is}
use Rattle.problem.proofs.Copies.{zeros_at}
use Rattle.blocks.proofs.Lists.{below_length, padded_at}
use Rattle.files.proofs.Stacks.{slots_in_lem}

-- ---- a request makes n + 2 pieces at most

keep_few : {A : Type 0} (f : A → Bool) (l : List A) → length (keep f l) ≤ length l
unfolding keep
keep_few f [] = omega arith
keep_few f (x ∷ l) = go (f x) (keep_few f l)
  where
    go : (b : Bool) → length (keep f l) ≤ length l → length (cond b (x ∷ keep f l) (keep f l)) ≤ suc (length l)
    go true h = omega arith
    go false h = omega arith

either_few : {A : Type 0} (b : Bool) (x y : List A) (m : ℕ) → length x ≤ m → length y ≤ m → length (cond b x y) ≤ m
either_few true x y m h k = h
either_few false x y m h k = k

-- One for each of some numbers below n.
some_few : (n : ℕ) (f : ℕ → Subproblem) (g : ℕ → Bool) → length (map f (keep g (below n))) ≤ n
some_few n f g = rw length-map (omega (arith, keep_few g (below n), below_length n))

named_few : (n : ℕ) (allowed : Table) (P : Subproblem) (r : List ℕ) → length (named n allowed P r) ≤ n + 2
unfolding named backtracking forward_checking idc halving extraction
named_few n allowed P r =
    let a = backtracking n allowed P (variable_of r) (value_of r) in
    let first : length a ≤ n + 2 =
    rw length-append
    (omega (
      arith,
      either_few (forbidden n allowed P (variable_of r) (value_of r)) [] (instantiate P (variable_of r) (value_of r) ∷ []) 1 (omega arith) (omega arith),
    ))
    in
    either_few (eqb (kind_of r) 1) _ _ (n + 2) first
    (either_few (eqb (kind_of r) 2) _ _ (n + 2) (omega arith)
    (either_few (eqb (kind_of r) 3) _ _ (n + 2) (omega (arith, some_few n (disjunct allowed P (variable_of r) (value_of r)) (λ j. not (eqb j (variable_of r)))))
    (either_few (eqb (kind_of r) 4) _ _ (n + 2) (omega arith)
    (either_few (eqb (kind_of r) 5) _ _ (n + 2) (omega (arith, some_few n (extract P r) (λ j. not (eqb (target_of r j) (domain P j))))) (omega arith)))))

pieces_few : (n : ℕ) (allowed : Table) (P : Subproblem) (r : List ℕ) → length (pieces n allowed P r) ≤ n + 2
unfolding pieces filled
pieces_few n allowed P r = omega (arith, keep_few (λ Q. not (empty n Q)) (named n allowed P r), named_few n allowed P r)

-- ---- more room than the requests can use

module _ (p : Problem) where
  split_few : (r : List ℕ) (S : List Subproblem) → length (split_top p r S) ≤ length S + (p.n + 1)
  unfolding split_top
  split_few r [] = omega arith
  split_few r (P ∷ S) = rw length-append (omega (arith, pieces_few p.n p.allowed P r))

  module _ (room room' : ℕ) (more : room ≤ room') where
    top_roomy : (r : List ℕ) (S : List Subproblem) → length S + (p.n + 1) ≤ room
        → refusal_of_top p ((slots room').full p r S) r S ≡ refusal_of_top p ((slots room).full p r S) r S
    unfolding refusal_of_top
    top_roomy r [] l = refl
    top_roomy r (P ∷ S) l =
        let few : length (split_top p r (P ∷ S)) ≤ suc (length S) + (p.n + 1) = split_few r (P ∷ S) in
        rw (le-ltb room' (length (split_top p r (P ∷ S))) (omega arith), le-ltb room (length (split_top p r (P ∷ S))) (omega arith)) refl

    refusal_roomy : (r : List ℕ) (s : Search) → length s.memory + (p.n + 1) ≤ room → refusal_of_request p (slots room') r s ≡ refusal_of_request p (slots room) r s
    unfolding refusal_of_request
    refusal_roomy r s h = ap (cond (eqb s.steps 4294967295) 11) (top_roomy r s.memory h)

    -- Room for n + 1 more subproblems a request is as good as any.
    pub run_roomy : (rs : List (List ℕ)) (s : Search) → length s.memory + (p.n + 1) * length rs ≤ room → run p (slots room') rs s ≡ run p (slots room) rs s
    unfolding run_from step
    run_roomy =
        run_ind p (slots room) (λ rs s x. length s.memory + (p.n + 1) * length rs ≤ room → run p (slots room') rs s ≡ x)
        (λ s h. refl)
        (λ r rs s e h. run_finished p (slots room') (r ∷ rs) s e)
        (λ r rs s e k h.
        let same = refusal_roomy r s (omega (arith, turn (length rs))) in
        run_refused p (slots room') r rs s e (λ z. k (sym same ∙ z)) ∙ ap (λ (k : ℕ). stop s k 0) same)
        (λ r rs s x e k ih h.
        run_taken p (slots room') r rs s e (refusal_roomy r s (omega (arith, turn (length rs))) ∙ k)
        ∙ ap (after 1) (ih (omega (arith, turn (length rs), split_few r s.memory))))
      where
        turn : (k : ℕ) → (p.n + 1) * suc k ≡ (p.n + 1) + (p.n + 1) * k
        turn k = omega arith

-- ---- zeros after the front

-- Every word is zero.
abbrev pub Zeros : List ℕ → Type 0
Zeros l = (i : ℕ) → get_or l i 0 ≡ 0

zeros_are : (l : List ℕ) → Zeros l → l ≡ replicate (length l) 0
zeros_are l h = ext_get_or 0 l (replicate (length l) 0) (sym (length-replicate (length l) 0)) (λ i k. h i ∙ sym (zeros_at (length l) i))

-- Words that are zero from a place on.
pub zeros_each : (from : ℕ) (l : List ℕ) → zeros_from from l ≡ true → (i : ℕ) → get_or l (from + i) 0 ≡ 0
unfolding zeros_from
zeros_each from l e i = elim (dec_lt (from + i) (length l)) [
  | yes h ↦ eqb-true (get_or l (from + i) 0) 0 (every_at (λ k. eqb (get_or l (from + k) 0) 0) (length l - from) i (omega arith) e)
  | no h ↦ let past : length l ≤ from + i = omega arith in get_or-eq_default l 0 past
]

-- A slot of the front.
slot_front : (n k : ℕ) (a z : List ℕ) → (k + 1) * (n + 2) ≤ length a → slot_at n (a ++ z) k ≡ slot_at n a k
unfolding slot_at
slot_front n k a z h =
    let inside : k * (n + 2) + (n + 2) ≤ length a = omega arith in
    ap (take (n + 2)) (drop-append-le (k * (n + 2)) a z (omega arith))
    ∙ take-append-le (n + 2) (drop (k * (n + 2)) a) z (rw length-drop (omega arith))

stack_front : (n m : ℕ) (a z : List ℕ) → m * (n + 2) ≤ length a → stack_of n (a ++ z) m ≡ stack_of n a m
unfolding stack_of
stack_front n zero a z h = refl
stack_front n (suc m) a z h =
    let up : suc m * (n + 2) ≡ (m + 1) * (n + 2) = omega arith in
    ap₂ (λ (w : List ℕ) (S : List Subproblem). subproblem_of n w ∷ S) (slot_front n m a z (omega arith)) (stack_front n m a z (omega arith))

-- Zeros after it do not change whether it is zero from a place on.
zeros_front : (from : ℕ) (a z : List ℕ) → Zeros z → zeros_from from (a ++ z) ≡ zeros_from from a
unfolding zeros_from
zeros_front from a z h =
    same_test (every (length (a ++ z) - from) (λ k. eqb (get_or (a ++ z) (from + k) 0) 0)) (every (length a - from) (λ k. eqb (get_or a (from + k) 0) 0))
    (λ e. every_all (λ k. eqb (get_or a (from + k) 0) 0) (length a - from)
    (λ i l. subst (λ (x : ℕ). eqb x 0 ≡ true) (same (from + i))
    (every_at (λ k. eqb (get_or (a ++ z) (from + k) 0) 0) (length (a ++ z) - from) i (omega (arith, length-append a z)) e)))
    (λ e. every_all (λ k. eqb (get_or (a ++ z) (from + k) 0) 0) (length (a ++ z) - from)
    (λ i l. eq-eqb (get_or (a ++ z) (from + i) 0) 0 (same (from + i) ∙ zeros_each from a e i)))
  where
    same : (i : ℕ) → get_or (a ++ z) i 0 ≡ get_or a i 0
    same i = ap (λ (l : List ℕ). get_or (a ++ l) i 0) (zeros_are z h) ∙ padded_at a (length z) i

-- The first checks find the same.
first_front : (n d : ℕ) (domains tables a z requests : List ℕ) (steps checks m slots all : ℕ) → length a ≡ slots * (n + 2)
    → length (a ++ z) ≡ all * (n + 2) → 1 ≤ slots → slots ≤ all → all ≤ 512 → m ≤ slots → Zeros z
    → run_refusal n d domains tables (a ++ z) requests steps checks m ≡ run_refusal n d domains tables a requests steps checks m
unfolding run_refusal refusal_of_lengths refusal_of_search
first_front n d domains tables a z requests steps checks m slots all its whole some within few l h =
    let held : m * (n + 2) ≤ slots * (n + 2) = mul-le-mul_right (n + 2) l in
    let full : m ≤ slots_in n (length (a ++ z)) = omega (arith, ap (slots_in n) whole ∙ slots_in_lem n all) in
    let part : m ≤ slots_in n (length a) = omega (arith, ap (slots_in n) its ∙ slots_in_lem n slots) in
    rw (
      slots_is n (length (a ++ z)) (all, omega arith, few, whole),
      slots_is n (length a) (slots, some, omega arith, its),
      le-leb m (slots_in n (length (a ++ z))) full,
      le-leb m (slots_in n (length a)) part,
      stack_front n m a z (omega arith),
      zeros_front (m * (n + 2)) a z h,
    ) refl

-- An agenda with more room is the agenda with more zeros.
agenda_front : (n : ℕ) (S : List Subproblem) (a y z : List ℕ) → length y ≡ length a → Zeros z → y ≡ agenda_of n (length a) S
    → y ++ z ≡ agenda_of n (length (a ++ z)) S
unfolding agenda_of
agenda_front n S a y z kept h e =
    let W = stack_words n S in
    let long : length W + (length a - length W) ≡ length a =
    sym (rw (length-append, length-replicate) at (ap length e)) ∙ kept in
    let rest : length a - length W + length z ≡ length (a ++ z) - length W = omega (arith, length-append a z) in
    ap₂ ◌++◌ e (zeros_are z h) ∙ append_assoc W (replicate (length a - length W) 0) (replicate (length z) 0)
    ∙ ap (λ (l : List ℕ). W ++ l) (replicate-append-replicate (length a - length W) (length z) 0 ∙ ap (λ (k : ℕ). replicate k 0) rest)

ends_front : (first n : ℕ) (a y z : List ℕ) (s : State) (x : Stopped) (r : Ran) → length y ≡ length a → Zeros z → Ends first n a y s x r
    → Ends first n (a ++ z) (y ++ z) s x r
ends_front first n a y z s x r kept h ends = record {
  verdict = ends.verdict;
  refusal = ends.refusal;
  taken = ends.taken;
  steps = ends.steps;
  checks = ends.checks;
  subproblems = ends.subproblems;
  agenda = go (eqb first 0) ends.agenda;
}
  where
    go : (b : Bool) → y ≡ cond b (agenda_of n (length a) x.search.memory) a
        → y ++ z ≡ cond b (agenda_of n (length (a ++ z)) x.search.memory) (a ++ z)
    go true e = agenda_front n x.search.memory a y z kept h e
    go false e = ap (λ (l : List ℕ). l ++ z) e

-- A run in the front, of whole slots, more than the requests can use, of an agenda of whole slots that has only zeros after it.
pub runs_front : (n d : ℕ) (domains tables a y z requests : List ℕ) (s : State) (r : Ran) (front all : ℕ) → length a ≡ front * (n + 2)
    → length (a ++ z) ≡ all * (n + 2) → 1 ≤ front → front ≤ all → all ≤ 512 → length y ≡ length a → Zeros z
    → s.subproblems + (n + 1) * length (requests_in n requests) ≤ front
    → Runs n d domains tables a y requests s r → Runs n d domains tables (a ++ z) (y ++ z) requests s r
runs_front n d domains tables a y z requests s r front all its whole some within few kept h room runs =
    subst (λ (k : ℕ). Ends k n (a ++ z) (y ++ z) s (run p (slots (slots_in n (length (a ++ z)))) rs (search_of n (a ++ z) s)) r) (sym first_same)
    (subst (λ (x : Stopped). Ends (first a) n (a ++ z) (y ++ z) s x r) (sym run_same) (ends_front (first a) n a y z s _ r kept h runs))
  where
    p : Problem
    p = problem_of n d domains tables

    rs : List (List ℕ)
    rs = requests_in n requests

    first : List ℕ → ℕ
    first agenda = run_refusal n d domains tables agenda requests s.counts.steps.0 s.counts.checks.0 s.subproblems

    few_slots : slots_in n (length a) ≡ front
    few_slots = ap (slots_in n) its ∙ slots_in_lem n front

    all_slots : slots_in n (length (a ++ z)) ≡ all
    all_slots = ap (slots_in n) whole ∙ slots_in_lem n all

    held : s.subproblems * (n + 2) ≤ length a
    held = let up : s.subproblems * (n + 2) ≤ front * (n + 2) = mul-le-mul_right (n + 2) (omega arith) in omega arith

    stack_same : stack_of n (a ++ z) s.subproblems ≡ stack_of n a s.subproblems
    stack_same = stack_front n s.subproblems a z held

    first_same : first (a ++ z) ≡ first a
    first_same =
        first_front n d domains tables a z requests s.counts.steps.0 s.counts.checks.0 s.subproblems front all its whole some within few
        (omega arith) h

    run_same : run p (slots (slots_in n (length (a ++ z)))) rs (search_of n (a ++ z) s) ≡ run p (slots (slots_in n (length a))) rs (search_of n a s)
    run_same =
        ap
        (λ (S : List Subproblem). run p (slots (slots_in n (length (a ++ z)))) rs
        (record { memory = S; steps = s.counts.steps.0; checks = s.counts.checks.0 }))
        stack_same
        ∙ run_roomy p (slots_in n (length a)) (slots_in n (length (a ++ z))) (omega (arith, few_slots, all_slots)) rs (search_of n a s)
        (omega (arith, few_slots, length_stack_of n a s.subproblems))
