-- What a call leaves in lent words, handed on: it passes the first checks again, and holds the search that the call left.
-- Assumes nothing.
use mathlib.Core.Path.{◌≡◌, refl, sym, ap, ◌∙◌}
use mathlib.Core.Logic.{⊎_elim}
use mathlib.Core.Bool.{Bool, true, false, cond}
use mathlib.Core.List.Memᴰ
use mathlib.Core.List.{List, Memᴰ, [], ◌∷◌}
use Prim.Native.Nat.{ℕ, zero, suc, ◌+◌, ◌-◌, ◌*◌, ◌^◌, ◌≤◌, ◌<◌}
use native.Mathlib.Omega.{arith}
use native.Mathlib.Decide.{ℕ_discrete, dec_lt}
use native.Mathlib.Nat.{mul-le-mul_right, lt_of_lt_of_le, mul-div_cancel, le_of_eq}
use lib.ListN.{length, get_or, take, length-append, length-replicate, get_or-eq_default}
use lib.Seq.{get_or-append-add, length-take-le}
use lib.Pow.{pow_mono, pow_pos}
use lib.Dec.{eqb}
use borrow.Author.Tests.{eq-eqb, ne_eqb}
use Rattle.problem.specs.Problem.{Problem, table_of, problem_of}
use Rattle.problem.specs.Lists.{some}
use Rattle.splits.specs.Splits.{pieces}
use Rattle.splits.specs.declared.subproblem.Subproblem.{Subproblem}
use Rattle.splits.proofs.Promises.{request_accepted}
use Rattle.problem.specs.Ranges.{Sized}
use Rattle.search.specs.Agenda.{holding, Shape, stack_of, slot_words, stack_words, slots_in, agenda_of}
use Rattle.search.specs.Slots.{slots, Search, Stopped}
use Rattle.searches.specs.Steps.{step}
use Rattle.searches.specs.Tests.Refusal.{refusal_of_request}
use Rattle.searches.specs.Runs.{run, requests_in}
use Rattle.searches.specs.Chooser.{choose}
use Rattle.search.specs.Tests.FirstChecks.{open_refusal, refusal_of_requests}
use Rattle.search.specs.FirstChecks.{WholeSlots, WholeRequests}
use Rattle.search.specs.Calls.{search_of, opening, Opens, Ends, Runs, Chooses, begun}
use Rattle.search.specs.Outcomes.{Ran}
use Rattle.search.specs.Outcomes.{Opened}
use Rattle.searches.specs.Reached.{Passes}
use Rattle.search.specs.Promises.{Handed, Leaves, VerdictSays}
use Rattle.searches.specs.Promises.{picks}
use Rattle.search.specs.declared.state.State.{State}
use Rattle.search.proofs.first_checks.FirstPassing.{Passed, PassedSearch, requests_none, open_is_passed, search_is_passed, run_is_passed}
use Rattle.search.proofs.first_checks.Admitting.{search_ready}
use Rattle.searches.proofs.Picking.{picked}
use Rattle.search.proofs.Reaching.{reached_opened, reached_passes}
use Rattle.searches.specs.Verdicts.{number_of, verdict_of}
use Rattle.searches.proofs.Verdicts.{running_top, is_unsolvable, is_solved, unsolvable_if, solved_top, shown, all_instantiated_lem}
use Rattle.searches.proofs.Runs.{run_ind}
use Rattle.searches.proofs.Refusals.{is_none}
use Rattle.searches.proofs.Passing.{step_passes, run_passes, top_held}
use Rattle.search.proofs.Slots.{slots_lawful, step_is}
use Rattle.search.proofs.step.Shapes.{pieces_regular}
use Rattle.problem.proofs.Copies.{append_small, zeros_at}
use Rattle.search.proofs.Encoding.{length_stack, length_stack_of, length_agenda, agenda_back}

-- Every subproblem of a stack has the shape of a slot.
abbrev pub Shaped : ℕ → ℕ → List Subproblem → Type 0
Shaped n d S = (P : Subproblem) → Memᴰ P S → Shape n d P

-- The subproblems that a run leaves have the shape of a slot, if those that it found have.
module _ (n d : ℕ) (domains tables : List ℕ) (room : ℕ) (fit : Sized n d tables) where
  step_shaped : (P : Subproblem) (S : List Subproblem) (s : Search) (r : List ℕ) → Passes (problem_of n d domains tables) (slots room) s → s.memory ≡ P ∷ S
      → refusal_of_request (problem_of n d domains tables) (slots room) r s ≡ 0 → Shaped n d s.memory → Shaped n d (step (problem_of n d domains tables) (slots room) r s).memory
  step_shaped P S s r h top none shaped =
      let accepted = ((is_none (problem_of n d domains tables) (slots room) P S s r top).0 none).1 in
      rw (step_is (problem_of n d domains tables) room P S s r top)
      (λ Q m.
      ⊎_elim
      (λ k. (pieces_regular n d tables P r fit (shaped P (rw top (Memᴰ.head refl))) ((request_accepted n d P r).1 accepted) Q k).shape)
      (λ k. shaped Q (rw top (Memᴰ.tail k)))
      (Memᴰ.append_cases (pieces n (table_of n d tables) P r) m))

  pub run_shaped : (rs : List (List ℕ)) (s : Search) → Passes (problem_of n d domains tables) (slots room) s → Shaped n d s.memory
      → Shaped n d (run (problem_of n d domains tables) (slots room) rs s).search.memory
  run_shaped =
      run_ind (problem_of n d domains tables) (slots room)
      (λ rs s x. Passes (problem_of n d domains tables) (slots room) s → Shaped n d s.memory → Shaped n d x.search.memory)
      (λ s h k. k) (λ r rs s e h k. k) (λ r rs s e f h k. k)
      (λ r rs s x e f more h k.
      let (P, S, top) = running_top n s.memory e in
      more (step_passes (problem_of n d domains tables) (slots room) (slots_lawful room) P S s r h top f) (step_shaped P S s r h top f k))

-- ---- words of 16 bits

take_small : (B n : ℕ) (a : List ℕ) → 0 < B → ((i : ℕ) → get_or a i 0 < B) → (i : ℕ) → get_or (take n a) i 0 < B
take_small B zero a z h i = z
take_small B (suc n) [] z h i = z
take_small B (suc n) (x ∷ a) z h zero = h 0
take_small B (suc n) (x ∷ a) z h (suc i) = take_small B n a z (λ j. h (suc j)) i

two_small : (B a b : ℕ) → a < B → b < B → (i : ℕ) → get_or (a ∷ b ∷ []) i 0 < B
two_small B a b h k zero = h
two_small B a b h k (suc zero) = k
two_small B a b h k (suc (suc i)) = omega arith

slot_small : (n d : ℕ) (P : Subproblem) → d ≤ 16 → Shape n d P → (i : ℕ) → get_or (slot_words n P) i 0 < 2 ^ 16
unfolding slot_words
slot_small n d P small s =
    append_small (2 ^ 16) (take n P.domains) _
    (take_small (2 ^ 16) n P.domains (omega arith) (λ j. lt_of_lt_of_le (s.masks j) (pow_mono small)))
    (two_small (2 ^ 16) _ _ (omega (arith, s.marks)) (omega arith))

stack_small : (n d : ℕ) (S : List Subproblem) → d ≤ 16 → Shaped n d S → (i : ℕ) → get_or (stack_words n S) i 0 < 2 ^ 16
unfolding stack_words
stack_small n d [] small h = λ i. omega arith
stack_small n d (P ∷ S) small h =
    append_small (2 ^ 16) (stack_words n S) (slot_words n P) (stack_small n d S small (λ Q m. h Q (Memᴰ.tail m)))
    (slot_small n d P small (h P (Memᴰ.head refl)))

pub agenda_small : (n d L : ℕ) (S : List Subproblem) → d ≤ 16 → Shaped n d S → (i : ℕ) → get_or (agenda_of n L S) i 0 < 2 ^ 16
unfolding agenda_of
agenda_small n d L S small h =
    append_small (2 ^ 16) (stack_words n S) _ (stack_small n d S small h) (λ i. rw (zeros_at (L - length (stack_words n S)) i) (omega arith))

-- past the stack's words stand zeros
pub agenda_zeros : (n d L : ℕ) (S : List Subproblem) → n ≤ 32 → Shaped n d S → (k : ℕ) → length S * (n + 2) ≤ k
    → get_or (agenda_of n L S) k 0 ≡ 0
unfolding agenda_of
agenda_zeros n d L S few h k l =
    let long : length (stack_words n S) ≡ length S * (n + 2) = length_stack n S (λ P m. omega (arith, (h P m).long)) in
    let at : k ≡ length (stack_words n S) + (k - length (stack_words n S)) = omega arith in
    rw at (get_or-append-add (stack_words n S) _ (k - length (stack_words n S)) 0 ∙ zeros_at (L - length (stack_words n S)) (k - length (stack_words n S)))

-- ---- what a call leaves

whole_slots_lem : (n words : ℕ) → WholeSlots n words → words ≡ slots_in n words * (n + 2)
whole_slots_lem n words w = rw w.3 (ap (λ (k : ℕ). k * (n + 2)) (sym (mul-div_cancel w.0 (omega arith))))

module _ (n d : ℕ) (domains tables before after : List ℕ) (s : State) (x : Search) where
  -- Words that are an agenda of x, as many as before, of subproblems that have the shape: they hold x, and pass.
  pub leaves : Passed n d domains tables before → Passes (problem_of n d domains tables) (slots (slots_in n (length before))) x
      → Shaped n d x.memory → after ≡ agenda_of n (length before) x.memory
      → s.counts.steps.0 ≡ x.steps → s.counts.checks.0 ≡ x.checks → s.subproblems ≡ length x.memory
      → Leaves n d domains tables before after s x
  leaves passed passes shaped made steps checks count =
      let few : n ≤ 32 = passed.proper.variables in
      let used : length (stack_words n x.memory) ≡ length x.memory * (n + 2) = length_stack n x.memory (λ P m. omega (arith, (shaped P m).long))
      in
      let whole : length before ≡ slots_in n (length before) * (n + 2) = whole_slots_lem n (length before) passed.slots in
      let room : length x.memory * (n + 2) ≤ slots_in n (length before) * (n + 2) = mul-le-mul_right (n + 2) passes.fits in
      let long : length after ≡ length before = ap length made ∙ length_agenda n (length before) x.memory (omega arith) in
      let stack : stack_of n after s.subproblems ≡ x.memory =
      ap (stack_of n after) count ∙ ap (λ (l : List ℕ). stack_of n l (length x.memory)) made ∙ agenda_back n d (length before) x.memory few shaped
      in
      record {
        handed = record {
          words = rw made (agenda_small n d (length before) x.memory passed.proper.values shaped);
          stepped = omega (arith, passes.stepped);
          passes =
              (search_is_passed n d domains tables after s.counts.steps.0 s.counts.checks.0 s.subproblems).1 (record {
                passed = record {
                  proper = passed.proper;
                  domains_words = passed.domains_words;
                  tables_words = passed.tables_words;
                  slots = rw long passed.slots;
                };
                rules = rw stack passes.rules;
                room = rw (long, count) passes.fits;
                zeros = λ k l m. rw made (agenda_zeros n d (length before) x.memory few shaped k (rw (← count) l));
                limit = rw (steps, checks) passes.counted;
              });
        };
        search = λ i. record { memory = stack i; steps = steps i; checks = checks i };
        length_kept = long;
      }

-- A search handed on, with what its words are known to hold.
pub record Known (n d : ℕ) (domains tables agenda : List ℕ) (s : State) : Type 0 where
  pub passed : PassedSearch n d domains tables agenda s.counts.steps.0 s.counts.checks.0 s.subproblems
  pub passes : Passes (problem_of n d domains tables) (slots (slots_in n (length agenda))) (search_of n agenda s)
  pub fit : Sized n d tables
  pub shaped : Shaped n d (search_of n agenda s).memory

pub known : (n d : ℕ) (domains tables agenda : List ℕ) (s : State) → Handed n d domains tables agenda s → Known n d domains tables agenda s
known n d domains tables agenda s h =
    let passed = (search_is_passed n d domains tables agenda s.counts.steps.0 s.counts.checks.0 s.subproblems).0 h.passes in
    let ready = search_ready n d domains tables agenda s 0 refl h.words (omega (arith, h.stepped)) (sym h.passes) in
    record {
      passed = passed;
      passes = record {
        proper = passed.passed.proper;
        rules = passed.rules;
        fits = rw (length_stack_of n agenda s.subproblems) passed.room;
        counted = passed.limit;
        stepped = h.stepped;
      };
      fit = ready.fitting;
      shaped = λ P m. (ready.each P m).shape;
    }

module _ (n d : ℕ) (domains tables before after : List ℕ) (s : State) (r : Ran) (first : ℕ) (stopped : Stopped)
    (handed : Handed n d domains tables before s) (ends : Ends first n before after s stopped r) where
  -- a call whose first checks pass leaves its run's search
  pub ends_leaves : first ≡ 0 → Passes (problem_of n d domains tables) (slots (slots_in n (length before))) stopped.search
      → Shaped n d stopped.search.memory → Leaves n d domains tables before after r.state stopped.search
  ends_leaves none passes shaped =
      let test : eqb first 0 ≡ true = eq-eqb first 0 none in
      leaves n d domains tables before after r.state stopped.search (known n d domains tables before s handed).passed.passed passes shaped
      (rw test at ends.agenda) (rw test at ends.steps) (rw test at ends.checks) (rw test at ends.subproblems)

  -- one whose first checks refuse leaves what it was handed
  pub ends_kept : (first ≡ 0 → ⊥) → Leaves n d domains tables before after r.state (search_of n before s)
  ends_kept some =
      let test : eqb first 0 ≡ false = ne_eqb first 0 some in
      let same : after ≡ before = rw test at ends.agenda in
      let steps : r.state.counts.steps.0 ≡ s.counts.steps.0 = rw test at ends.steps in
      let checks : r.state.counts.checks.0 ≡ s.counts.checks.0 = rw test at ends.checks in
      let count : r.state.subproblems ≡ s.subproblems = rw test at ends.subproblems in
      record {
        handed = record {
          words = rw same handed.words;
          stepped = rw steps handed.stepped;
          passes = rw (same, steps, checks, count) handed.passes;
        };
        search = λ i. record { memory = stack_of n (same i) (count i); steps = steps i; checks = checks i };
        length_kept = ap length same;
      }

pub run_leaves_so : (n d : ℕ) (domains tables before after requests : List ℕ) (s : State) (r : Ran) → Handed n d domains tables before s
    → Runs n d domains tables before after requests s r
    → (WholeRequests n (length requests)
    → Leaves n d domains tables before after r.state
    (run (problem_of n d domains tables) (slots (slots_in n (length before))) (requests_in n requests) (search_of n before s)).search)
    × ((WholeRequests n (length requests) → ⊥) → Leaves n d domains tables before after r.state (search_of n before s))
run_leaves_so n d domains tables before after requests s r handed runs =
    let k = known n d domains tables before s handed in
    let p : Problem = problem_of n d domains tables in
    let room : ℕ = slots_in n (length before) in
    let both = run_is_passed n d domains tables before s.counts.steps.0 s.counts.checks.0 s.subproblems requests in (
      (λ whole.
          ends_leaves n d domains tables before after s r _ (run p (slots room) (requests_in n requests) (search_of n before s)) handed runs
          (both.1 (k.passed, whole))
          (run_passes p (slots room) (slots_lawful room) (requests_in n requests) (search_of n before s) k.passes)
          (run_shaped n d domains tables room k.fit (requests_in n requests) (search_of n before s) k.passes k.shaped)),
      (λ none. ends_kept n d domains tables before after s r _ (run p (slots room) (requests_in n requests) (search_of n before s)) handed runs
          (λ e. none (both.0 e).1)),
    )

pub chooser_leaves_so : (n d : ℕ) (domains tables before after : List ℕ) (limit : ℕ) (s : State) (r : Ran) → Handed n d domains tables before s
    → Chooses n d domains tables before after limit s r
    → Leaves n d domains tables before after r.state
    (choose (problem_of n d domains tables) (slots (slots_in n (length before))) limit (search_of n before s)).search
chooser_leaves_so n d domains tables before after limit s r handed chooses =
    let k = known n d domains tables before s handed in
    let p : Problem = problem_of n d domains tables in
    let room : ℕ = slots_in n (length before) in
    let rs : List (List ℕ) = picks p (slots room) limit (search_of n before s) in
    let as-run : choose p (slots room) limit (search_of n before s) ≡ run p (slots room) rs (search_of n before s) = picked p (slots room) limit (search_of n before s) 0 in
    ends_leaves n d domains tables before after s r _ (choose p (slots room) limit (search_of n before s)) handed chooses handed.passes
    (rw as-run (run_passes p (slots room) (slots_lawful room) rs (search_of n before s) k.passes))
    (rw as-run (run_shaped n d domains tables room k.fit rs (search_of n before s) k.passes k.shaped))

-- ---- what the verdict of a call says

none_long : (S : List Subproblem) → length S ≡ 0 → S ≡ []
none_long [] e = refl
none_long (P ∷ S) e = absurd (omega (arith, e))

-- A call that leaves the search x with x's verdict says what is so of the agenda it leaves.
says : (n d : ℕ) (domains tables before after : List ℕ) (x : Search) (r : Ran) → Leaves n d domains tables before after r.state x
    → r.verdict ≡ verdict_of n x.memory → VerdictSays n d domains tables after r
says n d domains tables before after x r left gives =
    let stack : List Subproblem = stack_of n after r.state.subproblems in
    let same : r.verdict ≡ verdict_of n stack = gives ∙ sym (ap (λ (y : Search). verdict_of n y.memory) left.search) in
    let passes = (known n d domains tables after r.state left.handed).passes in
    let long : length stack ≡ r.state.subproblems = length_stack_of n after r.state.subproblems in
    record {
      verdict = same;
      solved = λ k.
          let (P, S, top, all) = solved_top n stack (sym same ∙ is_solved r.verdict k) in
          let (values, solution) = shown (top_held (problem_of n d domains tables) (slots _) P S (search_of n after r.state) passes top)
          (all_instantiated_lem n P all) in
          (P, S, top, values, solution);
      unsolvable = (
        λ k. sym long ∙ ap length ((unsolvable_if n stack).0 (sym same ∙ is_unsolvable r.verdict k)),
        λ k. ap number_of (same ∙ (unsolvable_if n stack).1 (none_long stack (long ∙ k))),
      );
    }

-- the verdict of a call whose first checks pass
verdict_of_lem : (first n : ℕ) (before after : List ℕ) (s : State) (stopped : Stopped) (r : Ran) → Ends first n before after s stopped r → first ≡ 0
    → r.verdict ≡ verdict_of n stopped.search.memory
verdict_of_lem first n before after s stopped r ends none = let test : eqb first 0 ≡ true = eq-eqb first 0 none in rw test at ends.verdict

pub run_says_so : (n d : ℕ) (domains tables before after requests : List ℕ) (s : State) (r : Ran) → Handed n d domains tables before s
    → WholeRequests n (length requests) → Runs n d domains tables before after requests s r → VerdictSays n d domains tables after r
run_says_so n d domains tables before after requests s r handed whole runs =
    says n d domains tables before after _ r ((run_leaves_so n d domains tables before after requests s r handed runs).0 whole)
    (verdict_of_lem _ n before after s _ r runs
    ((run_is_passed n d domains tables before s.counts.steps.0 s.counts.checks.0 s.subproblems requests
    ).1 ((known n d domains tables before s handed).passed, whole)))

pub chooser_says_so : (n d : ℕ) (domains tables before after : List ℕ) (limit : ℕ) (s : State) (r : Ran) → Handed n d domains tables before s
    → Chooses n d domains tables before after limit s r → VerdictSays n d domains tables after r
chooser_says_so n d domains tables before after limit s r handed chooses =
    says n d domains tables before after _ r (chooser_leaves_so n d domains tables before after limit s r handed chooses)
    (verdict_of_lem _ n before after s _ r chooses handed.passes)

-- ---- opening

pub some_slots : (n words : ℕ) → WholeSlots n words → 1 ≤ slots_in n words
some_slots n words w = let some : 0 < n + 2 = omega arith in rw (w.3, mul-div_cancel w.0 some) w.1

holding_shape : (n d : ℕ) (domains : List ℕ) → n ≤ 32 → length domains ≡ n → ((i : ℕ) → i < n → get_or domains i 0 < 2 ^ d)
    → Shape n d (holding n domains 0)
unfolding holding
holding_shape n d domains few long small =
    let past : (i : ℕ) → (i < n → ⊥) → length domains ≤ i = λ i h. omega arith in
    let each : (i : ℕ) → get_or domains i 0 < 2 ^ d =
    λ i. elim (dec_lt i n) [ yes h ↦ small i h | no h ↦ rw (get_or-eq_default domains 0 (past i h)) (pow_pos d) ] in
    let part : length (take n domains) ≡ n = length-take-le n domains (le_of_eq (sym long)) in
    record {
      long = simp (length-append, length-replicate, part) (omega arith);
      masks = append_small (2 ^ d) (take n domains) _ (take_small (2 ^ d) n domains (pow_pos d) each) (λ i. rw (zeros_at (32 - n) i) (pow_pos d));
      past = λ i h.
          let at : i ≡ length (take n domains) + (i - n) = omega arith in
          rw at (get_or-append-add (take n domains) _ (i - n) 0 ∙ zeros_at (32 - n) (i - n));
      marks = omega arith;
    }

-- what opening places has the shape of a slot
opening_shaped : (n d : ℕ) (domains : List ℕ) → n ≤ 32 → length domains ≡ n → ((i : ℕ) → i < n → get_or domains i 0 < 2 ^ d)
    → Shaped n d (opening n domains)
unfolding opening
opening_shaped n d domains few long small = go (some n (λ i. eqb (get_or domains i 0) 0))
  where
    go : (b : Bool) → Shaped n d (cond b [] (holding n domains 0 ∷ []))
    go true P m = absurd (Memᴰ.not-nil m)
    go false P m = rw (Memᴰ.eq_of_singleton m) (holding_shape n d domains few long small)

pub open_leaves_so : (n d : ℕ) (domains tables before after : List ℕ) (r : Opened) → Opens n d domains tables before after r → r.refusal ≡ 0
    → Leaves n d domains tables before after r.state (begun n domains)
open_leaves_so n d domains tables before after r opens none =
    let zero : open_refusal n d domains tables before ≡ 0 = sym opens.refusal ∙ none in
    let test : eqb (open_refusal n d domains tables before) 0 ≡ true = eq-eqb _ 0 zero in
    let passed = (open_is_passed n d domains tables before).0 zero in
    let reached = reached_passes n d domains tables _ _ passed.proper
    (reached_opened n d domains tables _ (some_slots n (length before) passed.slots)) in
    leaves n d domains tables before after r.state (begun n domains) passed reached
    (opening_shaped n d domains passed.proper.variables passed.domains_words passed.proper.domains)
    (rw test at opens.agenda) opens.steps opens.checks (rw test at opens.subproblems)

-- whether so many words are whole requests can be told
pub whole_requests : (n words : ℕ) → Dec (WholeRequests n words)
whole_requests n words = elim (ℕ_discrete (refusal_of_requests n words) 0) [
  | yes e ↦ yes ((requests_none n words).0 e)
  | no f ↦ no (λ w. f ((requests_none n words).1 w))
]
