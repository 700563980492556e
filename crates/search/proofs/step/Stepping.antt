-- One request taken by a search that runs: its refusal, the room, the checks, and the memory that it leaves.
-- Assumes nothing.
use mathlib.Core.Path.{◌≡◌, refl, sym, ap, ◌∙◌}
use mathlib.Core.Logic.{⊎_elim}
use mathlib.Core.Bool.{Bool, true, false, cond, ◌&&◌}
use mathlib.Core.List.Memᴰ
use mathlib.Core.List.{List, Memᴰ, [], ◌∷◌, ◌++◌}
use Prim.Native.Nat.{ℕ, zero, suc, ◌+◌, ◌-◌, ◌*◌, ◌^◌, ◌≤◌, ◌<◌}
use native.Mathlib.Omega.{arith}
use native.Mathlib.Decide.{dec_lt}
use native.Mathlib.Nat.{mul-le-mul_right, lt_of_lt_of_le}
use lib.ListN.{length, replicate, length-append}
use lib.Count.{ones-le}
use lib.Pow.{pow_mono}
use lib.Dec.{eqb, ltb}
use borrow.Author.Tests.{lt-ltb, le-ltb}
use Rattle.problem.specs.Masks.{bit, size}
use Rattle.problem.specs.Problem.{table_of, problem_of}
use Rattle.problem.specs.Lists.{total, below, keep, splice}
use Rattle.splits.specs.Subproblems.{domain}
use Rattle.splits.specs.Requests.{kind_of, variable_of, value_of}
use Rattle.splits.specs.Splits.{forbids, pieces}
use Rattle.splits.specs.Checks.{others, tried, values_in, checks}
use Rattle.splits.specs.Calls.{readable, ChecksOf}
use Rattle.splits.specs.declared.subproblem.Subproblem.{Subproblem}
use Rattle.splits.proofs.split.ByKind.{kind_any}
use Rattle.splits.proofs.checks.Looking.{keep_append}
use Rattle.splitting.proofs.CheckLimit.{looked_le}
use Rattle.problem.specs.Ranges.{Sized}
use Rattle.search.specs.Agenda.{Shape, subproblem_of, slot_at, stack_of, stack_words, slots_in, agenda_of}
use Rattle.search.specs.Slots.{slots, Search}
use Rattle.searches.specs.Verdicts.{finished}
use Rattle.searches.specs.Tests.Refusal.{refusal_of_top, refusal_of_request}
use Rattle.searches.specs.Runs.{run_from}
use Rattle.searches.specs.Machines.{split_top}
use Rattle.search.specs.Loops.Kept.{Regular, Ready}
use Rattle.search.specs.Loops.Steps.{Replaced, Taking, StopsAt, refusal_for}
use Rattle.search.specs.Calls.{search_of}
use Rattle.search.specs.declared.state.State.{State}
use Rattle.search.proofs.Encoding.{length_stack, length_stack_of, stack_append, length_agenda, agenda_pop, agenda_push}
use Rattle.search.proofs.step.Accepting.{accepted_reads, Unrefused, unrefused}
use Rattle.search.proofs.step.Shapes.{pieces_regular}
use Rattle.searches.proofs.Verdicts.{finished_top}
use Rattle.searches.proofs.OneByOne.{one_refused, one_taken}
use Rattle.search.proofs.Slots.{step_is}

-- ---- the checks of a request are at most 512

-- A sum of numbers up to c.
total_up_to : (c n : ℕ) (g : ℕ → ℕ) → ((i : ℕ) → g i ≤ c) → total n g ≤ n * c
unfolding total
total_up_to c zero g h = omega arith
total_up_to c (suc n) g h = omega (arith, total_up_to c n g h, h n)

-- Those kept are at most all.
kept_le : (t : ℕ → Bool) (n : ℕ) → length (keep t (below n)) ≤ n
unfolding below keep
kept_le t zero = omega arith
kept_le t (suc n) = rw (keep_append t (below n) (n ∷ []), length-append) (go (t n) (kept_le t n))
  where
    go : (b : Bool) → length (keep t (below n)) ≤ n → length (keep t (below n)) + length (cond b (n ∷ []) []) ≤ suc n
    go true h = omega arith
    go false h = omega arith

-- A variable that is not counted adds nothing.
one_of : (b : Bool) (x c : ℕ) → x ≤ c → cond b x 0 ≤ c
one_of true x c h = h
one_of false x c h = omega arith

module _ (n d : ℕ) (t : List ℕ) (P : Subproblem) (r : List ℕ) (fit : Sized n d t) (s : Shape n d P) where
  -- Kind 1.
  tried_few : tried (others (variable_of r)) n (table_of n d t) P (variable_of r) (value_of r) ≤ 512
  unfolding tried
  tried_few =
      let seen : ℕ → Bool = λ i. eqb (bit P.marked i) 1 && others (variable_of r) i in
      omega (arith, fit.few, kept_le seen n, looked_le (forbids (table_of n d t) P (variable_of r) (value_of r)) (keep seen (below n)))

  -- Kinds 2 and 3.
  values_few : values_in (others (variable_of r)) n P ≤ 512
  unfolding values_in
  values_few =
      let word : (i : ℕ) → domain P i < 2 ^ 16 = λ i. lt_of_lt_of_le (s.masks i) (pow_mono fit.small) in
      let all = total_up_to 16 n (λ i. cond (others (variable_of r) i) (size (domain P i)) 0)
      (λ i. one_of (others (variable_of r) i) (size (domain P i)) 16 (ones-le 16 (domain P i) (word i))) in
      let most : n * 16 ≤ 32 * 16 = mul-le-mul_right 16 fit.few in
      omega arith

  -- Any kind.
  pub checks_few : checks n (table_of n d t) P r ≤ 512
  unfolding checks
  checks_few = kind_any (kind_of r) _ _ _ _ _ _ (λ x. x ≤ 512) tried_few values_few values_few (omega arith) (omega arith) (omega arith)

-- ---- a request of a running search, by its words

-- The stack of one slot more.
pub stack_more : (n : ℕ) (agenda : List ℕ) (m : ℕ) (P : Subproblem) → 1 ≤ m → P ≡ subproblem_of n (slot_at n agenda (m - 1))
    → stack_of n agenda m ≡ P ∷ stack_of n agenda (m - 1)
unfolding stack_of
stack_more n agenda m P h e =
    let up : m ≡ suc (m - 1) = omega arith in
    ap (stack_of n agenda) up ∙ ap (λ (Q : Subproblem). Q ∷ stack_of n agenda (m - 1)) (sym e)

-- A number exceeds the free slots if it exceeds all with those used.
pub room_shift : (room a b : ℕ) → a ≤ room → ltb (room - a) b ≡ ltb room (b + a)
room_shift room a b h = elim (dec_lt (room - a) b) [
  | yes k ↦ lt-ltb (room - a) b k ∙ sym (lt-ltb room (b + a) (omega arith))
  | no k ↦ le-ltb (room - a) b (omega arith) ∙ sym (le-ltb room (b + a) (omega arith))
]

-- The refusal by the free slots is the refusal by all of them.
pub refusal_same : (n d : ℕ) (t : List ℕ) (room : ℕ) (r : List ℕ) (s : Search) (P : Subproblem) (S : List Subproblem) → s.memory ≡ P ∷ S
    → length S ≤ room
    → refusal_for n d t P r s.steps (room - length S) ≡ refusal_of_request (problem_of n d [] t) (slots room) r s
unfolding refusal_for refusal_of_request refusal_of_top split_top
refusal_same n d t room r s P S top h =
    let same : ltb (room - length S) (length (pieces n (table_of n d t) P r)) ≡ ltb room (length (pieces n (table_of n d t) P r ++ S)) =
    rw length-append (room_shift room (length S) (length (pieces n (table_of n d t) P r)) h) in
    rw (top, same) refl

module _ (n d : ℕ) (t agenda : List ℕ) (P : Subproblem) (r : List ℕ) (s : State) (h : Taking n d t agenda P s) where
  -- The stack, top first.
  top_is : stack_of n agenda s.subproblems ≡ P ∷ stack_of n agenda (s.subproblems - 1)
  top_is = stack_more n agenda s.subproblems P h.some h.top

  -- How many lie below the top.
  many : length (stack_of n agenda (s.subproblems - 1)) ≡ s.subproblems - 1
  many = length_stack_of n agenda (s.subproblems - 1)

  -- All have their slots.
  pub in_slots : s.subproblems ≤ slots_in n (length agenda)
  in_slots = rw (length_stack_of n agenda s.subproblems) at h.ready.fits

  -- The top has its slot.
  pub below_slots : s.subproblems - 1 ≤ slots_in n (length agenda)
  below_slots = omega (arith, in_slots)

  -- The search is not finished.
  runs : finished n (stack_of n agenda s.subproblems) ≡ false
  runs = rw top_is (finished_top n P (stack_of n agenda (s.subproblems - 1)) ∙ h.runs)

  -- The refusal that the code works out is that of the rules.
  its_refusal : refusal_for n d t P r s.counts.steps.0 (slots_in n (length agenda) - (s.subproblems - 1))
      ≡ refusal_of_request (problem_of n d [] t) (slots (slots_in n (length agenda))) r (search_of n agenda s)
  its_refusal =
      ap (λ (k : ℕ). refusal_for n d t P r s.counts.steps.0 (slots_in n (length agenda) - k)) (sym many)
      ∙ refusal_same n d t (slots_in n (length agenda)) r (search_of n agenda s) P (stack_of n agenda (s.subproblems - 1)) top_is (rw many below_slots)

  -- Refused, nothing changes.
  pub take_refused : (x : ℕ) → x ≡ refusal_for n d t P r s.counts.steps.0 (slots_in n (length agenda) - (s.subproblems - 1)) → (x ≡ 0 → ⊥)
      → StopsAt n d t agenda agenda (run_from (problem_of n d [] t) (slots (slots_in n (length agenda))) (r ∷ []) (search_of n agenda s) 0) (record { refusal = x; taken = 0; state = s })
  take_refused x e f =
      rw (one_refused (problem_of n d [] t) (slots (slots_in n (length agenda))) r (search_of n agenda s) runs x (e ∙ its_refusal) f)
      (record {
        refusal = refl;
        taken = refl;
        steps = refl;
        checks = refl;
        subproblems = sym (length_stack_of n agenda s.subproblems);
        ready = h.ready;
        same = refl;
      })

  module _ (x : ℕ) (e : x ≡ refusal_for n d t P r s.counts.steps.0 (slots_in n (length agenda) - (s.subproblems - 1))) (none : x ≡ 0) where
    -- What an accepted request tells.
    told : Unrefused n d t P r s.counts.steps.0 (slots_in n (length agenda) - (s.subproblems - 1))
    told = unrefused n d t P r s.counts.steps.0 (slots_in n (length agenda) - (s.subproblems - 1)) (sym e ∙ none)

    -- The top is regular.
    top_regular : Regular n d P
    top_regular = h.ready.each P (rw top_is (Memᴰ.head refl))

    -- Its words fit, and its checks can be added.
    pub take_reads : readable n d t r ≡ true
    take_reads = accepted_reads n d P r told.accepted t h.ready.fitting

    -- The checks that the code counts.
    pub take_made : (made : ℕ) → ChecksOf P n d t r made → made ≡ checks n (table_of n d t) P r
    take_made made e = e ∙ rw take_reads refl

    -- The checks fit a u64.
    pub take_counts : s.counts.checks.0 + checks n (table_of n d t) P r < 2 ^ 64
    take_counts = omega (arith, checks_few n d t P r h.ready.fitting top_regular.shape, h.ready.counted, h.ready.stepped)

    -- The steps fit a u32.
    pub take_steps : s.counts.steps.0 + 1 < 2 ^ 32
    take_steps = omega (arith, told.more, h.ready.stepped)

    -- There is room for its pieces, and for the top.
    fit_slots : (s.subproblems - 1) + length (pieces n (table_of n d t) P r) ≤ slots_in n (length agenda)
    fit_slots = omega (arith, told.room, below_slots)

    -- So of the words.
    pub take_room : ((s.subproblems - 1) + length (pieces n (table_of n d t) P r)) * (n + 2) ≤ length agenda
    take_room = rw h.ready.whole (mul-le-mul_right (n + 2) fit_slots)

    -- The top's slot lies within.
    pub take_slot : ((s.subproblems - 1) + 1) * (n + 2) ≤ length agenda
    take_slot = rw h.ready.whole (mul-le-mul_right (n + 2) (omega (arith, in_slots, h.some)))

    -- The pieces stand in the place of the top.
    sized : length (stack_words n (pieces n (table_of n d t) P r)) ≡ length (pieces n (table_of n d t) P r) * (n + 2)
    sized =
        length_stack n (pieces n (table_of n d t) P r)
        (λ Q m. omega
        (arith, (pieces_regular n d t P r h.ready.fitting top_regular.shape told.accepted Q m).shape.long, h.ready.fitting.few))

    -- What lies below the top stays regular.
    rest_regular : (Q : Subproblem) → Memᴰ Q (stack_of n agenda (s.subproblems - 1)) → Regular n d Q
    rest_regular Q m = h.ready.each Q (rw top_is (Memᴰ.tail m))

    -- It fills whole slots too.
    rest_sized : length (stack_words n (stack_of n agenda (s.subproblems - 1))) ≡ (s.subproblems - 1) * (n + 2)
    rest_sized =
        length_stack n (stack_of n agenda (s.subproblems - 1)) (λ Q m. omega (arith, (rest_regular Q m).shape.long, h.ready.fitting.few))
        ∙ ap (λ (k : ℕ). k * (n + 2)) many

    -- The words: the top cleared, the pieces written.
    made_words : (after : List ℕ) (count : ℕ) → Replaced n (pieces n (table_of n d t) P r) (s.subproblems - 1) agenda after count
        → after ≡ agenda_of n (length agenda) (pieces n (table_of n d t) P r ++ stack_of n agenda (s.subproblems - 1))
    made_words after count m =
        let a : ℕ = (s.subproblems - 1) * (n + 2) in
        let S : List Subproblem = stack_of n agenda (s.subproblems - 1) in
        let whole : agenda ≡ agenda_of n (length agenda) (P ∷ S) = h.ready.words ∙ ap (agenda_of n (length agenda)) top_is in
        let pop : splice agenda a (replicate (n + 2) 0) ≡ agenda_of n (length agenda) S =
        ap (λ (l : List ℕ). splice l a (replicate (n + 2) 0)) whole
        ∙ agenda_pop n (length agenda) a P S (omega (arith, top_regular.shape.long, h.ready.fitting.few)) rest_sized (omega (arith, take_slot))
        in
        m.words ∙ rw pop (agenda_push n (length agenda) a (pieces n (table_of n d t) P r) S rest_sized (omega (arith, take_room, sized)))

    -- As many words as before.
    made_length : (after : List ℕ) (count : ℕ) → Replaced n (pieces n (table_of n d t) P r) (s.subproblems - 1) agenda after count
        → length after ≡ length agenda
    made_length after count m =
        let short : length (stack_words n (pieces n (table_of n d t) P r ++ stack_of n agenda (s.subproblems - 1))) ≤ length agenda =
        rw (stack_append n (pieces n (table_of n d t) P r) (stack_of n agenda (s.subproblems - 1)), length-append)
        (omega (arith, rest_sized, sized, take_room)) in
        ap length (made_words after count m)
        ∙ length_agenda n (length agenda) (pieces n (table_of n d t) P r ++ stack_of n agenda (s.subproblems - 1)) short

    -- The search is ready for the next step.
    made_ready : (after : List ℕ) (count : ℕ) → Replaced n (pieces n (table_of n d t) P r) (s.subproblems - 1) agenda after count
        → Ready n d t after (record {
          memory = pieces n (table_of n d t) P r ++ stack_of n agenda (s.subproblems - 1);
          steps = s.counts.steps.0 + 1;
          checks = s.counts.checks.0 + checks n (table_of n d t) P r;
        })
    made_ready after count m =
        let long : length after ≡ length agenda = made_length after count m in
        record {
          fitting = h.ready.fitting;
          whole = rw long h.ready.whole;
          fits = rw (long, length-append, many) (omega (arith, fit_slots));
          words = rw long (made_words after count m);
          each = λ Q i. ⊎_elim (pieces_regular n d t P r h.ready.fitting top_regular.shape told.accepted Q) (rest_regular Q)
              (Memᴰ.append_cases (pieces n (table_of n d t) P r) i);
          counted = omega (arith, checks_few n d t P r h.ready.fitting top_regular.shape, h.ready.counted);
          stepped = take_steps;
        }

    -- Accepted, memory holds the search after the step.
    pub take_taken : (after : List ℕ) (count c : ℕ) → Replaced n (pieces n (table_of n d t) P r) (s.subproblems - 1) agenda after count
        → c ≡ s.counts.checks.0 + checks n (table_of n d t) P r
        → StopsAt n d t agenda after (run_from (problem_of n d [] t) (slots (slots_in n (length agenda))) (r ∷ []) (search_of n agenda s) 0)
        (record {
          refusal = 0;
          taken = 1;
          state = record { counts = record { steps = record { 0 = s.counts.steps.0 + 1 }; checks = record { 0 = c } }; subproblems = count };
        })
    take_taken after count c m k =
        rw (
          one_taken (problem_of n d [] t) (slots (slots_in n (length agenda))) r (search_of n agenda s) runs (sym none ∙ e ∙ its_refusal),
          step_is (problem_of n d [] t) (slots_in n (length agenda)) P (stack_of n agenda (s.subproblems - 1)) (search_of n agenda s) r top_is,
        )
        (record {
          refusal = refl;
          taken = refl;
          steps = refl;
          checks = k;
          subproblems = rw (length-append, many) (omega (arith, m.count));
          ready = made_ready after count m;
          same = made_length after count m;
        })
