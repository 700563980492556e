-- What save is handed, its first checks passed: its stack is as memory holds it, and the blocks written are bytes and say the search.
-- Assumes nothing.
use mathlib.Core.Path.{◌≡◌, ap, ◌∙◌}
use mathlib.Core.List.{List, Memᴰ, [], ◌∷◌, ◌++◌, map}
use Prim.Native.Nat.{ℕ, zero, suc, ◌+◌, ◌*◌, ◌/◌, ◌%◌, ◌^◌, ◌≤◌, ◌<◌}
use native.Mathlib.Omega.{arith}
use native.Mathlib.Nat.{mul-le-mul_right, div-mul-le_self, le_trans, lt_of_lt_of_le}
use native.Mathlib.Decide.{dec_lt}
use lib.Pow.{pow_mono}
use lib.ListN.{length, get_or-eq_default}
use Rattle.problem.specs.Problem.{Table, table_of, Words}
use Rattle.problem.specs.Lists.{below}
use Rattle.splits.specs.declared.subproblem.Subproblem.{Subproblem}
use Rattle.search.specs.Agenda.{Shape, stack_of, stack_words, slots_in}
use Rattle.search.specs.Calls.{search_of}
use Rattle.search.specs.declared.state.State.{State}
use Rattle.search.proofs.first_checks.FirstPassing.{PassedSearch}
use Rattle.search.proofs.Encoding.{length_stack_of, part_small, stack_of_words}
use Rattle.problem.proofs.Copies.{append_small}
use Rattle.blocks.specs.Blocks.{blocks_for, file_of}
use Rattle.blocks.specs.Lists.{each}
use Rattle.files.specs.Content.{after, triangle, content_of}
use Rattle.files.specs.Calls.{handed_content}
use Rattle.blocks.specs.Reading.{Bytes}
use Rattle.files.specs.Promises.{Says}
use Rattle.blocks.proofs.Blocks.{file_small}
use Rattle.files.proofs.Triangle.{triangle_same}
use Rattle.files.proofs.Stacks.{slots_in_lem, of_shape}
use Rattle.files.proofs.RoundTrip.{blocks_few, file_says}

-- ---- words of 16 bits

more_small : (x : ℕ) (l : List ℕ) → x < 65536 → Words l → Words (x ∷ l)
more_small x l h t zero = h
more_small x l h t (suc k) = t k

-- Three words before words.
three_small : (x y z : ℕ) (l : List ℕ) → x < 65536 → y < 65536 → z < 65536 → Words l → Words (x ∷ y ∷ z ∷ l)
three_small x y z l h k m t = more_small x (y ∷ z ∷ l) h (more_small y (z ∷ l) k (more_small z l m t))

map_small : (f : ℕ → ℕ) (l : List ℕ) → ((x : ℕ) → f x < 65536) → Words (map f l)
map_small f [] h k = omega arith
map_small f (x ∷ l) h k = more_small (f x) (map f l) (h x) (map_small f l h) k

each_small : (f : ℕ → List ℕ) (l : List ℕ) → ((x : ℕ) → Words (f x)) → Words (each f l)
unfolding each
each_small f [] h k = omega arith
each_small f (x ∷ l) h k = append_small 65536 (f x) (each f l) (h x) (each_small f l h) k

-- The tables are words if what is read of them is: elsewhere they may be cut to words.
triangle_small : (n d : ℕ) (allowed : Table) → ((i j a : ℕ) → i < j → j < n → a < d → allowed i j a < 65536) → Words (triangle n d allowed)
unfolding triangle
triangle_small n d allowed h k =
    let cut : Table = λ i j a. allowed i j a % 65536 in
    rw (triangle_same n d allowed cut (λ i j a l m o. omega (arith, h i j a l m o)))
    (each_small (λ i. each (λ j. map (cut i j) (below d)) (after n i)) (below n)
    (λ i. each_small (λ j. map (cut i j) (below d)) (after n i) (λ j. map_small (cut i j) (below d) (λ a. omega arith))) k)

-- ---- what is handed

module _ (n d : ℕ) (domains tables agenda : List ℕ) (s : State) (words : Words agenda)
    (h : PassedSearch n d domains tables agenda s.counts.steps.0 s.counts.checks.0 s.subproblems) where
  -- The stack lies within the agenda.
  pub within : s.subproblems * (n + 2) ≤ length agenda
  within = le_trans (mul-le-mul_right (n + 2) h.room) (div-mul-le_self (length agenda) (n + 2))

  -- Each subproblem is as memory holds it.
  pub stack_shape : (P : Subproblem) → Memᴰ P (stack_of n agenda s.subproblems) → Shape n 16 P
  stack_shape = of_shape n h.passed.proper.variables agenda words s.subproblems within

  -- It has at most 512 subproblems.
  pub stack_few : length (stack_of n agenda s.subproblems) ≤ 512
  stack_few =
      let (slots, some, few, e) = h.passed.slots in
      let all : slots_in n (length agenda) ≡ slots = ap (slots_in n) e ∙ slots_in_lem n slots in
      omega (arith, length_stack_of n agenda s.subproblems, h.room)

  -- Its content fills at most 101 blocks.
  pub saved_few : blocks_for (length (handed_content n d domains tables agenda s)) ≤ 101
  saved_few =
      blocks_few n d domains (table_of n d tables) (search_of n agenda s) h.passed.proper.variables h.passed.proper.values
      h.passed.domains_words stack_few

  -- Its content is words, the steps fitting their counter.
  saved_words : s.counts.steps.0 ≤ 4294967295 → Words (handed_content n d domains tables agenda s)
  unfolding content_of
  saved_words stepped =
      let values : d ≤ 16 = h.passed.proper.values in
      let masks : Words domains = λ k. elim (dec_lt k n) [
        | yes l ↦ lt_of_lt_of_le (h.passed.proper.domains k l) (pow_mono values)
        | no l ↦ rw (get_or-eq_default domains 0 {n = k} (omega (arith, h.passed.domains_words))) (omega arith)
      ] in
      let pairs : Words (triangle n d (table_of n d tables)) =
      triangle_small n d (table_of n d tables)
      (λ i j a l k m. lt_of_lt_of_le (h.passed.proper.masks i j a (omega arith) k (λ e. absurd (omega arith)) m) (pow_mono values)) in
      let stack : Words (stack_words n (stack_of n agenda s.subproblems)) =
      rw (stack_of_words n agenda s.subproblems within words) (part_small (s.subproblems * (n + 2)) 0 agenda words) in
      let steps : ℕ = s.counts.steps.0 in
      let checks : ℕ = s.counts.checks.0 in
      let count : ℕ = length (stack_of n agenda s.subproblems) in
      let rest : List ℕ = domains ++ triangle n d (table_of n d tables) ++ stack_words n (stack_of n agenda s.subproblems) in
      let last : Words rest =
      append_small 65536 (domains ++ triangle n d (table_of n d tables)) (stack_words n (stack_of n agenda s.subproblems))
      (append_small 65536 domains (triangle n d (table_of n d tables)) masks pairs) stack in
      three_small n d (steps / 65536)
      (steps % 65536 ∷ checks / 2 ^ 48 ∷ checks / 2 ^ 32 % 65536 ∷ checks / 65536 % 65536 ∷ checks % 65536 ∷ count ∷ rest)
      (omega (arith, h.passed.proper.variables)) (omega arith) (omega arith)
      (three_small (steps % 65536) (checks / 2 ^ 48) (checks / 2 ^ 32 % 65536) (checks / 65536 % 65536 ∷ checks % 65536 ∷ count ∷ rest)
      (omega arith) (omega (arith, h.limit)) (omega arith)
      (three_small (checks / 65536 % 65536) (checks % 65536) count rest (omega arith) (omega arith) (omega (arith, stack_few)) last))

  -- The blocks written are bytes.
  pub saved_bytes : s.counts.steps.0 ≤ 4294967295 → Bytes (file_of (handed_content n d domains tables agenda s))
  saved_bytes stepped = file_small (handed_content n d domains tables agenda s) saved_few (saved_words stepped)

  -- The blocks written say the search.
  pub saved_says : Says (file_of (handed_content n d domains tables agenda s)) n d domains (table_of n d tables) (search_of n agenda s)
  saved_says =
      file_says n d domains (table_of n d tables) (search_of n agenda s) h.passed.proper.variables h.passed.proper.values
      h.passed.domains_words stack_few stack_shape
      h.passed.proper h.rules h.limit
