-- Refusal 15 and the refusal of load, put together from the parts that the code works out.
-- Assumes nothing.
use mathlib.Core.Path.{◌≡◌, refl, sym, ap, ◌∙◌}
use mathlib.Core.Bool.{Bool, true, false, not, cond, ◌&&◌}
use mathlib.Core.List.{List}
use Prim.Native.Nat.{ℕ, ◌+◌, ◌-◌, ◌*◌, ◌/◌, ◌≤◌, ◌<◌}
use native.Mathlib.Omega.{arith}
use lib.Dec.{eqb, leb, ltb}
use borrow.Author.Tests.{eqb-true, lt-ltb, le-ltb, leb-true, not-true}
use Rattle.problem.specs.Lists.{every}
use Rattle.problem.proofs.Tests.{and_left, and_right}
use Rattle.search.specs.Agenda.{slots_in}
use Rattle.problem.specs.Tests.FirstChecks.{refusal_of_numbers, refusal_of_problem}
use Rattle.search.specs.Tests.FirstChecks.{refusal_of_search, refusal_of_lengths, sizes_refusal}
use Rattle.problem.proofs.first_checks.Parts.{given_if, numbers_pass, else_first, else_rest}
use Rattle.blocks.specs.Blocks.{blocks_for}
use Rattle.blocks.specs.Reading.{blocks_in, content_word}
use Rattle.files.specs.Reading.{said_n, said_d, said_steps, said_checks, said_subproblems, said_problem, said_agenda, said_words, refusal_of_words, word_count}
use Rattle.blocks.specs.Tests.Whole.{refusal_of_file}
use Rattle.files.specs.Calls.{load_refusal}
use Rattle.files.specs.Loops.Said.{Numbers, numbers_in, zero_in, filled, sized_in, Read}
use Rattle.files.specs.declared.saved.Header.{Header}

-- Tests in a row, in groups.
grouped : (a b c d e f : Bool) → (a && b && c && d && e && f) ≡ ((a && b && (c && d)) && (e && f))
grouped false b c d e f = refl
grouped true false c d e f = refl
grouped true true false d e f = refl
grouped true true true false e f = refl
grouped true true true true e f = refl

module _ (file : List ℕ) where
  -- The tests of 15 past the numbers.
  rest : Bool
  rest =
      eqb (refusal_of_problem (said_problem file)) 0
      && eqb (refusal_of_search (said_problem file) (said_agenda file) (said_steps file) (said_checks file) (said_subproblems file)) 0

  -- 15 is given exactly if a test fails.
  words_tests : refusal_of_words file ≡ cond (sized_in file && rest) 0 15
  unfolding rest refusal_of_words sized_in numbers_in filled zero_in
  words_tests =
      ap (λ (t : Bool). cond t 0 15)
      (grouped (eqb (refusal_of_numbers (said_n file) (said_d file)) 0) (leb (said_subproblems file) 512)
      (eqb (blocks_in file) (blocks_for (said_words file)))
      (every (blocks_in file * 253 - said_words file) (λ k. eqb (content_word file (said_words file + k)) 0))
      (eqb (refusal_of_problem (said_problem file)) 0)
      (eqb (refusal_of_search (said_problem file) (said_agenda file) (said_steps file) (said_checks file) (said_subproblems file)) 0))

  -- Words that do not fit are 15.
  pub sized_refused : sized_in file ≡ false → 15 ≡ refusal_of_words file
  sized_refused e = sym (words_tests ∙ rw e refl)

  module _ (n d m : ℕ) (is-n : n ≡ said_n file) (is-d : d ≡ said_d file) (is_m : m ≡ said_subproblems file) where
    -- Numbers in their ranges.
    numbers_said : numbers_in (said_n file) (said_d file) (said_subproblems file) ≡ true → Numbers n d × (m ≤ 512)
    unfolding numbers_in
    numbers_said e =
        let one : Bool = eqb (refusal_of_numbers (said_n file) (said_d file)) 0 in
        let two : Bool = leb (said_subproblems file) 512 in
        let passed = numbers_pass (said_n file) (said_d file) (eqb-true (refusal_of_numbers (said_n file) (said_d file)) 0 (and_left one two e)) in (
          record {
            some_variable = rw is-n passed.some_variable;
            variables = rw is-n passed.variables;
            some_value = rw is-d passed.some_value;
            values = rw is-d passed.values;
          },
          rw is_m (leb-true (said_subproblems file) 512 (and_right one two e)),
        )

    -- What the code found of them.
    pub numbers_found : (b : Bool) → b ≡ numbers_in n d m → b ≡ true → Numbers n d × (m ≤ 512)
    numbers_found b e y = numbers_said (rw (← is-n, ← is-d, ← is_m) (sym e ∙ y))

    -- They are out of their ranges.
    pub sized_numbers_not : (b : Bool) → b ≡ numbers_in n d m → b ≡ false → b ≡ sized_in file
    unfolding sized_in
    sized_numbers_not b e y =
        let fails : numbers_in (said_n file) (said_d file) (said_subproblems file) ≡ false = rw (← is-n, ← is-d, ← is_m) (sym e ∙ y) in
        y ∙ rw fails refl

    -- They are not: the blocks decide.
    pub sized_blocks : (words : ℕ) (a b : Bool) → a ≡ numbers_in n d m → a ≡ true → words ≡ word_count n d m → b ≡ filled file words
        → b ≡ sized_in file
    unfolding sized_in
    sized_blocks words a b e y w f =
        let holds : numbers_in (said_n file) (said_d file) (said_subproblems file) ≡ true = rw (← is-n, ← is-d, ← is_m) (sym e ∙ y) in
        f ∙ rw (w, is-n, is-d, is_m, holds) refl

    -- What was found of the numbers and the blocks.
    pub sized_numbers : sized_in file ≡ true → Numbers n d × (m ≤ 512)
    unfolding sized_in
    sized_numbers e =
        numbers_said
        (and_left (numbers_in (said_n file) (said_d file) (said_subproblems file))
        (filled file (word_count (said_n file) (said_d file) (said_subproblems file))) e)

    -- What passing 15 leaves of them.
    pub numbers_passed : refusal_of_words file ≡ 0 → Numbers n d × (m ≤ 512)
    numbers_passed e =
        sized_numbers (and_left (sized_in file) rest (given_if (sized_in file && rest) 15 (λ z. absurd (omega arith)) (sym words_tests ∙ e)))

-- The numbers of a file that was read.
pub read_numbers : (file words : List ℕ) (h : Header) → Read file words h → Numbers h.n h.d × (h.state.subproblems ≤ 512)
read_numbers file words h read =
    sized_numbers file h.n h.d h.state.subproblems read.header.its_n read.header.its_d read.header.subproblems read.sized

-- ---- the refusal of load

-- Where the numbers pass, what is refused of the sizes is refused of the lengths.
lengths_of : (n d domains tables agenda r : ℕ) → Numbers n d → r ≡ sizes_refusal n d domains tables agenda
    → r ≡ refusal_of_lengths n d domains tables agenda
unfolding sizes_refusal refusal_of_numbers
lengths_of n d domains tables agenda r h e =
    rw (le-ltb n 1 h.some_variable, le-ltb 32 n h.variables, le-ltb d 1 h.some_value, le-ltb 16 d h.values) at e

module _ (file : List ℕ) (domains tables agenda : ℕ) where
  -- 14.
  pub refused_14 : (r : ℕ) → r ≡ refusal_of_file file → (r ≡ 0 → ⊥) → r ≡ load_refusal file domains tables agenda
  unfolding load_refusal
  refused_14 r e f = else_first r (refusal_of_file file) _ e f

  -- Past 14, 15.
  pub refused_15 : (r : ℕ) → refusal_of_file file ≡ 0 → r ≡ refusal_of_words file → (r ≡ 0 → ⊥) → r ≡ load_refusal file domains tables agenda
  unfolding load_refusal
  refused_15 r a e f = else_rest r (refusal_of_file file) _ a (else_first r (refusal_of_words file) _ e f)

  -- 15 of the sizes.
  pub refused_sizes : refusal_of_file file ≡ 0 → (b : Bool) → b ≡ sized_in file → not b ≡ true → 15 ≡ load_refusal file domains tables agenda
  refused_sizes a b e y = refused_15 15 a (sized_refused file (sym e ∙ not-true b y)) (λ z. absurd (omega arith))

  module _ (n d m : ℕ) (is-n : n ≡ said_n file) (is-d : d ≡ said_d file) (is_m : m ≡ said_subproblems file) where
    pub refused_3 : (r : ℕ) → refusal_of_file file ≡ 0 → refusal_of_words file ≡ 0 → r ≡ sizes_refusal n d domains tables agenda → (r ≡ 0 → ⊥)
        → r ≡ load_refusal file domains tables agenda
    unfolding load_refusal
    refused_3 r a b e f =
        let same : r ≡ refusal_of_lengths (said_n file) (said_d file) domains tables agenda =
        lengths_of n d domains tables agenda r (numbers_passed file n d m is-n is-d is_m b).0 e ∙ rw (is-n, is-d) refl in
        else_rest r (refusal_of_file file) _ a
        (else_rest r (refusal_of_words file) _ b (else_first r (refusal_of_lengths (said_n file) (said_d file) domains tables agenda) _ same f))

    -- Past 3 the slots decide.
    pub slots_last : (r s : ℕ) → refusal_of_file file ≡ 0 → refusal_of_words file ≡ 0 → s ≡ sizes_refusal n d domains tables agenda → s ≡ 0
        → r ≡ cond (ltb (slots_in n agenda) m) 12 0 → r ≡ load_refusal file domains tables agenda
    unfolding load_refusal
    slots_last r s a b e z h =
        let none : refusal_of_lengths (said_n file) (said_d file) domains tables agenda ≡ 0 =
        sym (lengths_of n d domains tables agenda s (numbers_passed file n d m is-n is-d is_m b).0 e ∙ rw (is-n, is-d) refl) ∙ z in
        let last : r ≡ cond (ltb (slots_in (said_n file) agenda) (said_subproblems file)) 12 0 = h ∙ rw (is-n, is_m) refl in
        else_rest r (refusal_of_file file) _ a
        (else_rest r (refusal_of_words file) _ b (else_rest r (refusal_of_lengths (said_n file) (said_d file) domains tables agenda) _ none last))

-- There are more subproblems than slots.
pub twelve : (n agenda m : ℕ) → agenda / (n + 2) < m → ◌≡◌ {A = ℕ} 12 (cond (ltb (slots_in n agenda) m) 12 0)
twelve n agenda m h = simp (lt-ltb (agenda / (n + 2)) m h)

-- There are not.
pub none_left : (n agenda m : ℕ) → m ≤ agenda / (n + 2) → ◌≡◌ {A = ℕ} 0 (cond (ltb (slots_in n agenda) m) 12 0)
none_left n agenda m h = simp (le-ltb (agenda / (n + 2)) m h)
