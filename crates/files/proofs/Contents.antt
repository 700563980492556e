-- The content of a saved search: how many words it has, and that a file which holds it says the search.
-- Assumes nothing.
use mathlib.Core.Path.{◌≡◌, refl, sym, ap, ◌∙◌}
use mathlib.Core.List.{List, Memᴰ, [], ◌++◌, append-nil}
use Prim.Native.Nat.{ℕ, suc, ◌+◌, ◌*◌, ◌/◌, ◌%◌, ◌^◌, ◌≤◌, ◌<◌}
use native.Mathlib.Omega.{arith}
use native.Mathlib.Nat.{div-div-eq-div-mul}
use lib.ListN.{length, get_or, length-append, get_or-append}
use lib.Seq.{get_or-append-add}
use borrow.Author.Tests.{lt-ltb, le-ltb}
use Rattle.problem.specs.Masks.{bit}
use Rattle.problem.specs.Problem.{Table}
use Rattle.splits.specs.declared.subproblem.Subproblem.{Subproblem}
use Rattle.search.specs.Agenda.{Shape, stack_of, stack_words}
use Rattle.search.specs.Slots.{Search}
use Rattle.search.proofs.Encoding.{stack_back}
use Rattle.files.specs.Content.{triangle, content_of}
use Rattle.blocks.specs.Reading.{content_word, content_from}
use Rattle.files.specs.Reading.{said_n, said_d, said_steps, said_checks, said_subproblems, said_domains, said_allowed, said_agenda, said_search, said_words, triangle_words, triangle_place, gathered}
use Rattle.blocks.proofs.Lists.{map_is}
use Rattle.files.proofs.Triangle.{triangle_length, triangle_at, place_lt}
use Rattle.files.proofs.Gathered.{gathered_same, gathered_bits}
use Rattle.files.proofs.Stacks.{shape_length}

-- Three lists one after the other.
first_at : (a b c : List ℕ) (k : ℕ) → k < length a → get_or (a ++ b ++ c) k 0 ≡ get_or a k 0
first_at a b c k h =
    get_or-append (a ++ b) c 0 k (omega (arith, length-append a b)) ∙ get_or-append a b 0 k h

second_at : (a b c : List ℕ) (n k : ℕ) → length a ≡ n → k < length b → get_or (a ++ b ++ c) (n + k) 0 ≡ get_or b k 0
second_at a b c n k e h =
    get_or-append (a ++ b) c 0 (n + k) (omega (arith, length-append a b))
    ∙ ap (λ (x : ℕ). get_or (a ++ b) (x + k) 0) (sym e) ∙ get_or-append-add a b k 0

third_at : (a b c : List ℕ) (n m k : ℕ) → length a ≡ n → length b ≡ m → get_or (a ++ b ++ c) (n + m + k) 0 ≡ get_or c k 0
third_at a b c n m k e f =
    let both : n + m ≡ length (a ++ b) = omega (arith, length-append a b) in
    ap (λ (x : ℕ). get_or (a ++ b ++ c) (x + k) 0) both ∙ get_or-append-add (a ++ b) c k 0

-- Four words of 16 bits.
four_words : (x : ℕ) → ((x / 2 ^ 48 * 65536 + x / 2 ^ 32 % 65536) * 65536 + x / 65536 % 65536) * 65536 + x % 65536 ≡ x
four_words x =
    let two : x / 65536 / 65536 ≡ x / 2 ^ 32 = div-div-eq-div-mul x 65536 65536 in
    let three : x / 2 ^ 32 / 65536 ≡ x / 2 ^ 48 = div-div-eq-div-mul x (2 ^ 32) 65536 in
    rw (← three, ← two) (omega arith)

-- How many words a content has.
pub content_words : (n d : ℕ) (domains : List ℕ) (allowed : Table) (s : Search) → length domains ≡ n
    → length (content_of n d domains allowed s) ≡ 9 + n + triangle_words n d + length (stack_words n s.memory)
unfolding content_of
content_words n d domains allowed s words =
    omega (
      arith,
      length-append (domains ++ triangle n d allowed) (stack_words n s.memory),
      length-append domains (triangle n d allowed),
      triangle_length n d allowed,
    )

module _ (n d : ℕ) (domains : List ℕ) (allowed : Table) (s : Search) (few : n ≤ 32) (words : length domains ≡ n)
    (shape : (P : Subproblem) → Memᴰ P s.memory → Shape n 16 P) where
  -- So many where its stack is as memory holds it.
  pub content_length : length (content_of n d domains allowed s) ≡ 9 + n + triangle_words n d + length s.memory * (n + 2)
  content_length = omega (arith, content_words n d domains allowed s words, shape_length n few s.memory shape)

  -- After nine words the domains, then the tables, then the agenda.
  content_tail : (k : ℕ) → get_or (content_of n d domains allowed s) (9 + k) 0 ≡ get_or (domains ++ triangle n d allowed ++ stack_words n s.memory) k 0
  unfolding content_of
  content_tail k =
      let at : 9 + k ≡ suc (suc (suc (suc (suc (suc (suc (suc (suc k)))))))) = omega arith in
      rw at refl

  -- The domains.
  pub content_domain : (k : ℕ) → k < n → get_or (content_of n d domains allowed s) (9 + k) 0 ≡ get_or domains k 0
  content_domain k l = content_tail k ∙ first_at domains (triangle n d allowed) (stack_words n s.memory) k (omega arith)

  -- The masks of the tables.
  pub content_mask : (i j a : ℕ) → i < j → j < n → a < d → get_or (content_of n d domains allowed s) (9 + n + triangle_place n d i j a) 0 ≡ allowed i j a
  content_mask i j a h l m =
      let at : 9 + n + triangle_place n d i j a ≡ 9 + (n + triangle_place n d i j a) = omega arith in
      ap (λ (x : ℕ). get_or (content_of n d domains allowed s) x 0) at ∙ content_tail (n + triangle_place n d i j a)
      ∙ second_at domains (triangle n d allowed) (stack_words n s.memory) n (triangle_place n d i j a) words
      (rw (triangle_length n d allowed) (place_lt n d i j a h l m))
      ∙ triangle_at n d allowed i j a h l m

  -- The agenda.
  pub content_agenda : (k : ℕ) → get_or (content_of n d domains allowed s) (9 + n + triangle_words n d + k) 0 ≡ get_or (stack_words n s.memory) k 0
  content_agenda k =
      let at : 9 + n + triangle_words n d + k ≡ 9 + (n + triangle_words n d + k) = omega arith in
      ap (λ (x : ℕ). get_or (content_of n d domains allowed s) x 0) at ∙ content_tail (n + triangle_words n d + k)
      ∙ third_at domains (triangle n d allowed) (stack_words n s.memory) n (triangle_words n d) k words (triangle_length n d allowed)

  -- ---- a file that holds it

  module _ (file : List ℕ) (holds : (k : ℕ) → k < length (content_of n d domains allowed s) → content_word file k ≡ get_or (content_of n d domains allowed s) k 0) where
    -- It says n.
    pub says_n : said_n file ≡ n
    unfolding content_of
    says_n = holds 0 (omega (arith, content_length))

    -- It says d.
    pub says_d : said_d file ≡ d
    unfolding content_of
    says_d = holds 1 (omega (arith, content_length))

    -- It says the steps.
    pub says_steps : said_steps file ≡ s.steps
    unfolding content_of
    says_steps = rw (holds 2 (omega (arith, content_length)), holds 3 (omega (arith, content_length))) (omega arith)

    -- It says the checks.
    pub says_checks : said_checks file ≡ s.checks
    unfolding content_of
    says_checks =
        rw (
          holds 4 (omega (arith, content_length)),
          holds 5 (omega (arith, content_length)),
          holds 6 (omega (arith, content_length)),
          holds 7 (omega (arith, content_length)),
        )
        (four_words s.checks)

    -- It says the number of subproblems.
    pub says_subproblems : said_subproblems file ≡ length s.memory
    unfolding content_of
    says_subproblems = holds 8 (omega (arith, content_length))

    -- It says the domains.
    pub says_domains : said_domains file ≡ domains
    unfolding content_from
    says_domains =
        rw says_n (map_is (λ k. content_word file (9 + k)) n domains words (λ k l. holds (9 + k) (omega (arith, content_length)) ∙ content_domain k l))

    -- Its words are as many as it is to have.
    pub says_words : said_words file ≡ length (content_of n d domains allowed s)
    says_words = rw (says_n, says_d, says_subproblems) (sym content_length)

    -- It says the words of the stack.
    pub says_agenda : said_agenda file ≡ stack_words n s.memory
    unfolding said_agenda content_from
    says_agenda =
        rw (says_n, says_d, says_subproblems)
        (map_is (λ k. content_word file (9 + n + triangle_words n d + k)) (length s.memory * (n + 2)) (stack_words n s.memory)
        (shape_length n few s.memory shape) (λ k l. holds (9 + n + triangle_words n d + k) (omega (arith, content_length)) ∙ content_agenda k))

    -- It says the stack.
    pub says_stack : (said_search file).memory ≡ s.memory
    says_stack =
        rw (says_n, says_agenda, says_subproblems)
        (ap (λ (l : List ℕ). stack_of n l (length s.memory)) (sym (append-nil (stack_words n s.memory))) ∙ stack_back n 16 s.memory [] few shape)

    -- It says the search.
    pub says_search : said_search file ≡ s
    says_search = λ i. record { memory = says_stack i; steps = says_steps i; checks = says_checks i }

    -- What is allowed, of a table that is symmetric.
    mask_at : (i j a : ℕ) → i < j → j < n → a < d
        → content_word file (9 + said_n file + triangle_place (said_n file) (said_d file) i j a) ≡ allowed i j a
    mask_at i j a h l m =
        rw (says_n, says_d)
        (holds (9 + n + triangle_place n d i j a) (omega (arith, content_length, place_lt n d i j a h l m)) ∙ content_mask i j a h l m)

    -- For i below j it says what is allowed.
    pub says_below : (i j a : ℕ) → i < j → j < n → a < d → said_allowed file i j a ≡ allowed i j a
    unfolding said_allowed
    says_below i j a h l m = rw (lt-ltb i j h) (mask_at i j a h l m)

    -- And for i above j, put together of the digits.
    pub says_above : (i j a : ℕ) → j < i → i < n → a < d → ((b : ℕ) → b < d → bit (allowed i j a) b ≡ bit (allowed j i b) a) → allowed i j a < 2 ^ d
        → said_allowed file i j a ≡ allowed i j a
    unfolding said_allowed
    says_above i j a h l m same small =
        rw (le-ltb i j (omega arith), lt-ltb j i h)
        (gathered_same (said_d file) (λ b. bit (content_word file (9 + said_n file + triangle_place (said_n file) (said_d file) j i b)) a) (bit (allowed i j a))
        (λ b q. let k : b < d = rw says_d at q in ap (λ (x : ℕ). bit x a) (mask_at j i b h l k) ∙ sym (same b k))
        ∙ ap (λ (x : ℕ). gathered x (bit (allowed i j a))) says_d ∙ gathered_bits d (allowed i j a) small)
