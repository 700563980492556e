-- Load after save, and save after load.
-- Assumes nothing.
use mathlib.Core.Path.{◌≡◌, refl, sym, ap, ap₂, ◌∙◌}
use mathlib.Core.List.{List, Memᴰ, [], ◌∷◌, ◌++◌}
use Prim.Native.Nat.{ℕ, ◌+◌, ◌-◌, ◌*◌, ◌/◌, ◌%◌, ◌^◌, ◌≤◌, ◌<◌}
use native.Mathlib.Omega.{arith}
use native.Mathlib.Nat.{mul-le-mul, zero-add}
use native.Mathlib.Decide.{dec_lt}
use lib.Arith.{lt_of_le-ne}
use lib.ListN.{length, get_or, get_or-eq_default}
use lib.Seq.{take_all}
use borrow.Author.Tests.{lt-ltb}
use Rattle.problem.specs.Problem.{Proper, Table, AllowSame}
use Rattle.splits.specs.Subproblems.{Rules}
use Rattle.problem.specs.Lists.{below}
use Rattle.splits.specs.declared.subproblem.Subproblem.{Subproblem}
use Rattle.search.specs.Agenda.{Shape, stack_words}
use Rattle.search.specs.Slots.{Search}
use Rattle.search.proofs.Encoding.{length_stack_of, stack_of_words}
use Rattle.blocks.specs.Blocks.{blocks_for, file_of}
use Rattle.files.specs.Content.{content_of, triangle}
use Rattle.blocks.specs.Reading.{blocks_in, content_word, content_from, Bytes}
use Rattle.files.specs.Reading.{said_n, said_d, said_steps, said_checks, said_subproblems, said_domains, said_allowed, said_agenda, said_search, said_words, agenda_from, triangle_words}
use Rattle.files.specs.Promises.{Says}
use Rattle.blocks.proofs.Whole.{Whole, rebuilt}
use Rattle.files.proofs.Triangle.{triangle_from}
use Rattle.blocks.proofs.Blocks.{file_blocks, file_content, file_passes}
use Rattle.files.proofs.Accepted.{Accepts, agenda_length, accept_words}
use Rattle.files.proofs.Contents.{content_words, content_length, says_n, says_d, says_steps, says_checks, says_subproblems, says_domains, says_words, says_search, says_stack, says_below, says_above}
use Rattle.blocks.proofs.Contents.{content_word_small, from_small}
use Rattle.blocks.proofs.Lists.{seq, seq_join, seq_length, seq_at}
use Rattle.files.proofs.Stacks.{stack_most, of_shape}
use Rattle.files.proofs.Tables.{with_table, rules_agree, agree_back}

-- ---- how large a content is

-- The tables have at most 7,936 words.
pub triangle_few : (n d : ℕ) → n ≤ 32 → d ≤ 16 → triangle_words n d ≤ 7936
triangle_few n d h l =
    let less : n - 1 ≤ 31 = omega arith in
    let pairs : n * (n - 1) ≤ 32 * 31 = mul-le-mul h less in
    let half : n * (n - 1) / 2 ≤ 496 = omega arith in
    mul-le-mul half l

module _ (n d : ℕ) (domains : List ℕ) (allowed : Table) (s : Search) (few : n ≤ 32) (values : d ≤ 16) (words : length domains ≡ n)
    (stack : length s.memory ≤ 512) where
  -- A content has at most 25,385 words.
  pub content_few : length (content_of n d domains allowed s) ≤ 25385
  content_few =
      let slot : n + 2 ≤ 34 = omega arith in
      let slots : length s.memory * (n + 2) ≤ 512 * 34 = mul-le-mul stack slot in
      omega (arith, content_words n d domains allowed s words, stack_most n s.memory, triangle_few n d few values)

  -- It fills at most 101 blocks.
  pub blocks_few : blocks_for (length (content_of n d domains allowed s)) ≤ 101
  unfolding blocks_for
  blocks_few = omega (arith, content_few)

module _ (n d : ℕ) (domains : List ℕ) (allowed : Table) (s : Search) (few : n ≤ 32) (values : d ≤ 16) (words : length domains ≡ n)
    (stack : length s.memory ≤ 512) (shape : (P : Subproblem) → Memᴰ P s.memory → Shape n 16 P) where
  -- It fills at least one block.
  pub blocks_some : 1 ≤ blocks_for (length (content_of n d domains allowed s))
  unfolding blocks_for
  blocks_some = omega (arith, content_length n d domains allowed s few words shape)

  -- A content lies within its blocks.
  pub blocks_hold : (k : ℕ) → k < length (content_of n d domains allowed s)
      → content_word (file_of (content_of n d domains allowed s)) k ≡ get_or (content_of n d domains allowed s) k 0
  unfolding blocks_for
  blocks_hold k l = file_content (content_of n d domains allowed s) k (omega arith)

  -- ---- load after save

  module _ (proper : Proper (with_table n d (λ i. get_or domains i 0) allowed))
      (rules : (P : Subproblem) → Memᴰ P s.memory → Rules (with_table n d (λ i. get_or domains i 0) allowed) P) (counted : s.checks ≤ 496 * s.steps) where
    file : List ℕ
    file = file_of (content_of n d domains allowed s)

    -- The blocks of a search that passes say it.
    pub file_says : Says (file_of (content_of n d domains allowed s)) n d domains allowed s
    unfolding file
    file_says = record {
      whole = file_passes (content_of n d domains allowed s) blocks_some (blocks_few n d domains allowed s few values words stack);
      accepted = accept_words file accepts;
      its_n = the_n;
      its_d = the_d;
      its_domains = the_domains;
      its_allowed = the_allowed;
      its_subproblems = says_subproblems n d domains allowed s few words shape file blocks_hold;
      its_search = says_search n d domains allowed s few words shape file blocks_hold;
    }
      where
        the_n : said_n file ≡ n
        the_n = says_n n d domains allowed s few words shape file blocks_hold

        the_d : said_d file ≡ d
        the_d = says_d n d domains allowed s few words shape file blocks_hold

        the_domains : said_domains file ≡ domains
        the_domains = says_domains n d domains allowed s few words shape file blocks_hold

        the_allowed : AllowSame n d (said_allowed file) allowed
        the_allowed i j a l k q m = elim (dec_lt i j) [
          | yes h ↦ says_below n d domains allowed s few words shape file blocks_hold i j a h k m
          | no h ↦
              let less : j < i = lt_of_le-ne (omega arith) (λ e. q (sym e)) in
              says_above n d domains allowed s few words shape file blocks_hold i j a less l m (λ b o. proper.symmetric i j a b l k q m o)
              (proper.masks i j a l k q m)
        ]

        the_words : said_words file ≡ length (content_of n d domains allowed s)
        the_words = says_words n d domains allowed s few words shape file blocks_hold

        accepts : Accepts file
        accepts = record {
          some_variable = rw the_n proper.some_variable;
          variables = rw the_n few;
          some_value = rw the_d proper.some_value;
          values = rw the_d values;
          few = rw (says_subproblems n d domains allowed s few words shape file blocks_hold) stack;
          fills = file_blocks (content_of n d domains allowed s) ∙ ap blocks_for (sym the_words);
          zeros = λ k l m.
              file_content (content_of n d domains allowed s) k (rw (file_blocks (content_of n d domains allowed s)) at m)
              ∙ get_or-eq_default (content_of n d domains allowed s) 0 (rw the_words at l);
          domains = λ i l. rw (the_domains, the_d) (proper.domains i (rw the_n at l));
          masks = λ i j a l k m.
              let below : j < n = rw the_n at k in
              let value : a < d = rw the_d at m in
              let other : i ≡ j → ⊥ = λ e. absurd (omega arith) in
              rw (the_d, the_allowed i j a (omega arith) below other value) (proper.masks i j a (omega arith) below other value);
          rules = λ P m.
              rw (the_domains, the_n, the_d) (rules_agree n d (λ i. get_or domains i 0) allowed (said_allowed file) (agree_back (said_allowed file) allowed the_allowed) proper.domains P
              (rules P (rw (says_stack n d domains allowed s few words shape file blocks_hold) at m)));
          counted =
              rw
              (says_checks n d domains allowed s few words shape file blocks_hold, says_steps n d domains allowed s few words shape file blocks_hold)
              counted;
        }

-- ---- save after load

-- A number put together of words is taken apart into them.
two_high : (a b : ℕ) → b < 65536 → (a * 65536 + b) / 65536 ≡ a
two_high a b h = omega arith

two_low : (a b : ℕ) → b < 65536 → (a * 65536 + b) % 65536 ≡ b
two_low a b h = omega arith

four_first : (a b c e : ℕ) → b < 65536 → c < 65536 → e < 65536 → (((a * 65536 + b) * 65536 + c) * 65536 + e) / 2 ^ 48 ≡ a
four_first a b c e h k l = omega arith

four_second : (a b c e : ℕ) → b < 65536 → c < 65536 → e < 65536 → (((a * 65536 + b) * 65536 + c) * 65536 + e) / 2 ^ 32 % 65536 ≡ b
four_second a b c e h k l =
    let x : (((a * 65536 + b) * 65536 + c) * 65536 + e) / 2 ^ 32 ≡ a * 65536 + b = omega arith in
    rw x (two_low a b h)

four_third : (a b c e : ℕ) → c < 65536 → e < 65536 → (((a * 65536 + b) * 65536 + c) * 65536 + e) / 65536 % 65536 ≡ c
four_third a b c e k l = rw (two_high ((a * 65536 + b) * 65536 + c) e l) (two_low (a * 65536 + b) c k)

module _ (file : List ℕ) (bytes : Bytes file) where
  agenda_small : (k : ℕ) → get_or (said_agenda file) k 0 < 65536
  unfolding said_agenda
  agenda_small = from_small file (agenda_from (said_n file) (said_d file)) (said_subproblems file * (said_n file + 2)) bytes

  module _ (few : said_n file ≤ 32) where
    -- Each subproblem that it says is as memory holds it.
    pub said_shape : (P : Subproblem) → Memᴰ P (said_search file).memory → Shape (said_n file) 16 P
    said_shape P m =
        of_shape (said_n file) few (said_agenda file) agenda_small (said_subproblems file) (omega (arith, agenda_length file)) P m

    -- They are as many as it says.
    pub said_length : length (said_search file).memory ≡ said_subproblems file
    said_length = length_stack_of (said_n file) (said_agenda file) (said_subproblems file)

    -- What the words say, put into words again, is the words.
    masks_from : triangle (said_n file) (said_d file) (said_allowed file) ≡ seq (content_word file) (9 + said_n file) (triangle_words (said_n file) (said_d file))
    unfolding said_allowed
    masks_from =
        triangle_from (said_n file) (said_d file) (said_allowed file) (content_word file) (9 + said_n file) (λ i j a l k m. rw (lt-ltb i j l) refl)

    agenda_from_lem : stack_words (said_n file) (said_search file).memory
        ≡ seq (content_word file) (9 + said_n file + triangle_words (said_n file) (said_d file)) (said_subproblems file * (said_n file + 2))
    unfolding said_agenda content_from seq
    agenda_from_lem =
        stack_of_words (said_n file) (said_agenda file) (said_subproblems file) (omega (arith, agenda_length file)) agenda_small
        ∙ take_all (said_subproblems file * (said_n file + 2)) (said_agenda file) (omega (arith, agenda_length file))

    -- All of it.
    pub said_content : content_of (said_n file) (said_d file) (said_domains file) (said_allowed file) (said_search file) ≡ seq (content_word file) 0 (said_words file)
    unfolding content_of content_from seq below
    said_content =
        let g = content_word file in
        let n = said_n file in
        let tw = triangle_words (said_n file) (said_d file) in
        let sw = said_subproblems file * (said_n file + 2) in
        ap₂ ◌++◌ (ap₂ ◌++◌ (ap (λ (l : List ℕ). l ++ seq g 9 n) nine) masks_from) agenda_from_lem
        ∙ sym (seq_join g 0 (9 + n + tw) sw
        ∙ ap₂ ◌++◌ (seq_join g 0 (9 + n) tw ∙ ap₂ ◌++◌ (seq_join g 0 9 n) (ap (λ (x : ℕ). seq g x tw) (zero-add (9 + n)))) (ap (λ (x : ℕ). seq g x sw) (zero-add (9 + n + tw))))
      where
        steps : ℕ
        steps = said_steps file

        checks : ℕ
        checks = said_checks file

        nine : said_n file ∷ said_d file ∷ steps / 65536 ∷ steps % 65536 ∷ checks / 2 ^ 48 ∷ checks / 2 ^ 32 % 65536 ∷ checks / 65536 % 65536 ∷ checks % 65536
            ∷ length (said_search file).memory ∷ []
            ≡ seq (content_word file) 0 9
        nine =
            let g = content_word file in
            rw (
              two_high (g 2) (g 3) (content_word_small file bytes 3),
              two_low (g 2) (g 3) (content_word_small file bytes 3),
              four_first (g 4) (g 5) (g 6) (g 7) (content_word_small file bytes 5) (content_word_small file bytes 6)
                  (content_word_small file bytes 7),
              four_second (g 4) (g 5) (g 6) (g 7) (content_word_small file bytes 5) (content_word_small file bytes 6)
                  (content_word_small file bytes 7),
              four_third (g 4) (g 5) (g 6) (g 7) (content_word_small file bytes 6) (content_word_small file bytes 7),
              two_low ((g 4 * 65536 + g 5) * 65536 + g 6) (g 7) (content_word_small file bytes 7),
              said_length,
            ) refl

    -- So its blocks are the file.
    pub saved_again : Whole file → Accepts file
        → file_of (content_of (said_n file) (said_d file) (said_domains file) (said_allowed file) (said_search file)) ≡ file
    saved_again w a =
        ap file_of said_content
        ∙ rebuilt file w bytes (seq (content_word file) 0 (said_words file))
        (ap blocks_for (seq_length (content_word file) 0 (said_words file)) ∙ sym a.fills) says
      where
        says : (k : ℕ) → k < blocks_in file * 253 → content_word file k ≡ get_or (seq (content_word file) 0 (said_words file)) k 0
        says k l = elim (dec_lt k (said_words file)) [
          | yes h ↦ sym (seq_at (content_word file) 0 (said_words file) k h ∙ ap (content_word file) (zero-add k))
          | no h ↦
              a.zeros k (omega arith) l
              ∙ sym
              (get_or-eq_default (seq (content_word file) 0 (said_words file)) 0 (omega (arith, seq_length (content_word file) 0 (said_words file))))
        ]
