-- What save returns and leaves, refused or not.
-- Assumes nothing.
use mathlib.Core.Path.{◌≡◌, refl, sym, ap, ◌∙◌}
use mathlib.Core.Bool.{Bool, true, cond, ◌&&◌}
use mathlib.Core.List.{List, [], ◌∷◌, ◌++◌}
use Prim.Native.Nat.{ℕ, zero, suc, ◌+◌, ◌-◌, ◌*◌, ◌/◌, ◌%◌, ◌^◌, ◌≤◌, ◌<◌}
use native.Mathlib.Omega.{arith}
use lib.ListN.{length, get_or, take, drop, replicate, length-append, length-replicate}
use lib.Seq.{length-take-le}
use lib.Dec.{eqb, leb, ltb}
use borrow.Author.Tests.{eq-eqb, le-leb, lt-ltb, le-ltb, leb-true}
use Rattle.problem.proofs.Tests.{and_left, and_right}
use Rattle.problem.specs.Problem.{problem_of}
use Rattle.search.specs.Agenda.{slots_in, stack_of}
use Rattle.search.specs.Tests.FirstChecks.{whole_slots, refusal_of_lengths, all_obey, zeros_from, refusal_of_search, open_refusal, search_refusal}
use Rattle.search.specs.declared.state.State.{State}
use Rattle.problem.proofs.first_checks.Parts.{given_if, else_first, else_rest, else_pass, numbers_pass}
use Rattle.search.proofs.first_checks.FirstParts.{lengths_pass, open_parts, slots_within}
use Rattle.blocks.specs.Blocks.{blocks_for, file_of}
use Rattle.blocks.specs.Calls.{PutBlocks}
use Rattle.files.specs.Reading.{word_count}
use Rattle.files.specs.Calls.{handed_content, save_refusal, Saves}
use Rattle.files.specs.Loops.Said.{Numbers}
use Rattle.files.specs.Loops.Saved.{Savable}
use Rattle.files.specs.Outcomes.{Saved}
use Rattle.blocks.proofs.Blocks.{file_length, same_file}
use Rattle.files.proofs.content.Written.{handed_length}
use Rattle.files.proofs.LoadOutcomes.{given, not_given}

-- What is left of a list with zeros after it, cut among the zeros.
take_padded : (l : List ℕ) (z k : ℕ) → length l ≤ k → k ≤ length l + z → take k (l ++ replicate z 0) ≡ l ++ replicate (k - length l) 0
take_padded [] z k h m = let e : k ≡ k - 0 = omega arith in take_zeros z k (omega arith) ∙ ap (λ (j : ℕ). replicate {A = ℕ} j 0) e
  where
    take_zeros : (z k : ℕ) → k ≤ z → take {A = ℕ} k (replicate z 0) ≡ replicate k 0
    take_zeros z zero h = refl
    take_zeros zero (suc k) h = absurd (omega arith)
    take_zeros (suc z) (suc k) h = ap (λ (t : List ℕ). 0 ∷ t) (take_zeros z k (omega arith))
take_padded (x ∷ l) z zero h m = absurd (omega arith)
take_padded (x ∷ l) z (suc k) h m =
    let e : k - length l ≡ suc k - suc (length l) = omega arith in
    ap (λ (t : List ℕ). x ∷ t) (take_padded l z k (omega arith) (omega arith) ∙ ap (λ (j : ℕ). l ++ replicate j 0) e)

-- The words of the blocks to write.
pub save_part : (content : List ℕ) (words : ℕ) → length content ≡ 25553 → words ≤ 25385
    → (words + 252) / 253 * 253 ≡ length (take ((words + 252) / 253 * 253) content)
save_part content words long few = sym (length-take-le ((words + 252) / 253 * 253) content (omega arith))

-- Whole blocks need no block more.
whole_count : (blocks : ℕ) → blocks_for (blocks * 253) ≡ blocks
unfolding blocks_for
whole_count blocks = omega arith

-- What is written of a content that is filled up with zeros is its own file.
blocks_written : (c file after : List ℕ) (z blocks : ℕ) → length c + z ≡ blocks * 253 → blocks_for (length c) ≡ blocks → blocks ≤ 101
    → 512 * blocks ≤ length file → PutBlocks (c ++ replicate z 0) file after → after ≡ file_of c ++ drop (512 * blocks) file
blocks_written c file after z blocks whole e few room put =
    let long : length (c ++ replicate z 0) ≡ blocks * 253 = length-append c (replicate z 0) ∙ omega (arith, length-replicate {A = ℕ} z 0) in
    let count : blocks_for (blocks * 253) ≡ blocks = whole_count blocks in
    (rw (long, count, eq-eqb (blocks * 253) (blocks * 253) refl, le-leb blocks 101 few, le-leb (512 * blocks) (length file) room) at put)
    ∙ ap (λ (x : List ℕ). x ++ drop (512 * blocks) file) (same_file c z (ap blocks_for whole ∙ count ∙ sym e))

module _ (n d : ℕ) (domains tables agenda : List ℕ) (s : State) where
  -- There are at most 512 slots.
  most_slots : whole_slots n (length agenda) ≡ true → slots_in n (length agenda) ≤ 512
  unfolding whole_slots
  most_slots e =
      leb-true (slots_in n (length agenda)) 512
      (and_right (eqb (length agenda % (n + 2)) 0 && leb 1 (slots_in n (length agenda))) (leb (slots_in n (length agenda)) 512) e)

  -- The agenda is whole slots.
  whole : refusal_of_lengths n d (length domains) (length tables) (length agenda) ≡ 0 → whole_slots n (length agenda) ≡ true
  unfolding refusal_of_lengths
  whole e =
      and_right (eqb (length domains) n && eqb (length tables) (n * n * d)) (whole_slots n (length agenda))
      (given_if (eqb (length domains) n && eqb (length tables) (n * n * d) && whole_slots n (length agenda)) 3 (λ z. absurd (omega arith)) e)

  -- There is a slot for each subproblem.
  room : refusal_of_search (problem_of n d domains tables) agenda s.counts.steps.0 s.counts.checks.0 s.subproblems ≡ 0
      → s.subproblems ≤ slots_in n (length agenda)
  unfolding refusal_of_search
  room e =
      let a : Bool = leb s.subproblems (slots_in n (length agenda)) in
      let b : Bool = all_obey (problem_of n d domains tables) (stack_of n agenda s.subproblems) in
      let c : Bool = zeros_from (s.subproblems * (n + 2)) agenda in
      let f : Bool = leb s.counts.checks.0 (496 * s.counts.steps.0) in
      leb-true s.subproblems (slots_in n (length agenda))
      (and_left a b (and_left (a && b) c (and_left (a && b && c) f (given_if (a && b && c && f) 6 (λ z. absurd (omega arith)) e))))

  -- What the first checks leave where they pass.
  first_passed : search_refusal n d domains tables agenda s.counts.steps.0 s.counts.checks.0 s.subproblems ≡ 0
      → Numbers n d × Savable n d domains tables agenda s
  unfolding search_refusal
  first_passed e =
      let search : ℕ = refusal_of_search (problem_of n d domains tables) agenda s.counts.steps.0 s.counts.checks.0 s.subproblems in
      let both = else_pass (open_refusal n d domains tables agenda) search e in
      let opened = open_parts n d domains tables agenda both.0 in
      let numbers = numbers_pass n d opened.0 in
      let fits = lengths_pass n d domains tables (length agenda) opened.0 opened.1 in
      let fit = room both.1 in
      let most = most_slots (whole opened.1) in (
        record {
          some_variable = numbers.some_variable;
          variables = numbers.variables;
          some_value = numbers.some_value;
          values = numbers.values;
        },
        record {
          domains_words = fits.words;
          tables_words = fits.sized.words;
          few = omega arith;
          agenda_words = slots_within n (length agenda) s.subproblems fit;
        },
      )

  pub save_passed : (r : ℕ) → r ≡ search_refusal n d domains tables agenda s.counts.steps.0 s.counts.checks.0 s.subproblems → r ≡ 0
      → Numbers n d × Savable n d domains tables agenda s
  save_passed r e z = first_passed (sym e ∙ z)

  module _ (file : List ℕ) where
    -- The refusal of save.
    refusal : ℕ
    refusal = save_refusal n d domains tables agenda s file

    -- Refused by the first checks.
    pub save_refused : (r : ℕ) (x : Saved) → r ≡ search_refusal n d domains tables agenda s.counts.steps.0 s.counts.checks.0 s.subproblems
        → (r ≡ 0 → ⊥) → x.refusal ≡ r → x.blocks ≡ 0 → Saves n d domains tables agenda s file file x
    unfolding refusal save_refusal
    save_refused r x e f a b =
        let same : r ≡ refusal = else_first r (search_refusal n d domains tables agenda s.counts.steps.0 s.counts.checks.0 s.subproblems)
        _ e f in
        let some : refusal ≡ 0 → ⊥ = λ z. f (same ∙ z) in
        record {
          refusal = a ∙ same;
          blocks = not_given refusal _ 0 x.blocks some b;
          file = not_given refusal _ file file some refl;
        }

    module _ (small : (i : ℕ) → get_or agenda i 0 < 2 ^ 16) (r words : ℕ) (is-r : r ≡ search_refusal n d domains tables agenda s.counts.steps.0 s.counts.checks.0 s.subproblems) (zero-r : r ≡ 0) (is-words : words ≡ word_count n d s.subproblems) where
      abbrev passed : Numbers n d × Savable n d domains tables agenda s
      passed = save_passed r is-r zero-r

      -- So many blocks.
      counted_blocks : (words + 252) / 253 ≡ blocks_for (length (handed_content n d domains tables agenda s))
      unfolding blocks_for
      counted_blocks =
          let all : words ≡ length (handed_content n d domains tables agenda s) = is-words ∙ sym
          (handed_length n d passed.0 domains tables agenda s passed.1 small) in
          ap (λ (x : ℕ). (x + 252) / 253) all

      -- 13 or none is left.
      last : refusal ≡ cond (ltb (length file) (512 * ((words + 252) / 253))) 13 0
      unfolding refusal save_refusal
      last =
          sym
          (else_rest _ (search_refusal n d domains tables agenda s.counts.steps.0 s.counts.checks.0 s.subproblems) _ (sym is-r ∙ zero-r)
          (ap (λ (x : ℕ). cond (ltb (length file) (512 * x)) 13 0) counted_blocks))

      -- The buffer is too short.
      pub save_short : (x : Saved) → length file < 512 * ((words + 252) / 253) → x.refusal ≡ 13 → x.blocks ≡ 0
          → Saves n d domains tables agenda s file file x
      unfolding refusal
      save_short x h a b =
          let same : refusal ≡ 13 = last ∙ rw (lt-ltb (length file) (512 * ((words + 252) / 253)) h) refl in
          let some : refusal ≡ 0 → ⊥ = λ z. absurd (omega arith) in
          record {
            refusal = a ∙ sym same;
            blocks = not_given refusal _ 0 x.blocks some b;
            file = not_given refusal _ file file some refl;
          }

      -- The content with the zeros that fill its last block.
      filling : (content : List ℕ) → content ≡ handed_content n d domains tables agenda s ++ replicate (25553 - word_count n d s.subproblems) 0
          → (words + 252) / 253 ≤ 101
          → take ((words + 252) / 253 * 253) content ≡ handed_content n d domains tables agenda s ++ replicate ((words + 252) / 253 * 253 - words) 0
      filling content c few =
          let long : length (handed_content n d domains tables agenda s) ≡ words =
          handed_length n d passed.0 domains tables agenda s passed.1 small ∙ sym is-words in
          ap (take ((words + 252) / 253 * 253)) (c ∙ rw (← is-words) refl)
          ∙ take_padded (handed_content n d domains tables agenda s) (25553 - words) ((words + 252) / 253 * 253) (omega arith) (omega arith)
          ∙ rw long refl

      -- The blocks are written.
      pub save_written : (x : Saved) (after content : List ℕ) → 512 * ((words + 252) / 253) ≤ length file → words ≤ 25385 → x.refusal ≡ 0
          → x.blocks ≡ (words + 252) / 253
          → content ≡ handed_content n d domains tables agenda s ++ replicate (25553 - word_count n d s.subproblems) 0
          → PutBlocks (take ((words + 252) / 253 * 253) content) file after → Saves n d domains tables agenda s file after x
      unfolding refusal
      save_written x after content h few a b c put =
          let handed : List ℕ = handed_content n d domains tables agenda s in
          let count : ℕ = (words + 252) / 253 in
          let zero : ℕ = count * 253 - words in
          let long : length handed ≡ words = handed_length n d passed.0 domains tables agenda s passed.1 small ∙ sym is-words in
          let same : after ≡ file_of handed ++ drop (512 * count) file =
          blocks_written handed file after zero count (omega arith) (sym counted_blocks) (omega arith) h (subst_put (filling content c (omega arith)) put) in
          let none : refusal ≡ 0 = last ∙ rw (le-ltb (length file) (512 * ((words + 252) / 253)) h) refl in
          let end : 512 * count ≡ length (file_of handed) = ap (λ (k : ℕ). 512 * k) counted_blocks ∙ sym (file_length handed) in
          record {
            refusal = a ∙ sym none;
            blocks = given refusal (blocks_for (length handed)) 0 x.blocks none (b ∙ counted_blocks);
            file = given refusal (file_of handed ++ drop (length (file_of handed)) file) file after none
                (same ∙ ap (λ (k : ℕ). file_of handed ++ drop k file) end);
          }
        where
          subst_put : {l m : List ℕ} → l ≡ m → PutBlocks l file after → PutBlocks m file after
          subst_put e p = rw (← e) p
