-- Whole files: what passing 14 says, what 14 says, and that the blocks of what was read are the file again.
-- Assumes nothing.
use mathlib.Core.Path.{◌≡◌, refl, sym, ap, ap₂, ◌∙◌}
use mathlib.Core.Logic.{◌⊎◌, inl, inr, ⊎_elim, ◌↔◌}
use mathlib.Core.Bool.{Bool, true, false, cond, ◌&&◌}
use mathlib.Core.List.{List, map}
use Prim.Native.Nat.{ℕ, zero, suc, ◌+◌, ◌*◌, ◌/◌, ◌%◌, ◌≤◌, ◌<◌}
use native.Mathlib.Omega.{arith}
use native.Mathlib.Nat.{zero-add}
use native.Mathlib.Numerals.{add-one}
use native.Mathlib.Decide.{dec_lt}
use lib.ListN.{length, get_or}
use lib.Seq.{take_all}
use lib.Dec.{eqb, leb}
use borrow.Author.Tests.{eqb-true, eqb-false, leb-true, leb-false}
use Rattle.problem.specs.Lists.{total, every, below}
use Rattle.problem.proofs.Tests.{and_left, and_right, every_at}
use Rattle.problem.proofs.Decisions.{every_fails}
use Rattle.problem.proofs.first_checks.Parts.{given_if}
use Rattle.blocks.specs.Blocks.{file_bytes, word_at, check_of, blocks_for, headed_block, block_words, first_blocks, file_of}
use Rattle.blocks.specs.Lists.{each}
use Rattle.blocks.specs.Reading.{blocks_in, block_word, head_of, content_word, Deserves14}
use Rattle.blocks.specs.Tests.Whole.{good_block, refusal_of_file}
use Rattle.blocks.specs.Calls.{RefusalOfFile}
use Rattle.blocks.proofs.Lists.{total_const, each_same, map_is, map_same, seq, seq_is, seq_each}
use Rattle.blocks.proofs.Words.{bytes_read}
use Rattle.blocks.proofs.Tests.{and_cases, either, one_of}
use Rattle.blocks.proofs.Blocks.{content_at, headed_length, block_length, block_headed, block_check, blocks_words}

-- A file of 1 to 101 whole blocks, each with the number, count and check that are right.
pub record Whole (file : List ℕ) : Type 0 where
  pub whole : length file ≡ blocks_in file * 512
  pub some : 1 ≤ blocks_in file
  pub few : blocks_in file ≤ 101
  pub number : (b : ℕ) → b < blocks_in file → block_word file b 0 ≡ b + 1
  pub count : (b : ℕ) → b < blocks_in file → block_word file b 1 ≡ blocks_in file
  pub check : (b : ℕ) → b < blocks_in file → block_word file b 255 ≡ check_of (head_of file b)

module _ (file : List ℕ) where
  sized : Bool
  sized = eqb (length file) (blocks_in file * 512)

  least : Bool
  least = leb 1 (blocks_in file)

  most : Bool
  most = leb (blocks_in file) 101

  all : Bool
  all = every (blocks_in file) (good_block file)

  tests : Bool
  tests = sized && least && most && all

  is_tests : refusal_of_file file ≡ cond tests 0 14
  unfolding refusal_of_file tests sized least most all
  is_tests = refl

  -- What the tests say.
  tests_whole : tests ≡ true → Whole file
  unfolding tests sized least most all good_block
  tests_whole e =
      let x = and_left (sized && least && most) all e in
      let y = and_left (sized && least) most x in
      let good : (b : ℕ) → b < blocks_in file → good_block file b ≡ true = λ b h. every_at (good_block file) (blocks_in file) b h
      (and_right (sized && least && most) all e) in
      let number : ℕ → Bool = λ b. eqb (block_word file b 0) (b + 1) in
      let count : ℕ → Bool = λ b. eqb (block_word file b 1) (blocks_in file) in
      let check : ℕ → Bool = λ b. eqb (block_word file b 255) (check_of (head_of file b)) in
      record {
        whole = eqb-true (length file) (blocks_in file * 512) (and_left sized least y);
        some = leb-true 1 (blocks_in file) (and_right sized least y);
        few = leb-true (blocks_in file) 101 (and_right (sized && least) most x);
        number = λ b h. eqb-true (block_word file b 0) (b + 1) (and_left (number b) (count b) (and_left (number b && count b) (check b) (good b h)));
        count =
            λ b h. eqb-true (block_word file b 1) (blocks_in file)
            (and_right (number b) (count b) (and_left (number b && count b) (check b) (good b h)));
        check = λ b h. eqb-true (block_word file b 255) (check_of (head_of file b)) (and_right (number b && count b) (check b) (good b h));
      }

  tests_deserve : tests ≡ false → Deserves14 file
  unfolding tests sized least most all good_block
  tests_deserve e =
      ⊎_elim
      (λ x. ⊎_elim
      (λ y. ⊎_elim (λ z. inl (inl (eqb-false (length file) (blocks_in file * 512) z))) (λ z. inl (inr (inl (leb-false 1 (blocks_in file) z))))
      (and_cases sized least y))
      (λ y. inl (inr (inr (leb-false (blocks_in file) 101 y)))) (and_cases (sized && least) most x))
      (λ x. let (b, l, bad) = every_fails (good_block file) (blocks_in file) x in inr (b, l, wrong b bad))
      (and_cases (sized && least && most) all e)
    where
      wrong : (b : ℕ) → good_block file b ≡ false
          → (block_word file b 0 ≡ b + 1 → ⊥) ⊎ (block_word file b 1 ≡ blocks_in file → ⊥) ⊎ (block_word file b 255 ≡ check_of (head_of file b) → ⊥)
      wrong b e =
          let number = eqb (block_word file b 0) (b + 1) in
          let count = eqb (block_word file b 1) (blocks_in file) in
          let check = eqb (block_word file b 255) (check_of (head_of file b)) in
          ⊎_elim
          (λ x. ⊎_elim (λ y. inl (eqb-false (block_word file b 0) (b + 1) y)) (λ y. inr (inl (eqb-false (block_word file b 1) (blocks_in file) y)))
          (and_cases number count x))
          (λ x. inr (inr (eqb-false (block_word file b 255) (check_of (head_of file b)) x))) (and_cases (number && count) check e)

  -- A whole file does not deserve 14.
  pub whole_deserves_not : Whole file → Deserves14 file → ⊥
  whole_deserves_not w (inl (inl f)) = f w.whole
  whole_deserves_not w (inl (inr (inl l))) = omega (arith, w.some)
  whole_deserves_not w (inl (inr (inr l))) = omega (arith, w.few)
  whole_deserves_not w (inr x) =
      let (b, l, bad) = x in
      ⊎_elim (λ f. f (w.number b l)) (λ y. ⊎_elim (λ f. f (w.count b l)) (λ f. f (w.check b l)) y) bad

  -- Passing 14 says that the file is whole.
  pub file_whole : refusal_of_file file ≡ 0 → Whole file
  file_whole e = tests_whole (given_if tests 14 (λ z. absurd (omega arith)) (sym is_tests ∙ e))

  -- The answer is 0 or 14.
  pub file_either : (refusal_of_file file ≡ 0) ⊎ (refusal_of_file file ≡ 14)
  file_either = rw is_tests (one_of tests 0 14)

  -- 14 is given where it is deserved.
  given_14 : Deserves14 file → refusal_of_file file ≡ 14
  given_14 h = ⊎_elim (λ e. absurd (whole_deserves_not (file_whole e) h)) (λ e. e) file_either

  -- Where it is given it is deserved.
  deserved_14 : refusal_of_file file ≡ 14 → Deserves14 file
  deserved_14 e = ⊎_elim (λ t. absurd (omega (arith, passed t))) tests_deserve (either tests)
    where
      passed : tests ≡ true → refusal_of_file file ≡ 0
      passed t = is_tests ∙ rw t refl

  -- 14 is given exactly if it is deserved.
  pub refusal_14 : (refusal_of_file file ≡ 14) ↔ Deserves14 file
  refusal_14 = (deserved_14, given_14)

  -- And 0 exactly if it is not.
  pub refusal_not_14 : (refusal_of_file file ≡ 0) ↔ (Deserves14 file → ⊥)
  refusal_not_14 = (λ e. whole_deserves_not (file_whole e), λ f. ⊎_elim (λ e. e) (λ e. absurd (f (deserved_14 e))) file_either)

  -- What the test gives is the refusal of the file.
  pub refusal_made : (r : ℕ) → r ≡ refusal_of_file file → RefusalOfFile file r
  refusal_made r e = rw e (record { given = refusal_14; none = refusal_not_14 })

  -- And the refusal of the file is what the test gives.
  pub refusal_is : (r : ℕ) → RefusalOfFile file r → r ≡ refusal_of_file file
  refusal_is r h =
      ⊎_elim (λ e. h.none.1 (refusal_not_14.0 e) ∙ sym e) (λ e. h.given.1 (refusal_14.0 e) ∙ sym e) file_either

  -- ---- the blocks of what was read

  -- A content that fills as many blocks, and that says what the file's words say, makes the file again.
  module _ (w : Whole file) (bytes : (i : ℕ) → get_or file i 0 < 256) (c : List ℕ) (fills : blocks_for (length c) ≡ blocks_in file)
      (says : (k : ℕ) → k < blocks_in file * 253 → content_word file k ≡ get_or c k 0) where
    head_word : (b : ℕ) → b < blocks_in file → (k : ℕ) → k < 255 → block_word file b k ≡ get_or (headed_block (blocks_in file) c b) k 0
    unfolding headed_block content_word
    head_word b h zero l = w.number b h ∙ add-one b
    head_word b h (suc zero) l = w.count b h
    head_word b h (suc (suc r)) l =
        let div : (b * 253 + r) / 253 ≡ b = omega arith in
        let at : 2 + (b * 253 + r) % 253 ≡ suc (suc r) = omega arith in
        ap₂ (block_word file) (sym div) (sym at) ∙ says (b * 253 + r) (omega arith) ∙ sym (content_at c b r (omega arith))

    head_is : (b : ℕ) → b < blocks_in file → head_of file b ≡ headed_block (blocks_in file) c b
    unfolding head_of
    head_is b h = map_is (block_word file b) 255 (headed_block (blocks_in file) c b) (headed_length (blocks_in file) c b) (head_word b h)

    block_word_lem : (b : ℕ) → b < blocks_in file → (k : ℕ) → k < 256 → block_word file b k ≡ get_or (block_words (blocks_in file) c b) k 0
    block_word_lem b h k l = elim (dec_lt k 255) [
      | yes q ↦ head_word b h k q ∙ sym (block_headed (blocks_in file) c b k q)
      | no q ↦
          let e : k ≡ 255 = omega arith in
          rw e (w.check b h ∙ ap check_of (head_is b h) ∙ sym (block_check (blocks_in file) c b))
    ]

    block_is : (b : ℕ) → b < blocks_in file → block_words (blocks_in file) c b ≡ seq (word_at file) (0 + total b (λ i. 256)) 256
    unfolding block_word
    block_is b h =
        let at : (k : ℕ) → 0 + total b (λ i. 256) + k ≡ 256 * b + k = λ k. omega (arith, total_const b 256) in
        sym (seq_is (word_at file) (0 + total b (λ i. 256)) 256 (block_words (blocks_in file) c b) (block_length (blocks_in file) c b)
        (λ k l. ap (word_at file) (at k) ∙ block_word_lem b h k l))

    words_is : each (block_words (blocks_in file) c) (below (blocks_in file)) ≡ map (word_at file) (below (blocks_in file * 256))
    unfolding seq
    words_is =
        each_same (block_words (blocks_in file) c) (λ b. seq (word_at file) (0 + total b (λ i. 256)) 256) (blocks_in file) block_is
        ∙ seq_each (word_at file) 0 (λ i. 256) (blocks_in file) ∙ ap (seq (word_at file) 0) (total_const (blocks_in file) 256)
        ∙ map_same (λ k. word_at file (0 + k)) (word_at file) (blocks_in file * 256) (λ k l. ap (word_at file) (zero-add k))

    -- The blocks of that content are the file.
    pub rebuilt : file_of c ≡ file
    unfolding file_of
    rebuilt =
        ap (λ (m : ℕ). first_blocks m m c) fills ∙ blocks_words (blocks_in file) (blocks_in file) c ∙ ap file_bytes words_is
        ∙ bytes_read file bytes (blocks_in file * 256) (omega (arith, w.whole)) ∙ take_all (2 * (blocks_in file * 256)) file (omega (arith, w.whole))
