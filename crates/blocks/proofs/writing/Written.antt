-- Blocks that are written, word by word and one after the other.
-- Assumes nothing.
use mathlib.Core.Path.{◌≡◌, refl, sym, ap, ◌∙◌}
use mathlib.Core.List.{List, [], ◌∷◌, ◌++◌, append-nil}
use Prim.Native.Nat.{ℕ, zero, suc, ◌+◌, ◌-◌, ◌*◌, ◌/◌, ◌%◌, ◌≤◌, ◌<◌}
use native.Mathlib.Omega.{arith}
use native.Mathlib.Numerals.{add-one}
use lib.ListN.{length, get_or, take, drop, set, length-append, length-drop, get_or-append}
use lib.Seq.{length-take-le, take-suc, take_all, take_at, drop-length}
use borrow.Author.Tests.{eq-eqb, le-leb}
use borrow.Rule.Slice.PartMut.{put_mid, Post-is}
use Rattle.blocks.specs.Blocks.{file_bytes, word_at, check_of, blocks_for, headed_block, block_words, first_blocks, file_of}
use Rattle.blocks.specs.Reading.{block_word, head_of}
use Rattle.blocks.specs.Calls.{PutBlocks}
use Rattle.blocks.specs.Loops.Written.{block_part, file_part}
use Rattle.blocks.proofs.Lists.{map_is}
use Rattle.blocks.proofs.Words.{bytes_length, bytes_append, word_read}
use Rattle.blocks.proofs.Blocks.{content_at, headed_length, block_length, block_headed, block_check, blocks_length}
use Rattle.blocks.proofs.block.Fronts.{part_more}

-- ---- the words of a block

-- A word of bytes, with others after them.
word_kept : (p r : List ℕ) (k : ℕ) → 2 * k + 1 < length p → word_at (p ++ r) k ≡ word_at p k
unfolding word_at
word_kept p r k h = rw (get_or-append p r 0 (2 * k) (omega arith), get_or-append p r 0 (2 * k + 1) h) refl

-- A word of bytes, whatever comes after them.
word_append : (ws r : List ℕ) (k : ℕ) → k < length ws → word_at (file_bytes ws ++ r) k ≡ get_or ws k 0
word_append ws r k h = same ∙ word_read ws k
  where
    same : word_at (file_bytes ws ++ r) k ≡ word_at (file_bytes ws) k
    same = word_kept (file_bytes ws) r k (omega (arith, bytes_length ws))

-- The two bytes of a word.
one_word : (front : List ℕ) (w : ℕ) → front ++ file_bytes (w ∷ []) ≡ front ++ (w / 256 ∷ w % 256 ∷ [])
unfolding file_bytes
one_word front w = refl

-- Two bytes written over two others, one by one or at once.
two_set : (l : List ℕ) (a x y : ℕ) → suc a < length l → take a l ++ (x ∷ y ∷ drop (suc (suc a)) l) ≡ set (set l a x) (suc a) y
two_set [] a x y h = absurd (omega arith)
two_set (m ∷ []) zero x y h = absurd (omega arith)
two_set (m ∷ n ∷ l) zero x y h = refl
two_set (m ∷ l) (suc a) x y h = ap (m ∷◌) (two_set l a x y (omega arith))

pub two_put : (l ys : List ℕ) (a x y : ℕ) → a + 1 < length l → ys ≡ x ∷ y ∷ [] → put_mid a ((a + 2) - a) l ys ≡ set (set l a x) (a + 1) y
two_put l ys a x y h e =
    let two : a + 2 ≡ suc (suc a) = omega arith in
    rw (e, Post-is a (a + 2) l (omega arith), two, add-one) (two_set l a x y (omega arith))

module _ (blocks : ℕ) (content : List ℕ) (b : ℕ) where
  -- Its number comes first.
  pub head_number : (k : ℕ) → k ≡ 0 → b + 1 ≡ get_or (headed_block blocks content b) k 0
  unfolding headed_block
  head_number k e = rw (e, add-one) refl

  -- Then the number of blocks.
  pub head_count : (k : ℕ) → k ≡ 1 → blocks ≡ get_or (headed_block blocks content b) k 0
  unfolding headed_block
  head_count k e = rw e refl

  -- Then its content.
  pub head_content : (k r : ℕ) → (k ≡ 0 → ⊥) → (k ≡ 1 → ⊥) → k < 255 → r ≡ get_or content (b * 253 + (k - 2)) 0
      → r ≡ get_or (headed_block blocks content b) k 0
  unfolding headed_block
  head_content zero r f g h e = absurd (f refl)
  head_content (suc zero) r f g h e = absurd (g refl)
  head_content (suc (suc k)) r f g h e =
      let back : suc (suc k) - 2 ≡ k = omega arith in
      e ∙ ap (λ (x : ℕ). get_or content (b * 253 + x) 0) back ∙ sym (content_at content b k (omega arith))

  -- No word of a block is written yet.
  pub block_none : (l : List ℕ) → l ≡ block_part blocks content b 0 l
  unfolding block_part file_bytes
  block_none l = refl

  -- What the two stores of a word make of a block.
  word_more : (l m : List ℕ) (k w : ℕ) → m ≡ block_part blocks content b k l → w ≡ get_or (block_words blocks content b) k 0 → k < 256 → length l ≡ 512
      → set (set m (2 * k) (w / 256)) (2 * k + 1) (w % 256) ≡ block_part blocks content b (k + 1) l
  unfolding block_part
  word_more l m k w e s h long =
      let words : List ℕ = block_words blocks content b in
      let front : List ℕ = file_bytes (take k words) in
      let size : length words ≡ 256 = block_length blocks content b in
      let seam : length front ≡ 2 * k = bytes_length (take k words) ∙ omega (arith, length-take-le k words (omega arith)) in
      let next : take (k + 1) words ≡ take k words ++ (w ∷ []) = rw (add-one, s) (take-suc words k 0 (omega arith)) in
      let bytes : file_bytes (take (k + 1) words) ≡ front ++ (w / 256 ∷ w % 256 ∷ []) = ap file_bytes next ∙ bytes_append (take k words) (w ∷ []) ∙
      one_word front w in
      let place : 2 * k + 2 ≡ 2 * (k + 1) = omega arith in
      let room : 2 * k + 1 < length m = rw (e, length-append, length-drop) (omega arith) in
      sym (two_put m _ (2 * k) (w / 256) (w % 256) room refl) ∙ part_more front (w / 256 ∷ w % 256 ∷ []) l m _ (2 * k) 2 e seam refl (omega arith)
      ∙ rw (← bytes, place) refl

  -- One word more of a block.
  pub block_more : (l m after : List ℕ) (k w : ℕ) → m ≡ block_part blocks content b k l → w ≡ get_or (block_words blocks content b) k 0 → k < 256
      → length l ≡ 512 → after ≡ set (set m (2 * k) (w / 256)) (2 * k + 1) (w % 256) → after ≡ block_part blocks content b (k + 1) l
  block_more l m after k w e s h long put = put ∙ word_more l m k w e s h long

  -- Before its check stand the headed words.
  pub head_word : (k w : ℕ) → k < 255 → w ≡ get_or (headed_block blocks content b) k 0 → w ≡ get_or (block_words blocks content b) k 0
  head_word k w h e = e ∙ sym (block_headed blocks content b k h)

  -- The check of what is written is the check of the block.
  head_taken : take 255 (block_words blocks content b) ≡ headed_block blocks content b
  unfolding block_words
  head_taken = take_at (headed_block blocks content b) (check_of (headed_block blocks content b) ∷ []) 255 (headed_length blocks content b)

  -- What is written of it before the check is its headed words.
  head_written : (l : List ℕ) → head_of (block_part blocks content b 255 l) 0 ≡ headed_block blocks content b
  unfolding head_of block_part block_word
  head_written l =
      let head : List ℕ = headed_block blocks content b in
      let size : length head ≡ 255 = headed_length blocks content b in
      rw head_taken (map_is (λ k. word_at (file_bytes head ++ drop 510 l) (256 * 0 + k)) 255 head size
      (λ k h. let place : 256 * 0 + k ≡ k = omega arith in rw place (word_append head (drop 510 l) k (omega arith))))

  -- So the check that is worked out of it is right.
  pub check_written : (l m : List ℕ) (w : ℕ) → m ≡ block_part blocks content b 255 l → w ≡ check_of (head_of m 0)
      → w ≡ get_or (block_words blocks content b) 255 0
  check_written l m w e h = h ∙ ap (λ (x : List ℕ). check_of (head_of x 0)) e ∙ ap check_of (head_written l) ∙ sym (block_check blocks content b)

  -- All 256 words are written.
  pub block_end : (l m : List ℕ) → m ≡ block_part blocks content b 256 l → length l ≡ 512 → m ≡ file_bytes (block_words blocks content b)
  unfolding block_part
  block_end l m e long =
      let words : List ℕ = block_words blocks content b in
      let none : drop 512 l ≡ [] = ap (λ (x : ℕ). drop x l) (sym long) ∙ drop-length l in
      let all : take 256 words ≡ words = take_all 256 words (omega (arith, block_length blocks content b)) in
      e ∙ ap (λ (x : List ℕ). file_bytes (take 256 words) ++ x) none ∙ append-nil (file_bytes (take 256 words)) ∙ ap file_bytes all

-- ---- the blocks

module _ (blocks : ℕ) (content : List ℕ) where
  -- No block is written yet.
  pub file_none : (l : List ℕ) → l ≡ file_part blocks content 0 l
  unfolding file_part first_blocks
  file_none l = refl

  -- One block more.
  pub file_more : (l m ys : List ℕ) (b : ℕ) → m ≡ file_part blocks content b l → ys ≡ file_bytes (block_words blocks content b)
      → 512 * b + 512 ≤ length l
      → put_mid (512 * b) ((512 * b + 512) - 512 * b) m ys ≡ file_part blocks content (b + 1) l
  unfolding file_part first_blocks
  file_more l m ys b e y h =
      let words : List ℕ = block_words blocks content b in
      let up : 512 * b + 512 ≡ 512 * (b + 1) = omega arith in
      part_more (first_blocks b blocks content) (file_bytes words) l m ys (512 * b) 512 e (blocks_length b blocks content) y h
      ∙ rw (← up, add-one) refl

-- ---- what is left of the buffer

module _ (c l : List ℕ) where
  -- A content of whole blocks needs so many.
  whole_blocks : length c ≡ length c / 253 * 253 → blocks_for (length c) ≡ length c / 253
  unfolding blocks_for
  whole_blocks e = omega arith

  -- It takes them.
  pub blocks_put : (m : List ℕ) → length c ≡ length c / 253 * 253 → length c / 253 ≤ 101 → 512 * (length c / 253) ≤ length l
      → m ≡ file_part (length c / 253) c (length c / 253) l → PutBlocks c l m
  unfolding file_part file_of
  blocks_put m e h k made =
      rw (
        whole_blocks e,
        eq-eqb (length c) (length c / 253 * 253) e,
        le-leb (length c / 253) 101 h,
        le-leb (512 * (length c / 253)) (length l) k,
      )
      made
