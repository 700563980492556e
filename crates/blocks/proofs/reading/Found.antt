-- The test of 14, put together from what the loops of the code find.
-- Assumes nothing.
use mathlib.Core.Path.{◌≡◌, refl, sym, ap, ap₂, ◌∙◌}
use mathlib.Core.Bool.{Bool, true, false, and-false}
use mathlib.Core.List.{List}
use Prim.Native.Nat.{ℕ, ◌+◌, ◌-◌, ◌*◌, ◌/◌, ◌≤◌, ◌<◌}
use native.Mathlib.Omega.{arith}
use lib.ListN.{length, get_or, take, drop}
use lib.Seq.{get_or-take, get_or-drop}
use borrow.Author.Tests.{le-leb, lt-leb, eq-eqb, ne_eqb}
use Rattle.std.specs.declared.ops.Range.{Range}
use Rattle.problem.specs.Lists.{every}
use Rattle.blocks.specs.Blocks.{word_at}
use Rattle.blocks.specs.Reading.{block_word, head_of}
use Rattle.blocks.specs.Tests.Whole.{good_block, refusal_of_file}
use Rattle.blocks.specs.Loops.Read.{good_in, block_of}
use Rattle.blocks.proofs.Lists.{map_same}

-- ---- the words of a block

-- Words of the same bytes are the same.
pub words_same : (l m : List ℕ) (b : ℕ) → ((i : ℕ) → i < 512 → get_or l i 0 ≡ get_or m (b * 512 + i) 0) → (k : ℕ) → k < 256
    → block_word l 0 k ≡ block_word m b k
unfolding block_word word_at
words_same l m b h k q =
    let high : get_or l (2 * (256 * 0 + k)) 0 ≡ get_or m (2 * (256 * b + k)) 0 = h (2 * (256 * 0 + k)) (omega arith) ∙ ap (λ (i : ℕ). get_or m i 0)
    (omega arith) in
    let low : get_or l (2 * (256 * 0 + k) + 1) 0 ≡ get_or m (2 * (256 * b + k) + 1) 0 = h (2 * (256 * 0 + k) + 1) (omega arith) ∙ ap
    (λ (i : ℕ). get_or m i 0) (omega arith) in
    ap₂ (λ (x y : ℕ). x * 256 + y) high low

-- So are their heads.
pub heads_same : (l m : List ℕ) (b : ℕ) → ((k : ℕ) → k < 256 → block_word l 0 k ≡ block_word m b k) → head_of l 0 ≡ head_of m b
unfolding head_of
heads_same l m b h = map_same (block_word l 0) (block_word m b) 255 (λ k q. h k (omega arith))

-- A block that was cut out of a file.
pub part_words : (file : List ℕ) (b k : ℕ) → k < 256 → block_word (block_of file b) 0 k ≡ block_word file b k
unfolding block_of
part_words file b = words_same (take ((b * 512 + 512) - b * 512) (drop (b * 512) file)) file b
    (λ i q. get_or-take ((b * 512 + 512) - b * 512) (drop (b * 512) file) i 0 (omega arith) ∙ get_or-drop (b * 512) file i 0)

-- ---- 14: one block

-- A block that was cut out of a file of so many.
pub good_part : (file block : List ℕ) (b blocks : ℕ) (r : Bool) → length file ≡ blocks * 512 → block ≡ block_of file b
    → r ≡ good_in block (b + 1) blocks → r ≡ good_block file b
unfolding good_in good_block
good_part file block b blocks r e is_Block h =
    let count : length file / 512 ≡ blocks = omega arith in
    h ∙ rw (
      is_Block,
      part_words file b 0 (omega arith),
      part_words file b 1 (omega arith),
      part_words file b 255 (omega arith),
      heads_same _ file b (part_words file b),
      count,
    )
    refl

-- ---- 14: all

-- A range that begins at 0, however its end is worked out.
pub range_below : (s : Range ℕ) → s.start ≡ 0 → s ≡ record { start = 0; end = s.end }
range_below s start = ap (λ (k : ℕ). record { start = k; end = s.end }) start

module _ (file : List ℕ) where
  pub file_length : (length file ≡ length file / 512 * 512 → ⊥) → 14 ≡ refusal_of_file file
  unfolding refusal_of_file
  file_length f = simp (ne_eqb (length file) (length file / 512 * 512) f)

  -- There is no block.
  pub file_none : length file / 512 < 1 → 14 ≡ refusal_of_file file
  unfolding refusal_of_file
  file_none h = simp (lt-leb 1 (length file / 512) h, and-false)

  -- There are more than 101.
  pub file_many : 101 < length file / 512 → 14 ≡ refusal_of_file file
  unfolding refusal_of_file
  file_many h = simp (lt-leb (length file / 512) 101 h, and-false)

  -- Every block is good.
  pub file_good : (r : Bool) → length file ≡ length file / 512 * 512 → 1 ≤ length file / 512 → length file / 512 ≤ 101
      → r ≡ every (length file / 512) (good_block file) → r ≡ true → 0 ≡ refusal_of_file file
  unfolding refusal_of_file
  file_good r e h k s y =
      simp (eq-eqb (length file) (length file / 512 * 512) e, le-leb 1 (length file / 512) h, le-leb (length file / 512) 101 k, sym s ∙ y)

  -- A block is not.
  pub file_bad : (r : Bool) → r ≡ every (length file / 512) (good_block file) → r ≡ false → 14 ≡ refusal_of_file file
  unfolding refusal_of_file
  file_bad r s y = simp (sym s ∙ y, and-false)
