-- Words that are filled with the content of a file's blocks.
-- Assumes nothing.
use mathlib.Core.Path.{◌≡◌, refl, sym, ap, ◌∙◌}
use mathlib.Core.List.{List, ◌++◌}
use Prim.Native.Nat.{ℕ, ◌+◌, ◌-◌, ◌*◌, ◌/◌, ◌%◌, ◌≤◌}
use native.Mathlib.Omega.{arith}
use native.Mathlib.Nat.{zero-add}
use lib.ListN.{length, get_or-eq_default}
use borrow.Author.Tests.{le-leb}
use borrow.Rule.Slice.PartMut.{put_mid}
use Rattle.problem.specs.Lists.{below}
use Rattle.blocks.specs.Blocks.{word_at}
use Rattle.blocks.specs.Reading.{block_word, content_word, content_from}
use Rattle.blocks.specs.Calls.{PutContent}
use Rattle.blocks.specs.Loops.Read.{block_of, content_part}
use Rattle.blocks.proofs.Lists.{map_same, seq, seq_join}
use Rattle.blocks.proofs.Contents.{length_from}
use Rattle.blocks.proofs.block.Places.{content_in}
use Rattle.blocks.proofs.block.Fronts.{part_more}
use Rattle.blocks.proofs.reading.Found.{part_words}

-- The content of a block that was cut out is that of its words in the file.
content_part_lem : (file : List ℕ) (b : ℕ) → content_from (block_of file b) 0 253 ≡ content_from file (b * 253) 253
unfolding content_from content_word
content_part_lem file b =
    let block : List ℕ = block_of file b in
    map_same (λ k. content_word block (0 + k)) (λ k. content_word file (b * 253 + k)) 253 (λ k h.
    let div : (b * 253 + k) / 253 ≡ b = omega arith in
    let at : 2 + (b * 253 + k) % 253 ≡ 2 + k = omega arith in
    sym (content_in block k (block_word block 0 (2 + k)) h refl) ∙ part_words file b (2 + k) (omega arith) ∙ rw (div, at) refl)

-- Words of the content one after the other.
pub from_join : (file : List ℕ) (a b : ℕ) → content_from file 0 (a + b) ≡ content_from file 0 a ++ content_from file a b
unfolding content_from seq
from_join file a b = seq_join (content_word file) 0 a b ∙ ap (λ (x : ℕ). content_from file 0 a ++ content_from file x b) (zero-add a)

-- A word past the last byte is 0.
past : (file : List ℕ) (k : ℕ) → length file ≤ 2 * (256 * (k / 253) + (2 + k % 253)) → content_word file k ≡ 0
unfolding content_word block_word word_at
past file k high =
    let low : length file ≤ 2 * (256 * (k / 253) + (2 + k % 253)) + 1 = omega arith in
    rw (get_or-eq_default file 0 high, get_or-eq_default file 0 low) refl

-- Past its blocks the words of a content are zeros.
pub content_past : (file : List ℕ) (k : ℕ) → length file ≤ k / 253 * 512 → content_word file k ≡ 0
content_past file k h = past file k (omega arith)

-- So is a word whose number is not less than that of bytes.
pub content_far : (file : List ℕ) (k : ℕ) → length file ≤ k → 0 ≡ content_word file k
content_far file k h = sym (past file k (omega arith))

module _ (file l : List ℕ) where
  -- No block is read yet.
  pub content_none : l ≡ content_part file 0 l
  unfolding content_part content_from below
  content_none = refl

  -- One block more.
  pub content_more : (m block ys : List ℕ) (b : ℕ) → m ≡ content_part file b l → block ≡ block_of file b → ys ≡ content_from block 0 253
      → b * 253 + 253 ≤ length l → put_mid (b * 253) ((b * 253 + 253) - b * 253) m ys ≡ content_part file (b + 1) l
  unfolding content_part
  content_more m block ys b e is_Block y h =
      let up : b * 253 + 253 ≡ (b + 1) * 253 = omega arith in
      part_more (content_from file 0 (b * 253)) (content_from file (b * 253) 253) l m ys (b * 253) 253 e (length_from file 0 (b * 253))
      (y ∙ ap (λ (x : List ℕ). content_from x 0 253) is_Block ∙ content_part_lem file b) h
      ∙ rw (← from_join file (b * 253) 253, up) refl

  -- There is.
  pub content_put : (m : List ℕ) → length file / 512 * 253 ≤ length l → m ≡ content_part file (length file / 512) l → PutContent file l m
  unfolding content_part
  content_put m h e = rw (le-leb (length file / 512 * 253) (length l) h) e
