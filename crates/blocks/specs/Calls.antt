-- What the public functions return and leave, for every input.
use Rattle.std.specs.Prelude.{◌≡◌, cond, ◌&&◌, ◌↔◌, List, ◌++◌, ℕ, ◌*◌, length, drop, eqb, leb}
use Rattle.blocks.specs.Blocks.{check_of, blocks_for, file_of}
use Rattle.blocks.specs.Reading.{blocks_in, head_of, content_from, Deserves14}

-- The check of the 255 words of a block before it.
abbrev pub CheckOf : List ℕ → ℕ → Type 0
CheckOf block r = r ≡ check_of (head_of block 0)

-- 14 exactly if it is deserved, 0 exactly if it is not.
pub record RefusalOfFile (file : List ℕ) (r : ℕ) : Type 0 where
  pub given : (r ≡ 14) ↔ Deserves14 file
  pub none : (r ≡ 0) ↔ (Deserves14 file → ⊥)

-- The content of the file's whole blocks stands in front, and the rest is kept; into words that are fewer nothing is written.
abbrev pub PutContent : List ℕ → List ℕ → List ℕ → Type 0
PutContent file before after =
    after ≡ cond (leb (blocks_in file * 253) (length before)) (content_from file 0 (blocks_in file * 253) ++ drop (blocks_in file * 253) before) before

-- The blocks of a content that fills at most 101 blocks to the last word stand in front, and the rest is kept; those of another content, or into a
-- shorter buffer, are not written.
abbrev pub PutBlocks : List ℕ → List ℕ → List ℕ → Type 0
PutBlocks content before after =
    after
    ≡ cond (eqb (length content) (blocks_for (length content) * 253) && leb (blocks_for (length content)) 101
    && leb (512 * blocks_for (length content)) (length before)) (file_of content ++ drop (512 * blocks_for (length content)) before) before
