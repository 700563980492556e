-- What the code reads of a block.
use Rattle.std.specs.Prelude.{Bool, ◌&&◌, List, ◌++◌, ℕ, ◌+◌, ◌-◌, ◌*◌, ◌/◌, ◌%◌, get_or, take, drop, eqb}
use Rattle.blocks.specs.Blocks.{check_of}
use Rattle.blocks.specs.Reading.{block_word, head_of, content_from}

-- The value at a place; 0 past the end.
unfoldable pub value_at : List ℕ → ℕ → ℕ
value_at values i = get_or values i 0

-- The bytes of block b, from 0.
unfoldable pub block_of : List ℕ → ℕ → List ℕ
block_of file b = take ((b * 512 + 512) - b * 512) (drop (b * 512) file)

-- 14: one block with its number, of so many.
unfoldable pub good_in : List ℕ → ℕ → ℕ → Bool
good_in block number blocks =
    eqb (block_word block 0 0) number && eqb (block_word block 0 1) blocks && eqb (block_word block 0 255) (check_of (head_of block 0))

-- Words in front of which the content of the first b blocks is written.
unfoldable pub content_part : List ℕ → ℕ → List ℕ → List ℕ
content_part file b before = content_from file 0 (b * 253) ++ drop (b * 253) before

-- A sum of words, the carries past 16 bits added in, and those of that.
abbrev pub folded_twice : ℕ → ℕ
folded_twice t = (t % 65536 + t / 65536) % 65536 + (t % 65536 + t / 65536) / 65536
