-- The part of blocks that is written.
use Rattle.std.specs.Prelude.{List, ◌++◌, ℕ, ◌*◌, take, drop}
use Rattle.blocks.specs.Blocks.{file_bytes, block_words, first_blocks}

-- A block of which the first k words are written.
unfoldable pub block_part : ℕ → List ℕ → ℕ → ℕ → List ℕ → List ℕ
block_part blocks content b k before = file_bytes (take k (block_words blocks content b)) ++ drop (2 * k) before

-- A file of which the first b blocks are written.
unfoldable pub file_part : ℕ → List ℕ → ℕ → List ℕ → List ℕ
file_part blocks content b before = first_blocks b blocks content ++ drop (512 * b) before
