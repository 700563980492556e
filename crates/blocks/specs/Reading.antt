-- What the words of a file's blocks say, and which files deserve refusal 14.
use Rattle.std.specs.Prelude.{◌≡◌, ◌⊎◌, List, map, ℕ, ◌+◌, ◌*◌, ◌/◌, ◌%◌, ◌<◌, length, get_or}
use Rattle.problem.specs.Lists.{below}
use Rattle.blocks.specs.Blocks.{word_at, check_of}

-- A list of bytes.
abbrev pub Bytes : List ℕ → Type 0
Bytes l = (k : ℕ) → get_or l k 0 < 256

-- The number of whole blocks of a file.
abbrev pub blocks_in : List ℕ → ℕ
blocks_in file = length file / 512

-- Word k of block b, from 0.
unfoldable pub block_word : List ℕ → ℕ → ℕ → ℕ
block_word file b k = word_at file (256 * b + k)

-- The 255 words of block b before its check.
unfoldable pub head_of : List ℕ → ℕ → List ℕ
head_of file b = map (block_word file b) (below 255)

-- 14: bytes that are not whole blocks, no block or more than 101, or one whose number, count or check is not what it is to be.
abbrev pub Deserves14 : List ℕ → Type 0
Deserves14 file =
    ((length file ≡ blocks_in file * 512 → ⊥) ⊎ (blocks_in file < 1) ⊎ (101 < blocks_in file))
    ⊎ ((b : ℕ) × (b < blocks_in file)
    × ((block_word file b 0 ≡ b + 1 → ⊥) ⊎ (block_word file b 1 ≡ blocks_in file → ⊥) ⊎ (block_word file b 255 ≡ check_of (head_of file b) → ⊥)))

-- Word k of a file's content: 253 words of each block after its first two.
unfoldable pub content_word : List ℕ → ℕ → ℕ
content_word file k = block_word file (k / 253) (2 + k % 253)

-- So many words of the content from one on.
unfoldable pub content_from : List ℕ → ℕ → ℕ → List ℕ
content_from file from words = map (λ k. content_word file (from + k)) (below words)
