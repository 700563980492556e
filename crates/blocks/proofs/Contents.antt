-- The words of a file's content: how many, which, and that they have 16 bits.
-- Assumes nothing.
use mathlib.Core.Path.{◌≡◌}
use mathlib.Core.List.{List}
use Prim.Native.Nat.{ℕ, ◌+◌, ◌*◌, ◌/◌, ◌%◌, ◌≤◌, ◌<◌}
use native.Mathlib.Omega.{arith}
use native.Mathlib.Decide.{dec_lt}
use lib.ListN.{length, get_or, get_or-eq_default}
use Rattle.blocks.specs.Reading.{block_word, content_word, content_from}
use Rattle.blocks.proofs.Lists.{map_length, map_at}
use Rattle.blocks.proofs.Words.{word_small}

-- A word of a block has 16 bits.
pub block_word_small : (file : List ℕ) → ((i : ℕ) → get_or file i 0 < 256) → (b k : ℕ) → block_word file b k < 65536
unfolding block_word
block_word_small file s b k = word_small file s (256 * b + k)

-- A word of the content has 16 bits.
pub content_word_small : (file : List ℕ) → ((i : ℕ) → get_or file i 0 < 256) → (k : ℕ) → content_word file k < 65536
unfolding content_word
content_word_small file s k = block_word_small file s (k / 253) (2 + k % 253)

-- A word of the content from one on.
pub content_from_lem : (file : List ℕ) (from words i : ℕ) → i < words → get_or (content_from file from words) i 0 ≡ content_word file (from + i)
unfolding content_from
content_from_lem file from words i h = map_at (λ k. content_word file (from + k)) words i 0 h

-- So many words from one on are so many.
pub length_from : (file : List ℕ) (from words : ℕ) → length (content_from file from words) ≡ words
unfolding content_from
length_from file from words = map_length (λ k. content_word file (from + k)) words

-- They are words.
pub from_small : (file : List ℕ) (from words : ℕ) → ((i : ℕ) → get_or file i 0 < 256) → (i : ℕ) → get_or (content_from file from words) i 0 < 65536
from_small file from words small i = elim (dec_lt i words) [
  | yes h ↦ rw (content_from_lem file from words i h) (content_word_small file small (from + i))
  | no h ↦
      let past : length (content_from file from words) ≤ i = omega (arith, length_from file from words) in
      rw (get_or-eq_default (content_from file from words) 0 past) (omega arith)
]
