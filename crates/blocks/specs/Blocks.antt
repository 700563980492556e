-- A file: blocks of 512 bytes. A block's words have their high byte first: which block it is, counted from 1, how many there are, 253 words of
-- content, the check.
use Rattle.std.specs.Prelude.{List, [], ◌∷◌, ◌++◌, ℕ, zero, suc, ◌+◌, ◌-◌, ◌*◌, ◌/◌, ◌%◌, length, get_or, take, drop, replicate}

-- The bytes of a list of words, the high byte of each first.
unfoldable pub file_bytes : List ℕ → List ℕ
file_bytes [] = []
file_bytes (w ∷ ws) = w / 256 ∷ w % 256 ∷ file_bytes ws

-- Word k of a list of bytes.
unfoldable pub word_at : List ℕ → ℕ → ℕ
word_at bytes k = get_or bytes (2 * k) 0 * 256 + get_or bytes (2 * k + 1) 0

-- RFC 1071: the sum of two words with its end-around carry.
unfoldable pub carried : ℕ → ℕ → ℕ
carried a b = (a + b) % 65536 + (a + b) / 65536

-- The ones' complement sum of words, and the checksum, its complement.
unfoldable pub ones_sum : List ℕ → ℕ
ones_sum [] = 0
ones_sum (w ∷ ws) = carried w (ones_sum ws)

unfoldable pub check_of : List ℕ → ℕ
check_of ws = 65535 - ones_sum ws

-- So many words need so many blocks.
unfoldable pub blocks_for : ℕ → ℕ
blocks_for words = (words + 252) / 253

-- The 253 words of content of block k, from 0: the content's, then zeros.
unfoldable pub content_of_block : List ℕ → ℕ → List ℕ
content_of_block content k = take 253 (drop (k * 253) content ++ replicate 253 0)

-- The words of block k, from 0, of so many: those before its check, then all.
unfoldable pub headed_block : ℕ → List ℕ → ℕ → List ℕ
headed_block blocks content k = suc k ∷ blocks ∷ content_of_block content k

unfoldable pub block_words : ℕ → List ℕ → ℕ → List ℕ
block_words blocks content k = headed_block blocks content k ++ (check_of (headed_block blocks content k) ∷ [])

-- The first m of the blocks that a content fills, one after the other.
unfoldable pub first_blocks : ℕ → ℕ → List ℕ → List ℕ
first_blocks zero blocks content = []
first_blocks (suc m) blocks content = first_blocks m blocks content ++ file_bytes (block_words blocks content m)

-- The file that holds a content.
unfoldable pub file_of : List ℕ → List ℕ
file_of content = first_blocks (blocks_for (length content)) (blocks_for (length content)) content
