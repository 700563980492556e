-- What blocks promise. Stated here, proved in proofs/Promises.antt.
use Rattle.std.specs.Prelude.{◌≡◌, ◌↔◌, List, [], ◌∷◌, ℕ, ◌+◌, ◌*◌, ◌/◌, ◌%◌, ◌≤◌, ◌<◌, length, get_or}
use Rattle.problem.specs.Refused.{OneTold}
use Rattle.problem.specs.Lists.{sum}
use Rattle.problem.specs.Answers.{One}
use Rattle.blocks.specs.Blocks.{ones_sum, check_of, blocks_for, file_of}
use Rattle.blocks.specs.Reading.{Bytes, content_word, Deserves14}
use Rattle.blocks.specs.Tests.Whole.{refusal_of_file}
use Rattle.blocks.specs.Calls.{CheckOf, RefusalOfFile, PutContent, PutBlocks}

-- A list of words of 16 bits.
abbrev pub Sixteen : List ℕ → Type 0
Sixteen l = (k : ℕ) → get_or l k 0 < 65536

-- ---- blocks

-- The blocks of a content of 1 to 101 blocks deserve no 14.
abbrev pub BlocksWhole : Type 0
BlocksWhole =
    (content : List ℕ) → 1 ≤ blocks_for (length content) → blocks_for (length content) ≤ 101 → Deserves14 (file_of content) → ⊥

-- A block holds 253 words of content; after the content zeros.
abbrev pub BlocksRead : Type 0
BlocksRead = (content : List ℕ) (k : ℕ) → k < blocks_for (length content) * 253 → content_word (file_of content) k ≡ get_or content k 0

-- A block is 512 bytes.
abbrev pub BlocksLength : Type 0
BlocksLength = (content : List ℕ) → length (file_of content) ≡ 512 * blocks_for (length content)

-- Its bytes are bytes.
abbrev pub BlocksBytes : Type 0
BlocksBytes = (content : List ℕ) → Sixteen content → blocks_for (length content) ≤ 101 → Bytes (file_of content)

-- ---- the check

-- The check of words is the complement of their sum: the two come to 65,535, so that it is a word.
abbrev pub CheckWord : Type 0
CheckWord = (ws : List ℕ) → Sixteen ws → ones_sum ws + check_of ws ≡ 65535

-- RFC 1071's sum is what the sum of up to 255 words comes to when its carries are folded in twice.
abbrev pub SumFolded : Type 0
SumFolded =
    (ws : List ℕ) (t y z : ℕ) → Sixteen ws → length ws ≤ 255 → t ≡ sum (λ w. w) ws → y ≡ t % 65536 + t / 65536 → z ≡ y % 65536 + y / 65536
    → z ≡ ones_sum ws

-- RFC 1071's own example: the words 0001, f203, f4f5 and f6f7 sum to ddf2, whose complement is 220d.
abbrev pub Rfc1071 : Type 0
Rfc1071 = (ones_sum (1 ∷ 61955 ∷ 62709 ∷ 63223 ∷ []) ≡ 56818) × (check_of (1 ∷ 61955 ∷ 62709 ∷ 63223 ∷ []) ≡ 8717)

-- ---- refusal 14

-- The test gives 14 exactly if it is deserved.
abbrev pub Refused14 : Type 0
Refused14 = (file : List ℕ) → (refusal_of_file file ≡ 14) ↔ Deserves14 file

-- It gives none exactly if it is not.
abbrev pub RefusedNone : Type 0
RefusedNone = (file : List ℕ) → (refusal_of_file file ≡ 0) ↔ (Deserves14 file → ⊥)

-- ---- one outcome

-- The check of a block is one number.
abbrev pub CheckOfOne : Type 0
CheckOfOne = (block : List ℕ) → One (CheckOf block)

-- The refusal of a file is one.
abbrev pub RefusalOfFileOne : Type 0
RefusalOfFileOne = (file : List ℕ) → OneTold (RefusalOfFile file)

-- A word of a content is one number.
abbrev pub ContentWordOne : Type 0
ContentWordOne = (file : List ℕ) (k : ℕ) → One (λ r. r ≡ content_word file k)

-- What reading leaves is one list.
abbrev pub PutContentOne : Type 0
PutContentOne = (file before : List ℕ) → One (PutContent file before)

-- What writing leaves is one.
abbrev pub PutBlocksOne : Type 0
PutBlocksOne = (content before : List ℕ) → One (PutBlocks content before)
