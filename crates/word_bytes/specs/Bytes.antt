-- Words in bytes: two bytes a word, the low byte first, as an x86-64 program holds a uint16_t.
use Rattle.std.specs.Prelude.{◌≡◌, Bool, ◌&&◌, List, [], ◌∷◌, ℕ, ◌+◌, ◌*◌, ◌/◌, ◌%◌, ◌≤◌, ◌<◌, length, get_or, eqb, leb, ltb}
use Rattle.problem.specs.Lists.{every}

-- A list of bytes.
abbrev pub Bytes : List ℕ → Type 0
Bytes l = (k : ℕ) → get_or l k 0 < 256

-- Bytes are whole words when their number is even.
abbrev pub Whole : List ℕ → Type 0
Whole bytes = length bytes % 2 ≡ 0

-- The words that bytes say.
unfoldable pub words_of : List ℕ → List ℕ
words_of [] = []
words_of (low ∷ []) = []
words_of (low ∷ high ∷ bytes) = (low + 256 * high) ∷ words_of bytes

-- The bytes that say words.
unfoldable pub bytes_of : List ℕ → List ℕ
bytes_of [] = []
bytes_of (word ∷ words) = (word % 256) ∷ (word / 256) ∷ bytes_of words

-- So many bytes are whole words, at most so many of them.
unfoldable pub fits : ℕ → ℕ → Bool
fits bytes most = eqb (bytes % 2) 0 && leb (bytes / 2) most

-- So many bytes are whole words, one at least and at most so many.
pub record Fits (bytes most : ℕ) : Type 0 where
  pub even : bytes % 2 ≡ 0
  pub some : 0 < bytes
  pub few : bytes ≤ 2 * most

-- None of three numbers is 0.
unfoldable pub none_empty : ℕ → ℕ → ℕ → Bool
none_empty first second third = ltb 0 first && ltb 0 second && ltb 0 third

-- So many bytes of three slices fit, each where there is room for so many words, and none is empty.
unfoldable pub all_fit : ℕ → ℕ → ℕ → ℕ → ℕ → ℕ → Bool
all_fit first second third most-first most-second most-third =
    fits first most-first && fits second most-second && fits third most-third && none_empty first second third

-- All are 0.
unfoldable pub zeros : List ℕ → Bool
zeros bytes = every (length bytes) (λ i. eqb (get_or bytes i 0) 0)
