-- What each call returns and leaves, for every input.
use Rattle.std.specs.Prelude.{◌≡◌, Bool, cond, List, ◌++◌, ℕ, ◌*◌, ◌/◌, ◌≤◌, length, take, drop}
use Rattle.word_bytes.specs.Bytes.{words_of, bytes_of, fits, all_fit}
use Rattle.word_bytes.specs.declared.Three.{Three}

-- There are as many words as before, and k of them at least.
pub record Lent (k : ℕ) (words words' : List ℕ) : Type 0 where
  pub long : length words' ≡ length words
  pub room : k ≤ length words'

-- Where it is so, the words that the bytes say stand at the front of the lent ones, and k is their number; else nothing is changed, and k is 0.
pub record Puts (so : Bool) (bytes words words' : List ℕ) (k : ℕ) : Type 0 where
  pub left : words' ≡ cond so (words_of bytes ++ drop (length bytes / 2) words) words
  pub count : k ≡ cond so (length bytes / 2) 0
  pub lent : Lent k words words'

-- Of one slice: where its bytes are whole words and there is room for them.
abbrev pub WordsOf : List ℕ → List ℕ → List ℕ → ℕ → Type 0
WordsOf bytes words words' k = Puts (fits (length bytes) (length words)) bytes words words' k

-- Of three: where that is so of each, and none is empty.
pub record ThreeOf (a b c u u' v v' w w' : List ℕ) (r : Three) : Type 0 where
  pub of_first : Puts (all_fit (length a) (length b) (length c) (length u) (length v) (length w)) a u u' r.first
  pub of_second : Puts (all_fit (length a) (length b) (length c) (length u) (length v) (length w)) b v v' r.second
  pub of_third : Puts (all_fit (length a) (length b) (length c) (length u) (length v) (length w)) c w w' r.third

-- The words for which there is room among the bytes.
abbrev pub roomy : List ℕ → List ℕ → List ℕ
roomy words bytes = take (length bytes / 2) words

-- The bytes of these, and past them the bytes as they were.
abbrev pub Writes : List ℕ → List ℕ → List ℕ → Type 0
Writes words bytes bytes' = bytes' ≡ bytes_of (roomy words bytes) ++ drop (2 * length (roomy words bytes)) bytes
