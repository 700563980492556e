-- How much of an agenda a run needs, and how much of it is written back.
use Rattle.std.specs.Prelude.{◌≡◌, ◌⊎◌, List, ◌++◌, ℕ, ◌+◌, ◌-◌, ◌*◌, ◌/◌, ◌≤◌, ◌<◌, length, get_or, take, drop}
use Rattle.word_bytes.specs.Bytes.{bytes_of}

-- Of so many words the first r: what comes after them is past the slots used before and after.
pub record Front (n before after words r : ℕ) : Type 0 where
  pub inside : r ≤ words
  pub past : (i : ℕ) → r ≤ i → i < words → (before * (n + 2) ≤ i) × (after * (n + 2) ≤ i)

-- From below the slots that the requests taken can have replaced up to there their bytes are written; what comes before and after is left.
pub record WritesBack (n before taken after : ℕ) (words b b' : List ℕ) : Type 0 where
  pub from : ℕ
  pub to : ℕ
  pub order : from ≤ to
  pub lower : from ≤ (before - taken) * (n + 2)
  pub front : Front n before after (length words) to
  pub said : b' ≡ take (2 * from) b ++ (bytes_of (take (to - from) (drop from words)) ++ drop (2 * to) b)

-- The first r bytes of an agenda of whole slots, 512 at most, are whole slots too, more than the subproblems and all that so many bytes of requests
-- can add: each at most n + 1.
pub record Shorter (n subproblems requests agenda r : ℕ) : Type 0 where
  pub all : ℕ
  pub whole : agenda ≡ all * (2 * (n + 2))
  pub few : all ≤ 512
  pub slots : ℕ
  pub its : r ≡ slots * (2 * (n + 2))
  pub within : slots ≤ all
  pub room : subproblems + (n + 1) * (requests / (2 * (n + 3))) < slots

-- So many bytes of an agenda, or all.
pub record Reach (n subproblems requests agenda r : ℕ) : Type 0 where
  pub inside : r ≤ agenda
  pub how : Shorter n subproblems requests agenda r ⊎ (r ≡ agenda)

-- So many, with only zeros after them, or all.
pub record FrontOf (n subproblems requests : ℕ) (agenda : List ℕ) (r : ℕ) : Type 0 where
  pub reach : Reach n subproblems requests (length agenda) r
  pub zero : (i : ℕ) → r ≤ i → get_or agenda i 0 ≡ 0
