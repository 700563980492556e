-- How many bytes are turned into words: whole words, some, no more than any problem and any agenda have.
use Rattle.std.specs.Prelude.{Bool, ◌&&◌, List, ℕ, ◌+◌, ◌*◌, ◌%◌, length, eqb, leb}
use Rattle.word_bytes.specs.Bytes.{Fits, all_fit}

-- 32 domains, 32 × 32 × 16 masks, 512 slots of 34 words; and none of the three is empty.
abbrev pub room_for : ℕ → ℕ → ℕ → Bool
room_for domains tables agenda = all_fit domains tables agenda 32 16384 17408

-- So many bytes of an agenda are the words of 256 slots of 34, and of requests those of 16 of 35, or fewer.
unfoldable pub few : ℕ → ℕ → Bool
few agenda requests = leb agenda 17408 && leb requests 1120

-- So many bytes are whole requests of n variables, n in its range.
unfoldable pub whole_list : ℕ → ℕ → Bool
whole_list n bytes = leb n 32 && eqb (bytes % (2 * (n + 3))) 0

-- What `room_for` says, of an agenda of at most so many words.
pub record Room (domains tables agenda : List ℕ) (most : ℕ) : Type 0 where
  pub of_domains : Fits (length domains) 32
  pub of_tables : Fits (length tables) 16384
  pub of_agenda : Fits (length agenda) most
