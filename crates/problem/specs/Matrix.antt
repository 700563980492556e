-- The 16 by 16 bit matrix, rows for columns.
use Rattle.std.specs.Prelude.{◌≡◌, List, ℕ, ◌<◌, length, get_or}
use Rattle.problem.specs.Masks.{bit}

-- 16 words, each of 16 bits: bit b of word a is bit a of word b of the rows.
pub record Turned (rows turned : List ℕ) : Type 0 where
  pub long : length turned ≡ 16
  pub small : (a : ℕ) → a < 16 → get_or turned a 0 < 65536
  pub mirror : (a b : ℕ) → a < 16 → b < 16 → bit (get_or turned a 0) b ≡ bit (get_or rows b 0) a
