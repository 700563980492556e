-- Where a slot lies in lent memory.
use Rattle.std.specs.Prelude.{ℕ, ◌+◌, ◌*◌, ◌≤◌}

-- Slot k lies within so many words.
pub record SlotIn (n k words : ℕ) : Type 0 where
  pub few : n ≤ 32
  pub within : (k + 1) * (n + 2) ≤ words
