-- Where a slot lies.
-- Assumes nothing.
use Prim.Native.Nat.{ℕ, ◌+◌, ◌*◌, ◌≤◌, ◌<◌}
use native.Mathlib.Omega.{arith}
use native.Mathlib.Nat.{mul-le-mul_right}
use Rattle.search.specs.Loops.Slots.{SlotIn}

-- A slot below the last of whole slots lies within them.
pub slot_below : (n k slots words : ℕ) → n ≤ 32 → k < slots → slots * (n + 2) ≤ words → SlotIn n k words
slot_below n k slots words few h fits =
    let up : (k + 1) * (n + 2) ≤ slots * (n + 2) = mul-le-mul_right (n + 2) (omega arith) in record { few = few; within = omega arith }
