-- The row of a value: what is allowed beside it, for all variables at once.
use Rattle.std.specs.Prelude.{◌≡◌, List, ℕ, ◌≤◌, ◌<◌, length, get_or}
use Rattle.problem.specs.Masks.{single}
use Rattle.problem.specs.Problem.{Table}

-- The row of v of V, 32 masks: what each other of the n variables may hold beside it, for V itself v alone, and past the n everything.
pub record RowOf (n : ℕ) (allowed : Table) (V' v : ℕ) (row : List ℕ) : Type 0 where
  pub long : length row ≡ 32
  pub own : get_or row V' 0 ≡ single v
  pub other : (j : ℕ) → j < n → (j ≡ V' → ⊥) → get_or row j 0 ≡ allowed V' j v
  pub past : (j : ℕ) → n ≤ j → j < 32 → get_or row j 0 ≡ 65535
