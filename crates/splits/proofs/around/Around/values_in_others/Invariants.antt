-- `Around::values_in_others` meets its contract.
use Rattle.splits.specs.Checks.{values_in, others}
use Prim.Native.Nat.{◌≤◌, ◌*◌}
use mathlib.Core.Path.{◌≡◌}
use Rattle.splits.proofs.around.Around.values_in_others.Given as goal

abbrev pub invariant-loop-i : goal.invariant-loop-i
invariant-loop-i l = (l.sum ≡ values_in (others l.self.variable) l.i l.self.top) × (l.sum ≤ 16 * l.i)
