-- `at_once::filled` meets its contract. The invariant: the sum is of the first i.
use mathlib.Core.Path.{◌≡◌}
use Prim.Native.Nat.{◌≤◌}
use Rattle.splits.specs.AtOnce.{filled}
use Rattle.splits.proofs.at_once.filled.Given as goal

abbrev pub invariant-loop-mask : goal.invariant-loop-mask
invariant-loop-mask l = (l.sum ≤ l.mask-index) × (l.sum ≡ filled l.fn.out l.mask-index)
