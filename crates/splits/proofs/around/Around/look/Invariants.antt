-- `Around::look` meets its contract.
use Rattle.splits.proofs.checks.Counting.{Looking}
use Prim.Native.Nat.{◌≤◌}
use mathlib.Core.Path.{◌≡◌}
use mathlib.Core.Bool.{false}
use Rattle.splits.proofs.around.Around.look.Given as goal

abbrev pub invariant-loop-i : goal.invariant-loop-i
invariant-loop-i l = (l.count ≤ l.i) × (Looking l.self l.i l.count × (l.conflict ≡ false))
