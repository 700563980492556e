-- `rules::held_of` meets its contract. The invariant: the domains of the instantiated variables before the next one are taken.
use mathlib.Core.Path.{◌≡◌}
use Prim.Native.Nat.{◌-◌, ◌<◌}
use Rattle.problem.specs.Masks.{bit}
use Rattle.search.proofs.rules.Marked.{HeldTo}
use Rattle.search.proofs.rules.held_of.Given as goal

abbrev pub invariant-loop-i : goal.invariant-loop-i
invariant-loop-i l = HeldTo l.n l.marked l.slot l.i l.held × (l.i < 32 → bit l.marked l.i ≡ 1)

abbrev pub decreases-loop-i : goal.decreases-loop-i
decreases-loop-i l = l.n - l.i
