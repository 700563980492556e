-- `at_once::values` meets its contract. The invariant: the sum is that of the first i, at most 16 each.
use mathlib.Core.Path.{◌≡◌}
use Prim.Native.Nat.{◌≤◌, ◌*◌}
use lib.ListN.{get_or}
use Rattle.problem.specs.Masks.{size}
use Rattle.problem.specs.Lists.{total}
use Rattle.splits.proofs.at_once.values.Given as goal

abbrev pub invariant-loop-domain : goal.invariant-loop-domain
invariant-loop-domain l = (l.sum ≡ total l.domain-index (λ j. size (get_or l.fn.domains j 0))) × (l.sum ≤ 16 * l.domain-index)
