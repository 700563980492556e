-- `rules::same_marks` meets its contract. The invariant: the marked variables before the next one have the same words.
use Prim.Native.Nat.{◌-◌}
use Rattle.search.proofs.rules.Alike.{AlikeTo}
use Rattle.search.proofs.rules.same_marks.Given as goal

abbrev pub invariant-loop-i : goal.invariant-loop-i
invariant-loop-i l = AlikeTo l.marked l.slot l.other l.i

abbrev pub decreases-loop-i : goal.decreases-loop-i
decreases-loop-i l = l.n - l.i
