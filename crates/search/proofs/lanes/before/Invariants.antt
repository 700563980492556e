-- `lanes::before` meets its contract. The invariant: the first i masks are made.
use Rattle.search.specs.Loops.Lanes.{BeforeTo}
use Rattle.search.proofs.lanes.before.Given as goal

abbrev pub invariant-loop-i : goal.invariant-loop-i
invariant-loop-i l = BeforeTo l.row l.j l.i l.masks
