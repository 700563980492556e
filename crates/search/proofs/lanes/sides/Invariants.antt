-- `search::lanes::sides` meets its contract. The invariant: the lanes from 32 up to i are all bits.
use Rattle.search.specs.Loops.Lanes.{Sides}
use Rattle.search.proofs.lanes.sides.Given as goal

abbrev pub invariant-loop-i : goal.invariant-loop-i
invariant-loop-i l = Sides l.i l.lanes
