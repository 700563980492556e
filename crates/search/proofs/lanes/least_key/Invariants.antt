-- `search::lanes::least_key` meets its contract. The invariant: the best is the least of the keys of the first i and of the i from 16 on.
use Rattle.search.specs.Loops.Lanes.{LeastKey}
use Rattle.search.proofs.lanes.least_key.Given as goal

abbrev pub invariant-loop-i : goal.invariant-loop-i
invariant-loop-i l = LeastKey l.domains l.marked l.i l.best
