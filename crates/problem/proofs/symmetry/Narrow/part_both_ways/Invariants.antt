-- `Narrow::part_both_ways` meets its contract: the loop's invariant: what is allowed one way only of every pair passed is together.
use mathlib.Core.Path.{◌≡◌}
use Rattle.problem.specs.Loops.Tables.{allowed}
use Rattle.problem.specs.Lists.{joined}
use Rattle.problem.specs.Loops.FirstTests.{one_way}
use Rattle.problem.proofs.symmetry.Narrow.part_both_ways.Given as goal

abbrev pub invariant-loop-j : goal.invariant-loop-j
invariant-loop-j l = l.bits ≡ joined l.j (one_way l.self.tables.d (allowed l.self.tables) l.i)
