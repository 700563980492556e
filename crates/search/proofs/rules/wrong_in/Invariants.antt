-- `rules::wrong_in` meets its contract: the loop's invariant: what is wrong with the domains passed is together.
use mathlib.Core.Path.{◌≡◌}
use Rattle.problem.specs.Lists.{joined}
use Rattle.search.specs.Loops.FirstTests.{wrong_in}
use Rattle.search.proofs.rules.wrong_in.Given as goal

abbrev pub invariant-loop-i : goal.invariant-loop-i
invariant-loop-i l = l.wrong ≡ joined l.i (wrong_in l.domains l.slot)
