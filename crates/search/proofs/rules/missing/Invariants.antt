-- `rules::missing` meets its contract. The invariant: what is missing of the first j masks is together.
use mathlib.Core.Path.{◌≡◌}
use Rattle.problem.specs.Lists.{joined}
use Rattle.search.specs.Loops.FirstTests.{missing_in}
use Rattle.search.proofs.rules.missing.Given as goal

abbrev pub invariant-loop-j : goal.invariant-loop-j
invariant-loop-j l = l.wrong ≡ joined l.j (missing_in l.held l.row)
