-- `at_once::loses` meets its contract. The invariant: the marks joined are not 0 where one of the first i is lost.
use mathlib.Core.Path.{◌≡◌}
use mathlib.Core.Bool.{not}
use lib.ListN.{get_or}
use lib.Dec.{eqb}
use Rattle.problem.specs.Lists.{some}
use Rattle.splits.specs.AtOnce.{lost}
use Rattle.splits.proofs.at_once.loses.Given as goal

abbrev pub invariant-loop-i : goal.invariant-loop-i
invariant-loop-i l = not (eqb l.lost 0) ≡ some l.i (λ j. lost (get_or l.domains j 0) (get_or l.row j 0))
