-- `at_once::outsides` meets its contract. The invariant: the first i are done.
use mathlib.Core.Path.{◌≡◌}
use Rattle.splits.specs.AtOnce.{outside_to}
use Rattle.splits.proofs.at_once.outsides.Given as goal

abbrev pub invariant-loop-i : goal.invariant-loop-i
invariant-loop-i l = l.domains ≡ outside_to l.initial.domains l.row l.i
