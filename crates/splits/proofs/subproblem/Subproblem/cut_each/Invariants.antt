-- `subproblem::Subproblem::cut_each` meets its contract. The invariant: the first i domains are cut.
use mathlib.Core.Path.{◌≡◌}
use Rattle.splits.proofs.subproblem.Rows.{cut_to}
use Rattle.splits.proofs.subproblem.Subproblem.cut_each.Given as goal

abbrev pub invariant-loop-i : goal.invariant-loop-i
invariant-loop-i l = l.self ≡ cut_to l.initial.self l.masks l.i
