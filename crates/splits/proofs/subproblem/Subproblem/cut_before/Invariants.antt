-- `subproblem::Subproblem::cut_before` meets its contract.
use mathlib.Core.Path.{◌≡◌}
use Rattle.splits.specs.Loops.Kinds.{cut_before}
use Rattle.splits.proofs.subproblem.Subproblem.cut_before.Given as goal

abbrev pub invariant-loop-i : goal.invariant-loop-i
invariant-loop-i l = l.self ≡ cut_before l.initial.self l.variable l.row l.i
