-- `subproblem::Subproblem::at_targets` meets its contract.
use Rattle.splits.specs.Splits.{at_targets}
use mathlib.Core.Path.{◌≡◌}
use Rattle.splits.proofs.subproblem.Subproblem.at_targets.Given as goal

abbrev pub invariant-loop-i : goal.invariant-loop-i
invariant-loop-i l = l.self ≡ at_targets l.initial.self l.request l.i
