-- `splits::refusal::refusal_of_targets` meets its contract. The invariant: no target passed is bad, and whether all are their domains.
use Rattle.splits.proofs.refusal.Refusals.{Passed}
use Rattle.splits.proofs.refusal.refusal_of_targets.Given as goal

abbrev pub invariant-loop-i : goal.invariant-loop-i
invariant-loop-i l = Passed l.top l.request l.i l.all_same
