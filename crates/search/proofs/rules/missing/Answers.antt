-- `rules::missing` meets its contract. The invariant: what is missing of the first j masks is together.
use Rattle.problem.proofs.first_checks.Joining.{joined_none}
use Rattle.search.proofs.rules.Marked.{missing_more}
use Rattle.search.proofs.rules.missing.Goals as goal

pub loop-j-init : goal.loop-j-init
loop-j-init c = joined_none _

pub loop-j-preserved : goal.loop-j-preserved
loop-j-preserved c = missing_more _ _ _ _ _ c.loop-j.invariant c.outside-wrong.ensures
