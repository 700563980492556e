-- `rules::wrong_in` meets its contract: the loop's invariant: what is wrong with the domains passed is together.
use Rattle.search.specs.Loops.FirstTests.{wrong_in}
use Rattle.problem.proofs.first_checks.Joining.{joined_none, joined_more}
use Rattle.search.proofs.rules.wrong_in.Goals as goal

pub loop-i-init : goal.loop-i-init
loop-i-init c = joined_none _

pub loop-i-preserved : goal.loop-i-preserved
unfolding wrong_in
loop-i-preserved c = joined_more _ _ _ _ c.loop-i.invariant c.part_wrong-wrong.ensures
