-- `matrix::by_one` meets its contract: the places do not meet.
use Rattle.problem.specs.Loops.Matrices.{by_one}
use Rattle.problem.proofs.matrix.by_one.Goals as goal

pub returns : goal.returns
unfolding by_one
returns c = c.swapped.ensures
