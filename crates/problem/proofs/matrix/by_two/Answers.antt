-- `matrix::by_two` meets its contract: the places do not meet.
use Rattle.problem.specs.Loops.Matrices.{by_two}
use Rattle.problem.proofs.matrix.by_two.Goals as goal

pub returns : goal.returns
unfolding by_two
returns c = c.swapped.ensures
