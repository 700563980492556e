-- `matrix::four` meets its contract.
use Rattle.problem.specs.Loops.Matrices.{four}
use Rattle.problem.specs.Lists.{row_in}
use Rattle.std.proofs.Common.{rules}
use Rattle.problem.proofs.matrix.four.Goals as goal

pub returns : goal.returns
unfolding four row_in
returns c = search rules
