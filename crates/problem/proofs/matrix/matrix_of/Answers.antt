-- `matrix::matrix_of` meets its contract: the definition follows the calls.
use Rattle.problem.proofs.matrix.Packing.{words_are}
use Rattle.problem.specs.Loops.Matrices.{matrix_of}
use Rattle.problem.proofs.matrix.matrix_of.Goals as goal

pub returns : goal.returns
unfolding matrix_of
returns c = (
  words_are _ _ _ _ _ c.four.ensures.0 c.four-2.ensures.0 c.four-3.ensures.0
      c.four-4.ensures.0,
  c.four-4.ensures.1,
)
