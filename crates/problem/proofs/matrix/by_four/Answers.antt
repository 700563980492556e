-- `matrix::by_four` meets its contract: the definition follows the calls.
use Rattle.problem.proofs.matrix.Packing.{words_are}
use Rattle.problem.specs.Loops.Matrices.{by_four}
use Rattle.problem.proofs.matrix.by_four.Goals as goal

pub returns : goal.returns
unfolding by_four
returns c =
    words_are _ _ _ _ _ c.risen.ensures c.sunk.ensures c.risen-2.ensures
    c.sunk-2.ensures
