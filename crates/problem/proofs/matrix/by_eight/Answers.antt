-- `matrix::by_eight` meets its contract: the definition follows the calls.
use Rattle.problem.proofs.matrix.Packing.{words_are}
use Rattle.problem.specs.Loops.Matrices.{by_eight}
use Rattle.problem.proofs.matrix.by_eight.Goals as goal

pub returns : goal.returns
unfolding by_eight
returns c =
    words_are _ _ _ _ _ c.risen.ensures c.risen-2.ensures c.sunk.ensures
    c.sunk-2.ensures
