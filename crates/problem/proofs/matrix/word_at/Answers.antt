-- `matrix::word_at` meets its contract: the definition follows the code.
use Rattle.problem.specs.Loops.Matrices.{word_at}
use borrow.Author.Rules.{rules}
use Rattle.problem.proofs.matrix.word_at.Goals as goal

pub returns : goal.returns
unfolding word_at
returns c = search rules
