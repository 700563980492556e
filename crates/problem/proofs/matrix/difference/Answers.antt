-- `matrix::difference` meets its contract: the definition follows the code.
use mathlib.Core.Path.{refl}
use Rattle.problem.specs.Loops.Matrices.{difference}
use Rattle.problem.proofs.matrix.difference.Goals as goal

pub returns : goal.returns
unfolding difference
returns c = refl
