-- `Exchange::unlike` meets its contract: the definition follows the code.
use mathlib.Core.Path.{refl}
use Rattle.problem.specs.Loops.Matrices.{unlike}
use Rattle.problem.proofs.matrix.Exchange.unlike.Goals as goal

pub returns : goal.returns
unfolding unlike
returns c = refl
