-- `matrix::columns` meets its contract: the definition follows the calls.
use mathlib.Core.Path.{ap, ◌∙◌}
use Rattle.problem.specs.Loops.Matrices.{by_four, by_eight, columns}
use Rattle.problem.proofs.matrix.columns.Goals as goal

pub returns : goal.returns
unfolding columns
returns c = c.by_eight.ensures ∙ ap by_eight (c.by_four.ensures ∙ ap by_four c.within.ensures)
