-- `matrix::within` meets its contract: the definition follows the calls.
use mathlib.Core.Path.{ap, ◌∙◌}
use Rattle.problem.proofs.matrix.Packing.{words_are}
use Rattle.problem.specs.Loops.Matrices.{by_two, within}
use Rattle.problem.proofs.matrix.within.Goals as goal

pub returns : goal.returns
unfolding within
returns c =
    words_are _ _ _ _ _
    (c.by_two.ensures ∙ ap by_two
    c.by_one.ensures)
    (c.by_two-2.ensures ∙ ap by_two c.by_one-2.ensures)
    (c.by_two-3.ensures ∙ ap by_two c.by_one-3.ensures)
    (c.by_two-4.ensures ∙ ap by_two c.by_one-4.ensures)
