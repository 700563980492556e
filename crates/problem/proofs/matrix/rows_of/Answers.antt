-- `matrix::rows_of` meets its contract: the definition follows the calls.
use mathlib.Core.Path.{refl}
use Rattle.problem.proofs.matrix.Packing.{rows_are}
use Rattle.problem.specs.Loops.Matrices.{four_of, rows_of}
use Rattle.problem.proofs.matrix.rows_of.Goals as goal

pub returns : goal.returns
unfolding rows_of four_of
returns c =
    rows_are _ _ _ _ _ _ _
    c.word_at.ensures
    c.word_at-2.ensures
    c.word_at-3.ensures
    c.word_at-4.ensures
    (rows_are _ _ _ _ _ _ _ c.word_at-5.ensures
    c.word_at-6.ensures
    c.word_at-7.ensures
    c.word_at-8.ensures
    (rows_are _ _ _ _ _ _ _ c.word_at-9.ensures
    c.word_at-10.ensures c.word_at-11.ensures
    c.word_at-12.ensures
    (rows_are _ _ _ _ _ _ _ c.word_at-13.ensures c.word_at-14.ensures c.word_at-15.ensures
    c.word_at-16.ensures refl)))
