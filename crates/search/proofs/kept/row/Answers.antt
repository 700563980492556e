-- `kept::row` meets its contract: the row is in its place, or is made and put there.
use mathlib.Core.Path.{refl}
use lib.ListN.{length-set}
use Rattle.search.proofs.kept.Rows.{row_there, row_put}
use Rattle.problem.proofs.tables.Ranges.{inside_is}
use borrow.Author.Rules.{rules}
use Rattle.search.proofs.kept.row.Goals.{then-rows-at, else-rows-at}
use Rattle.search.proofs.kept.row.Goals as goal

pub offset_bounds-rows-at : goal.offset_bounds-rows-at
offset_bounds-rows-at c = let at = c.requires.1.inside in search rules

pub bounds-rows-at : goal.bounds-rows-at
bounds-rows-at c = c.requires.1.inside

pub offset_bounds-rows-at-then-rows-at : goal.offset_bounds-rows-at-then-rows-at
offset_bounds-rows-at-then-rows-at c = let at = c.requires.1.inside in search rules

pub bounds-rows-at-then-rows-at : goal.bounds-rows-at-then-rows-at
bounds-rows-at-then-rows-at c = c.requires.1.inside

pub offset_bounds-rows-at-2 : goal.offset_bounds-rows-at-2
offset_bounds-rows-at-2 c = let at = c.requires.1.inside in search rules

pub slice_copy_out-result : goal.slice_copy_out-result
slice_copy_out-result c =
    let p = c.requires.1 in
    elim c.if-rows-at.branch [ then-rows-at w ↦ rw (w.rows-is, length-set) p.inside | else-rows-at w ↦ rw w.rows-is p.inside ]

pub shape_of-rows : goal.shape_of-rows
shape_of-rows c = elim c.if-rows-at.branch [ then-rows-at w ↦ rw (w.rows-is, length-set) refl | else-rows-at w ↦ rw w.rows-is refl ]

pub returns : goal.returns
returns c = let p = c.requires in
    elim c.if-rows-at.branch [
      | then-rows-at w ↦ rw w.rows-is (row_put _ _ _ _ _ _ _ p.1 _ (w.row.ensures.within (inside_is _ _ _ _ _ p.0)))
      | else-rows-at w ↦ rw w.rows-is (row_there _ _ _ _ _ _ _ p.1 p.0.a_value p.0.fit.small w.if-rows-at.false)
    ]
