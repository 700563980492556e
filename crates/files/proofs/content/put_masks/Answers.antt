-- `content::put_masks` meets its contract. The invariant: the rows passed are written.
use native.Mathlib.Omega.{arith}
use Rattle.files.proofs.filling.Filled.{passed_none}
use Rattle.files.proofs.content.Written.{row_room, rows_more, rows_end}
use Rattle.files.proofs.content.put_masks.Goals as goal

pub loop-i-init : goal.loop-i-init
loop-i-init c = passed_none _ _ _

pub put_at-end-requires : goal.put_at-end-requires
put_at-end-requires c =
    let pre = c.requires in
    row_room _ _ _ pre.0 _ _ _ _ _ pre.1 c.loop-i.invariant _ c.loop-i-test.true c.masks_after.ensures.1

pub loop-i-preserved : goal.loop-i-preserved
loop-i-preserved c =
    let pre = c.requires in
    let put = c.put_at-end in
    rows_more _ _ _ pre.0 _ _ _ _ _ pre.1 c.loop-i.invariant _ _ _ c.loop-i-test.true c.masks_after.ensures.0
    put.ensures.0 put.ensures.1 put.auto.out

pub returns : goal.returns
returns c =
    let pre = c.requires in
    rows_end _ _ _ pre.0 _ _ _ _ _ pre.1 c.loop-i.invariant (omega arith)
