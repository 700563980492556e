-- `filling::put_tables` meets its contract. The invariant: the rows passed are written.
use native.Mathlib.Omega.{arith}
use Rattle.files.proofs.filling.Filled.{passed_none, before_room, own_fits, after_room, rows_more, tables_end}
use Rattle.files.proofs.filling.put_tables.Goals as goal

pub loop-i-init : goal.loop-i-init
loop-i-init c = passed_none _ _ _

pub put_before-own-requires : goal.put_before-own-requires
put_before-own-requires c =
    (c.loop-i-test.true, before_room _ _ _ _ _ _ _ c.requires c.args.content.now.sizes.numbers c.loop-i-test.true c.loop-i.invariant)

pub overflow_add-own : goal.overflow_add-own
overflow_add-own c =
    own_fits _ _ _ _ _ _ _ c.requires c.args.content.now.sizes.numbers c.loop-i-test.true c.loop-i.invariant _ c.put_before-own.ensures.1

pub put_at-end-requires : goal.put_at-end-requires
put_at-end-requires c =
    let put = c.put_before-own in
    after_room _ _ _ _ _ _ _ c.requires c.args.content.now.sizes.numbers c.loop-i-test.true c.loop-i.invariant _ put.ensures.1 _ _
    put.auto.masks c.masks_after.ensures.1

pub loop-i-preserved : goal.loop-i-preserved
loop-i-preserved c =
    let first = c.put_before-own in
    let last = c.put_at-end in
    rows_more _ _ _ _ _ _ _ c.requires c.args.content.now.sizes.numbers c.loop-i-test.true c.loop-i.invariant _ first.ensures.1 _ _ _ _
    first.ensures.0 c.masks_after.ensures.0 c.masks_after.ensures.1 last.ensures.0 last.ensures.1 first.auto.masks
    last.auto.out

pub returns : goal.returns
returns c = tables_end _ _ _ _ _ _ _ c.loop-i.invariant (omega arith)
