-- `filling::put_before` meets its contract. The invariant: the pairs passed are written.
use mathlib.Core.Path.{refl}
use native.Mathlib.Omega.{arith}
use Rattle.files.proofs.filling.Filled.{passed_none, pair_room, pairs_more, pairs_end}
use Rattle.files.proofs.filling.put_before.Goals as goal

pub loop-j-init : goal.loop-j-init
loop-j-init c = passed_none _ _ _

pub put_turned-end-requires : goal.put_turned-end-requires
put_turned-end-requires c =
    let pre = c.requires in
    let room = pair_room _ _ _ _ _ _ _ _ _ c.loop-j-test.true pre.1 c.loop-j.invariant in
    (omega (arith, c.masks.ensures.1, c.args.content.now.sizes.numbers.values), omega (arith, c.masks.ensures.1, room))

pub loop-j-preserved : goal.loop-j-preserved
loop-j-preserved c =
    let put = c.put_turned-end in
    let rows = c.masks.ensures in
    pairs_more _ _ _ _ _ _ _ _ _ c.loop-j-test.true c.requires.1 c.loop-j.invariant _ _ _ _
    refl rows.0 rows.1 put.ensures.0 put.ensures.1 put.auto.masks

pub returns : goal.returns
returns c = pairs_end _ _ _ _ _ _ _ _ _ c.loop-j.invariant (omega arith)
