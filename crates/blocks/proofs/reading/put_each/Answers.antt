-- `reading::put_each` meets its contract. The invariant: the blocks passed are read.
use Prim.Native.Nat.{◌+◌, ◌*◌, ◌≤◌}
use native.Mathlib.Omega.{arith}
use lib.ListN.{length}
use Rattle.blocks.proofs.reading.Filled.{content_none, content_more}
use Rattle.blocks.proofs.reading.put_each.Goals as goal

pub loop-b-init : goal.loop-b-init
loop-b-init c = content_none _ _

pub loop-b-preserved : goal.loop-b-preserved
loop-b-preserved c =
    let within : c.loop-b.b * 253 + 253 ≤ length c.args.words.now = omega arith in
    content_more _ _ _ _ _ _ c.loop-b.invariant c.block_at.ensures c.put_content.ensures within
