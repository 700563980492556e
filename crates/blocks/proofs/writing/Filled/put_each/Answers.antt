-- `writing::Filled::put_each` meets its contract. The invariant: the blocks passed are written.
use Prim.Native.Nat.{◌+◌, ◌*◌, ◌≤◌}
use native.Mathlib.Omega.{arith}
use lib.ListN.{length}
use Rattle.blocks.proofs.writing.Written.{file_none, file_more}
use Rattle.blocks.proofs.writing.Filled.put_each.Goals as goal

pub loop-b-init : goal.loop-b-init
loop-b-init c = file_none _ _ _

pub loop-b-preserved : goal.loop-b-preserved
loop-b-preserved c =
    let within : 512 * c.loop-b.b + 512 ≤ length c.args.file.now = omega arith in
    file_more _ _ _ _ _ _ c.loop-b.invariant c.put_block.ensures within
