-- `writing::Filled::put_head` meets its contract. The invariant: the words passed are written.
use native.Mathlib.Omega.{arith}
use Rattle.blocks.proofs.writing.Written.{block_none, block_more, head_word}
use Rattle.blocks.proofs.writing.Filled.put_head.Goals as goal

pub loop-k-init : goal.loop-k-init
loop-k-init c = block_none _ _ _ _

pub loop-k-preserved : goal.loop-k-preserved
loop-k-preserved c =
    let word = head_word _ _ _ _ _ c.loop-k-test.true c.head_word.ensures in
    block_more _ _ _ _ _ _ _ _ c.loop-k.invariant word (omega arith) c.requires.1 c.put_word.ensures
