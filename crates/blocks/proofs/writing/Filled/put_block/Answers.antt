-- `writing::Filled::put_block` meets its contract.
use native.Mathlib.Omega.{arith}
use Rattle.blocks.proofs.writing.Written.{check_written, block_more, block_end}
use Rattle.blocks.proofs.writing.Filled.put_block.Goals as goal

pub returns : goal.returns
returns c =
    let long = c.requires.1 in
    let head = c.put_head.ensures in
    let same = (rw c.unwrap.ensures at c.as_array.ensures.cases).same in
    let check = check_written _ _ _ _ _ _ head (rw same at c.check-check.ensures) in
    block_end _ _ _ _ _ (block_more _ _ _ _ _ _ _ _ head check (omega arith) long c.put_word.ensures) long
