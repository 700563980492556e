-- `block::block_at` meets its contract.
use Rattle.blocks.proofs.block.Places.{block_cut}
use Rattle.blocks.proofs.block.block_at.Goals as goal

pub returns : goal.returns
returns c = block_cut _ _ _ (rw c.unwrap.ensures at c.as_array.ensures.cases).same
