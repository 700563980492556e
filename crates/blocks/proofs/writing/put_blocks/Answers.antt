-- `writing::put_blocks` meets its contract.
use Rattle.blocks.proofs.writing.Written.{blocks_put}
use Rattle.blocks.proofs.writing.put_blocks.Goals as goal

pub returns : goal.returns
returns c =
    let long = c in
    blocks_put long.args.content.now _ _ long.if-content-blocks.false long.if-blocks-gt-MOST.false long.if-file-blocks.false c.put_each.ensures
