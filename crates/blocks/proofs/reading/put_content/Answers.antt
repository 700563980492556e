-- `reading::put_content` meets its contract.
use Rattle.blocks.proofs.reading.Filled.{content_put}
use Rattle.blocks.proofs.reading.put_content.Goals as goal

pub returns : goal.returns
returns c =
    let start = c in
    content_put start.args.file.now _ _ start.if-words-blocks.false c.put_each.ensures
