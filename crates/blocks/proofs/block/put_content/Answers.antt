-- `block::put_content` meets its contract.
use mathlib.Core.Path.{◌∙◌}
use Rattle.blocks.proofs.block.Places.{content_cut}
use Rattle.blocks.proofs.block.put_content.Goals as goal

pub returns : goal.returns
returns c = c.copy_from_slice.ensures.after ∙ content_cut _ _ c.words_of.ensures
