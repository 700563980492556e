-- `checksum::check_of` meets its contract.
use mathlib.Core.Path.{◌∙◌, ap}
use Rattle.blocks.specs.Blocks.{check_of}
use Rattle.blocks.proofs.block.Places.{whole_head}
use Rattle.blocks.proofs.checksum.check_of.Goals as goal

pub returns : goal.returns
returns c = c.check.ensures ∙ ap check_of (whole_head _ _ c.whole.ensures)
