-- `block::word` meets its contract.
use mathlib.Core.Path.{◌∙◌}
use Rattle.blocks.proofs.block.Places.{word_made, word_past}
use Rattle.blocks.proofs.block.word.Goals as goal

pub returns-then-k-file : goal.returns-then-k-file
returns-then-k-file c = c.from_be_bytes.ensures ∙ word_made _ _ _ _ c.byte.ensures c.byte-then-k-file.ensures

pub returns : goal.returns
returns c = word_past _ _ c.if-k-file.false
