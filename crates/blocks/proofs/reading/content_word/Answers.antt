-- `reading::content_word` meets its contract.
use Rattle.blocks.specs.Reading.{block_word, content_word}
use Rattle.blocks.proofs.reading.Filled.{content_far}
use Rattle.blocks.proofs.reading.content_word.Goals as goal

pub returns-then-k-file : goal.returns-then-k-file
unfolding block_word content_word
returns-then-k-file c = c.word.ensures

pub returns : goal.returns
returns c = content_far _ _ c.if-k-file.false
