-- `reading::fills` meets its contract.
use mathlib.Core.Path.{◌∙◌}
use borrow.Author.Tests.{ne_eqb}
use Rattle.files.proofs.reading.Found.{filled_not, filled_zeros}
use Rattle.files.proofs.reading.fills.Goals as goal

pub returns-then-blocks-words : goal.returns-then-blocks-words
returns-then-blocks-words c = filled_zeros c.args.file.now _ _ c.if-blocks-words.true c.zeros_from.ensures

pub returns-else-blocks-words : goal.returns-else-blocks-words
returns-else-blocks-words c = ne_eqb _ _ c.if-blocks-words.false ∙ filled_not c.args.file.now _ c.if-blocks-words.false
