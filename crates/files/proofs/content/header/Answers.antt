-- `content::header` meets its contract.
use mathlib.Core.Path.{refl}
use Rattle.files.specs.Loops.Saved.{header}
use Rattle.files.proofs.content.header.Goals as goal

pub returns : goal.returns
unfolding header
returns c = refl
