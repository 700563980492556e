-- `checksum::check` meets its contract.
use mathlib.Core.Path.{refl, ◌∙◌}
use Rattle.blocks.proofs.block.Places.{sum_read, check_made}
use Rattle.blocks.proofs.checksum.check.Goals as goal

pub returns : goal.returns
returns c =
    let read = sum_read _ _ _ c.words_of.ensures c.sum.ensures in
    c.closed.ensures ∙ check_made _ _ _ _ _ c.fits-block read refl refl
