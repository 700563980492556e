-- `word_bytes::words_of` meets its contract.
use mathlib.Core.Path.{sym, ◌∙◌}
use Rattle.word_bytes.proofs.Fitting.{some_not, fits_true, puts_none, puts_empty, puts_so}
use Rattle.word_bytes.proofs.words_of.Goals.{then-not-fits-via-then-not-fits, then-not-fits-via-else-not-fits+then-bytes-eq0}
use Rattle.word_bytes.proofs.words_of.Goals as goal

pub returns-then-not-fits : goal.returns-then-not-fits
returns-then-not-fits c = elim c.then-not-fits.branch [
  | then-not-fits-via-then-not-fits w ↦ puts_none _ _ _ (sym c.fits.ensures ∙ w.if-not-fits.true)
  | then-not-fits-via-else-not-fits+then-bytes-eq0 w ↦ puts_empty _ _ _ w.if-bytes-eq0.true
]

pub put-requires : goal.put-requires
put-requires c = fits_true _ _ (sym c.fits.ensures ∙ c.if-not-fits.false) (some_not _ c.if-bytes-eq0.false)

pub returns : goal.returns
returns c = puts_so (sym c.fits.ensures ∙ c.if-not-fits.false) c.put.ensures
