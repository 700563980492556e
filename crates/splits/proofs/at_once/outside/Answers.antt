-- `at_once::outside` meets its contract.
use Rattle.problem.proofs.mask.Masks.{not_minus}
use Rattle.splits.proofs.at_once.outside.Goals as goal

pub returns : goal.returns
returns c = not_minus 16 c.args.domain c.args.mask c.ranges.domain.fits c.ranges.mask.fits
