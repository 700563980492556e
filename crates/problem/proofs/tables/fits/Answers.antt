-- `tables::fits` meets its contract.
use Rattle.std.proofs.Common.{arith}
use Rattle.std.proofs.lemmas.Bool.Decides.{nat_tests}
use Rattle.problem.specs.Ranges.{sized}
use Rattle.problem.proofs.tables.fits.Goals as goal

pub returns-then-d-le16 : goal.returns-then-d-le16
unfolding sized
returns-then-d-le16 c = grind (arith, nat_tests)

pub returns-else-d-le16 : goal.returns-else-d-le16
unfolding sized
returns-else-d-le16 c = grind (arith, nat_tests)
