-- `at_once::loss` meets its contract.
use Rattle.std.proofs.Common.{arith}
use Rattle.std.proofs.lemmas.Bool.Decides.{nat_tests}
use Rattle.splits.specs.AtOnce.{lost}
use Rattle.splits.proofs.at_once.loss.Goals as goal

pub returns : goal.returns
unfolding lost
returns c = grind (arith, nat_tests)
