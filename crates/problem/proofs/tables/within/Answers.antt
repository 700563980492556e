-- `tables::within` meets its contract.
use Rattle.std.proofs.Common.{arith}
use Rattle.std.proofs.lemmas.Bool.Decides.{nat_tests}
use Rattle.problem.specs.Ranges.{inside}
use Rattle.problem.proofs.tables.within.Goals as goal

pub returns-then-value-d : goal.returns-then-value-d
unfolding inside
returns-then-value-d c = grind (arith, nat_tests)

pub returns-else-value-d : goal.returns-else-value-d
unfolding inside
returns-else-value-d c = grind (arith, nat_tests)
