-- `reading::is_good` meets its contract.
use Rattle.std.proofs.Common.{arith}
use Rattle.std.proofs.lemmas.Bool.Decides.{nat_tests}
use Rattle.blocks.proofs.block.Places.{word_here}
use Rattle.blocks.specs.Loops.Read.{good_in}
use Rattle.blocks.proofs.reading.is_good.Goals as goal

pub returns-then-from-blocks : goal.returns-then-from-blocks
unfolding good_in
returns-then-from-blocks c = grind (arith, nat_tests, word_here)

pub returns-else-from-blocks : goal.returns-else-from-blocks
unfolding good_in
returns-else-from-blocks c = grind (arith, nat_tests, word_here)
