-- `search::lanes::far` meets its contract.
use Rattle.problem.specs.Masks.{bit}
use borrow.Author.Rules.{rules}
use Rattle.search.proofs.lanes.far.Goals as goal

pub returns-then-half-i-eq1 : goal.returns-then-half-i-eq1
unfolding bit
returns-then-half-i-eq1 c = search rules

pub returns-else-half-i-eq1 : goal.returns-else-half-i-eq1
unfolding bit
returns-else-half-i-eq1 c = search rules
