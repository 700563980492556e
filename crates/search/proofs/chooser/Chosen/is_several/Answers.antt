-- `Chosen::is_several` meets its contract.
use Rattle.std.proofs.Common.{rules, tests}
use Rattle.search.specs.Loops.Found.{several}
use Rattle.search.proofs.chooser.Chosen.is_several.Goals as goal

pub returns-then-not-self : goal.returns-then-not-self
unfolding several
returns-then-not-self c = search (rules, tests)

pub returns-else-not-self : goal.returns-else-not-self
unfolding several
returns-else-not-self c = search (rules, tests)
