-- `subproblem::Subproblem::cut` meets its contract.
use Rattle.splits.proofs.subproblem.Subproblems.{cut_out}
use Rattle.splits.specs.Splits.{cut}
use mathlib.Core.Path.{refl}
use borrow.Author.Rules.{rules}
use Rattle.splits.proofs.subproblem.Subproblem.cut.Goals as goal

pub returns-then-variable-lt32 : goal.returns-then-variable-lt32
unfolding cut
returns-then-variable-lt32 c = refl

pub returns-else-variable-lt32 : goal.returns-else-variable-lt32
returns-else-variable-lt32 c = cut_out _ _ _ (search rules) c.if-variable-lt32.false
