-- `subproblem::Subproblem::is_empty` meets its contract.
use mathlib.Core.Path.{◌∙◌}
use borrow.Author.Rules.{rules}
use borrow.Author.Tests.{lt-ltb}
use Rattle.splits.proofs.subproblem.Subproblems.{empty_over, empty_any}
use Rattle.splits.proofs.subproblem.Subproblem.is_empty.Goals as goal

pub returns-then-n-gt32 : goal.returns-then-n-gt32
returns-then-n-gt32 c = rw (lt-ltb _ _ c.if-n-gt32.true) (empty_over _ _ (search rules) c.if-n-gt32.true)

pub returns-else-n-gt32 : goal.returns-else-n-gt32
returns-else-n-gt32 c = c.contains.ensures.value ∙ empty_any _ _ (search rules) c.if-n-gt32.false
