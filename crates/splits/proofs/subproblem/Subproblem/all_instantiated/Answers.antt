-- `subproblem::Subproblem::all_instantiated` meets its contract.
use Rattle.splits.proofs.subproblem.Subproblems.{marks_all, marks_over}
use mir.Syntax.{w32}
use mir.Val.{Fits}
use borrow.Author.Rules.{rules}
use Rattle.splits.proofs.subproblem.Subproblem.all_instantiated.Goals as goal

pub returns-then-n-gt32 : goal.returns-then-n-gt32
returns-then-n-gt32 c = let h : Fits w32 c.args.self.marked = search rules in marks_over _ _ h.fits c.if-n-gt32.true

pub returns : goal.returns
returns c = rw c.from.ensures (marks_all _ _ c.if-n-gt32.false)
