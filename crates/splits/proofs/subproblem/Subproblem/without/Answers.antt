-- `subproblem::Subproblem::without` meets its contract.
use Rattle.splits.proofs.subproblem.Subproblems.{without_in, without_out}
use lib.ListN.{get_or}
use mir.Syntax.{w16}
use mir.Val.{Fits}
use borrow.Author.Rules.{rules}
use Rattle.splits.proofs.subproblem.Subproblem.without.Goals as goal

pub returns-then-variable-lt32 : goal.returns-then-variable-lt32
returns-then-variable-lt32 c =
    let h : Fits w16 (get_or c.args.self.domains c.args.variable 0) = search rules in
    without_in _ _ _ h.fits c.ranges.mask.fits

pub returns-else-variable-lt32 : goal.returns-else-variable-lt32
returns-else-variable-lt32 c = without_out _ _ _ (search rules) c.if-variable-lt32.false
