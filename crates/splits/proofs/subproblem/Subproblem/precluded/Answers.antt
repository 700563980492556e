-- `subproblem::Subproblem::precluded` meets its contract.
use Rattle.splits.proofs.subproblem.Rows.{marked_by}
use Rattle.splits.proofs.subproblem.Subproblem.precluded.Goals as goal

pub returns : goal.returns
returns c = marked_by _ _ _ _ c.if-variable-ge32.false c.cut_each-next.ensures
