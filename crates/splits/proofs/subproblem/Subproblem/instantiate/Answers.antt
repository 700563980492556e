-- `subproblem::Subproblem::instantiate` meets its contract.
use Rattle.problem.proofs.mask.Masks.{only_is}
use Rattle.splits.proofs.subproblem.Subproblems.{instantiate_in}
use Rattle.splits.proofs.subproblem.Subproblem.instantiate.Goals as goal

pub returns-then-value-lt16 : goal.returns-then-value-lt16
returns-then-value-lt16 c =
    let small = c.if-value-lt16.true in
    instantiate_in _ _ _ _ (only_is _ _ small c.only.ensures) c.if-variable-lt32.true small
