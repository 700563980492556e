-- `Around::is_forbidden_by` meets its contract.
use Rattle.problem.proofs.tables.Ranges.{allowed_any}
use Rattle.splits.proofs.checks.Counting.{forbids_is}
use Rattle.splits.proofs.around.Around.is_forbidden_by.Goals as goal

pub returns : goal.returns
returns c =
    let p = c.args.self.now.fits in
    forbids_is _ _ _ _ _ _ _ _ _ _ _ c.domain.ensures c.lowest-a.ensures
    (allowed_any _ _ _ _ _ _ _ p.fit c.requires.0 p.a_variable c.requires.1 c.allowed.ensures) c.has.ensures
