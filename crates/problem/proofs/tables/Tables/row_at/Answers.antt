-- `Tables::row_at` meets its contract. The invariant: the first j masks are made.
use native.Mathlib.Omega.{arith}
use Rattle.problem.proofs.tables.Ranges.{allowed_is}
use Rattle.problem.proofs.beside.Rows.{begun_none, begun_more}
use Rattle.problem.proofs.tables.Tables.row_at.Goals as goal

pub loop-j-init : goal.loop-j-init
loop-j-init c = begun_none _ _ _

pub loop-j-preserved : goal.loop-j-preserved
loop-j-preserved c =
    let fit = c.args.self.now.fit in
    begun_more _ _ _ _ _ _ c.loop-j.invariant (omega (arith, fit.few))
    (λ s. allowed_is _ _ _ _ _ _ _ (record { fit = fit; a_variable = c.requires.0; a_value = c.requires.1 }) c.loop-j-test.true s c.allowed.ensures)
