-- `Tables::row_below` meets its contract: those before the variable, then those after it.
use Rattle.problem.proofs.first_checks.Joining.{row_stop, row_last}
use Rattle.problem.proofs.tables.Tables.row_below.Goals as goal

pub returns-then-span_below : goal.returns-then-span_below
returns-then-span_below c = row_last _ _ _ _ _ _ c.requires c.span_below.ensures c.if-span_below.true c.span_below-then-span_below.ensures

pub returns-else-span_below : goal.returns-else-span_below
returns-else-span_below c = row_stop _ _ _ _ _ c.requires c.span_below.ensures c.if-span_below.false
