-- `matrix::turned` meets its contract: what is packed, turned and taken apart again is turned.
use Rattle.problem.proofs.matrix.Turning.{turned_made}
use Rattle.problem.proofs.matrix.turned.Goals as goal

pub returns : goal.returns
returns c =
    turned_made _ _ _ _ c.matrix_of.ensures.1 c.matrix_of.ensures.0 c.columns.ensures
    c.rows_of.ensures
