-- `Tables::one_way` meets its contract: the masks of i with j, rows for columns, beside those of j with i.
use Rattle.problem.proofs.symmetry.Pairs.{one_way_found}
use Rattle.problem.proofs.tables.Tables.one_way.Goals as goal

pub returns : goal.returns
returns c =
    one_way_found _ _ _ _ _ _ _ _ c.matrix_at.ensures c.columns.ensures
    c.matrix_at-2.ensures c.difference.ensures
