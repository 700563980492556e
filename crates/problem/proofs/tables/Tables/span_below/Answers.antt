-- `Tables::span_below` meets its contract: all bits of the masks together, which stand in a row.
use Rattle.problem.proofs.first_checks.Joining.{in_span, span_found}
use Rattle.problem.proofs.tables.Tables.span_below.Goals as goal

pub returns : goal.returns
returns c =
    let p = c.requires in
    span_found _ _ _ _ _ _ _ _ (in_span _ _ _ _ _ _ c.args.self.now.fit p.0 p.1.0 p.1.1) p.1.0 c.bits_of.ensures c.is_below.ensures
