-- `beside::row` meets its contract.
use mathlib.Core.Path.{sym, ◌∙◌}
use Rattle.problem.proofs.tables.Ranges.{inside_true}
use Rattle.problem.proofs.beside.row.Goals as goal

pub invariant_of-row_at : goal.invariant_of-row_at
invariant_of-row_at c = record { fit = (inside_true _ _ _ _ _ (sym c.within.ensures ∙ c.if-within.true)).fit; masks = λ a. (c.type_inv.tables a).fits }

pub row_at-requires : goal.row_at-requires
row_at-requires c = let p = inside_true _ _ _ _ _ (sym c.within.ensures ∙ c.if-within.true) in (p.a_variable, p.a_value)
