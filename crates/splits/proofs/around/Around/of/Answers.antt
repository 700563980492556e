-- `Around::of` meets its contract.
use mathlib.Core.Bool.{not}
use mathlib.Core.Path.{sym, ◌∙◌, ap}
use borrow.Author.Tests.{not-false}
use Rattle.problem.proofs.tables.Ranges.{inside_true}
use Rattle.splits.proofs.around.Around.of.Goals as goal

pub invariant_of-result : goal.invariant_of-result
invariant_of-result c = record { fits = inside_true _ _ _ _ _ (sym c.within.ensures ∙ not-false _ (ap not c.if-not-within.false)) }
