-- `console::numbers::unwhole` meets its contract.
use Rattle.problem.proofs.Refused.{never_0}
use Rattle.problem.proofs.first_checks.Parts.{else_first, else_rest}
use mathlib.Core.Path.{refl, sym}
use Rattle.console.specs.Calls.{unwhole}
use Rattle.console.proofs.numbers.unwhole.Goals as goal

pub returns-in-Err : goal.returns-in-Err
unfolding unwhole
returns-in-Err c = else_first _ _ _ c.in-Err.ensures (never_0 _)

pub returns-in-Ok : goal.returns-in-Ok
unfolding unwhole
returns-in-Ok c = else_rest _ _ _ (sym c.in-Ok.ensures) refl
