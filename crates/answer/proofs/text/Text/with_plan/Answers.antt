-- `answer::text::Text::with_plan` meets its contract.
use mathlib.Core.Path.{refl}
use Rattle.answer.specs.Loops.Writing.{value_lines}
use Rattle.answer.proofs.Writing.{adds_none, adds_line}
use Rattle.answer.proofs.text.Text.with_plan.Goals as goal

pub loop-i-init : goal.loop-i-init
unfolding value_lines
loop-i-init c = adds_none _

pub loop-i-preserved : goal.loop-i-preserved
loop-i-preserved c = adds_line _ _ _ _ _ _ refl c.loop-i.invariant c.with_value-text.ensures
