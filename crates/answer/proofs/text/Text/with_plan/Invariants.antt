-- `answer::text::Text::with_plan` meets its contract.
use Rattle.answer.specs.Loops.Writing.{Adds, value_lines}
use Rattle.answer.proofs.text.Text.with_plan.Given as goal

abbrev pub invariant-loop-i : goal.invariant-loop-i
invariant-loop-i l = Adds l.initial.text (value_lines l.i l.domains) l.text
