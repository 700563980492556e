-- `answer::text::Text::with_byte` meets its contract.
use mathlib.Core.Path.{refl}
use Rattle.answer.proofs.Writing.{adds_byte}
use Rattle.answer.proofs.text.Text.with_byte.Goals as goal

pub returns-then-at-lt512 : goal.returns-then-at-lt512
returns-then-at-lt512 c = adds_byte _ _ _ c.if-at-lt512.true refl refl
