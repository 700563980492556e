-- `answer::text::Text::with_number` meets its contract.
use Rattle.answer.proofs.Decimals.{adds_digit, adds_digits}
use Rattle.answer.proofs.text.Text.+with_number.Goals as goal

pub returns-then-number-lt10 : goal.returns-then-number-lt10
returns-then-number-lt10 t c = adds_digit _ _ _ _ c.if-number-lt10.true c.digit.ensures c.with_byte.ensures

pub returns : goal.returns
returns t c =
    adds_digits _ _ _ _ _ c.if-number-lt10.false c.digit-2.ensures c.with_number-higher.ensures c.with_byte-2.ensures
