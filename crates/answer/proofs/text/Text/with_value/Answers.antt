-- `answer::text::Text::with_value` meets its contract.
use mathlib.Core.Path.{ap}
use Rattle.searches.specs.Verdicts.{ascii}
use Rattle.answer.specs.Text.{decimal, plan_line}
use Rattle.answer.proofs.Writing.{adds_both, adds_same}
use Rattle.answer.proofs.text.Text.with_value.Goals as goal

pub returns : goal.returns
unfolding plan_line ascii
returns c =
    let value = adds_same _ _ _ _ (ap decimal c.lowest.ensures) c.with_number-2.ensures in
    let both = adds_both _ _ _ _ _
    (adds_both _ _ _ _ _ c.with_number.ensures c.with_byte-text.ensures) value in
    adds_both _ _ _ _ _ both c.with_byte.ensures
