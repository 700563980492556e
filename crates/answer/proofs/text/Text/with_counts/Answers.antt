-- `answer::text::Text::with_counts` meets its contract.
use Rattle.searches.specs.Verdicts.{ascii}
use Rattle.answer.specs.Text.{counts_line}
use Rattle.answer.proofs.Short.{counts_short}
use native.Mathlib.Omega.{arith}
use Rattle.answer.proofs.Writing.{adds_both}
use Rattle.answer.proofs.text.Text.with_counts.Goals as goal

pub returns : goal.returns
unfolding counts_line ascii
returns c =
    let steps = adds_both _ _ _ _ _ c.with_word.ensures
    c.with_number-text.ensures in
    let checks = adds_both _ _ _ _ _ (adds_both _ _ _ _ _ steps c.with_word-2.ensures) c.with_number.ensures in (
      adds_both _ _ _ _ _ checks c.with_byte.ensures,
      counts_short _ _ (omega (arith, c.ranges.steps.fits))
          (omega (arith, c.ranges.checks.fits)),
    )
