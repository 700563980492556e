-- `answer::text::Text::with_refusal` meets its contract.
use Rattle.problem.proofs.Refused.{number_small}
use native.Mathlib.Omega.{arith}
use Rattle.searches.specs.Verdicts.{ascii}
use Rattle.answer.specs.Text.{refused_line}
use Rattle.answer.proofs.Short.{refused_short}
use Rattle.answer.proofs.Writing.{adds_both}
use Rattle.answer.proofs.text.Text.with_refusal.Goals as goal

pub returns : goal.returns
unfolding refused_line ascii
returns c = (
  rw (← c.from.ensures) (adds_both _ _ _ _ _ c.with_word.ensures (adds_both _ _ _ _ _ c.with_number.ensures c.with_byte.ensures)),
  refused_short _ (omega (arith, number_small c.args.refusal)),
)
