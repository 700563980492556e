-- `refusal::is_target_bad` meets its contract: in a word of 16 digits `target & !domain` is the target without the domain.
use borrow.Author.Tests.{eq-eqb, ne_eqb}
use Rattle.problem.proofs.mask.Masks.{not_minus}
use Rattle.splits.specs.Tests.Refusals.{bad}
use Rattle.splits.proofs.refusal.is_target_bad.Goals as goal

pub returns-then-target-eq0 : goal.returns-then-target-eq0
unfolding bad
returns-then-target-eq0 c = simp (eq-eqb _ _ c.if-target-eq0.true)

pub returns-else-target-eq0 : goal.returns-else-target-eq0
unfolding bad
returns-else-target-eq0 c = simp (ne_eqb _ _ c.if-target-eq0.false, not_minus 16 _ _ c.ranges.target.fits c.ranges.domain.fits)
