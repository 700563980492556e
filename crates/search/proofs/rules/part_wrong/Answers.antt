-- `rules::part_wrong` meets its contract: empty, or what the problem's domain has not.
use Rattle.search.proofs.rules.Marked.{wrong_empty, wrong_over}
use Rattle.search.proofs.rules.part_wrong.Goals as goal

pub returns-then-domain-eq0 : goal.returns-then-domain-eq0
returns-then-domain-eq0 c = wrong_empty _ _ c.if-domain-eq0.true

pub returns : goal.returns
returns c = wrong_over _ _ c.ranges.whole.fits c.ranges.domain.fits c.if-domain-eq0.false
