-- `split::extraction` meets its contract.
use Rattle.splits.proofs.split.Places.{extracted_first, extracted_later}
use Rattle.splits.proofs.split.extraction.Goals as goal

pub returns-then-k-eq0 : goal.returns-then-k-eq0
returns-then-k-eq0 c = extracted_first _ _ _ _ _ c.if-k-eq0.true c.at_targets.ensures

pub returns : goal.returns
returns c =
    extracted_later _ _ _ _ _ c.if-k-eq0.false _ c.at_targets-2.ensures _ c.target.ensures
    c.without.ensures
