-- `lanes::widened` meets its contract.
use Rattle.search.proofs.lanes.Halves.{widened_is}
use Rattle.search.proofs.lanes.widened.Goals as goal

pub returns : goal.returns
returns c = widened_is _ _
