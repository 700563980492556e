-- `search::lanes::half` meets its contract.
use Rattle.search.proofs.lanes.Halves.{half_is}
use Rattle.search.proofs.lanes.half.Goals as goal

pub returns : goal.returns
returns c = half_is _ _
