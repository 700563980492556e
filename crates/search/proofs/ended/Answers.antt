-- `search::ended` meets its contract.
use Rattle.search.proofs.Ending.{ended_made}
use Rattle.search.proofs.ended.Goals as goal

pub returns : goal.returns
returns c = ended_made _ _ _ _ c.verdict.ensures
