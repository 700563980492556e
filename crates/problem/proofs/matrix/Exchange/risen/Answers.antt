-- `Exchange::risen` meets its contract: what differs is exchanged.
use Rattle.problem.proofs.matrix.Exchanging.{risen_made}
use Rattle.problem.proofs.matrix.Exchange.risen.Goals as goal

pub returns : goal.returns
returns c = rw c.unlike.ensures (risen_made _ _ _ _ c.ranges.a.fits)
