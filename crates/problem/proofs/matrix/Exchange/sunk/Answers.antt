-- `Exchange::sunk` meets its contract: what differs is exchanged.
use borrow.Author.Rules.{rules}
use Rattle.problem.proofs.matrix.Exchanging.{sunk_made}
use Rattle.problem.proofs.matrix.Exchange.sunk.Goals as goal

pub returns : goal.returns
returns c = rw c.unlike.ensures (sunk_made _ _ _ _ c.ranges.a.fits (search rules))
