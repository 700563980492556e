-- `Exchange::swapped` meets its contract: what differs is exchanged.
use borrow.Author.Rules.{rules}
use Rattle.problem.proofs.matrix.Exchanging.{swapped_made}
use Rattle.problem.proofs.matrix.Exchange.swapped.Goals as goal

pub returns : goal.returns
returns c = rw c.unlike-digits.ensures (swapped_made _ _ _ c.ranges.x.fits (search rules) c.requires)
