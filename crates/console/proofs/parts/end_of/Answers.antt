-- `console::parts::end_of` meets its contract.
use Rattle.console.proofs.parts.SoFar.{part_last, part_full}
use Rattle.console.proofs.parts.end_of.Goals as goal

pub returns-then-bytes-at : goal.returns-then-bytes-at
returns-then-bytes-at c = let pre = c.requires in part_last _ _ _ pre.0 pre.1.0 pre.1.1 c.if-bytes-at.true

pub returns : goal.returns
returns c = let pre = c.requires in part_full _ _ _ pre.0 pre.1.0 pre.1.1 c.if-bytes-at.false
