-- `rules::held_of` meets its contract. The invariant: the domains of the instantiated variables before the next one are taken.
use Rattle.search.proofs.rules.Marked.{held_start, held_end}
use Rattle.search.proofs.rules.held_of.Goals as goal

pub loop-i-init : goal.loop-i-init
loop-i-init c = (held_start _ _ _ _ c.next_in-i.ensures, c.next_in-i.ensures.there)

pub returns : goal.returns
returns c = let k = c.requires in held_end _ _ _ _ _ c.loop-i.invariant.0 c.loop-i-test.false k.1.0 k.1.1
