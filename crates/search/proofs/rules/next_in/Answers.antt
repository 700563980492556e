-- `rules::next_in` meets its contract: the zeros below the lowest variable of the rest of the set.
use mathlib.Core.Path.{refl}
use Rattle.search.proofs.rules.Marked.{next_found}
use Rattle.search.proofs.rules.next_in.Goals as goal

pub returns : goal.returns
returns c = next_found _ _ _ c.ranges.set.fits refl
