-- `search::choose_on` meets its contract. The invariant: the chooser from here on is the whole chooser, and the rows kept are rows.
use mathlib.Core.Path.{◌≡◌}
use Rattle.search.proofs.Running.{GoingChosen}
use Rattle.search.proofs.choose_on.Given as goal

abbrev pub invariant-loop-taken : goal.invariant-loop-taken
invariant-loop-taken l = GoingChosen l.n l.d l.tables l.limit l.initial.agenda l.initial.state l.agenda l.state l.taken × (l.kept ≡ record { n = l.n; d = l.d; tables = l.tables })
