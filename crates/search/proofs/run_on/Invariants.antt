-- `search::run_on` meets its contract. The invariant: the run from here on is the whole run.
use Rattle.search.proofs.Running.{Going}
use Rattle.search.proofs.run_on.Given as goal

abbrev pub invariant-loop-taken : goal.invariant-loop-taken
invariant-loop-taken l = Going l.n l.d l.tables l.requests l.initial.agenda l.initial.state l.agenda l.state l.taken
