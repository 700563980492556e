-- `console::parts::run_parts` meets its contract. The invariant: whatever is run of what the parts so far left is run after them.
use Prim.Native.Nat.{◌-◌}
use lib.ListN.{length}
use Rattle.console.proofs.parts.SoFar.{Going}
use Rattle.console.proofs.parts.run_parts.Given as goal

abbrev pub invariant-loop-at : goal.invariant-loop-at
invariant-loop-at l = Going l.run.n l.run.d l.run.domains.now l.run.tables.now l.initial.agenda l.run.requests.now l.run.state l.agenda l.state l.at l.taken

abbrev pub decreases-loop-at : goal.decreases-loop-at
decreases-loop-at l = length l.run.requests.now - l.at
