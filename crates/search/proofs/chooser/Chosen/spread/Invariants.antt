-- `Chosen::spread` meets its contract. The invariant: the pieces of the variables from j on are placed.
use Prim.Native.Nat.{◌+◌}
use Rattle.searches.specs.Chooser.{request}
use Rattle.search.proofs.step.Gathering.{Gathered}
use Rattle.search.specs.Loops.Found.{value_in}
use Rattle.search.proofs.chooser.Chosen.spread.Given as goal

abbrev pub invariant-loop-j : goal.invariant-loop-j
invariant-loop-j l =
    let s = l.self in
    Gathered s.n s.d s.tables.now s.top (request 3 s.choice.variable (value_in s.top s.choice)) l.initial.agenda l.slot l.agenda l.at (l.j + 1)
