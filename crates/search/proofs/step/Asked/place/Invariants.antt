-- `Asked::place` meets its contract. The invariant: the candidates from k on are placed.
use Rattle.search.proofs.step.Gathering.{Gathered}
use Rattle.search.proofs.step.Asked.place.Given as goal

abbrev pub invariant-loop-k : goal.invariant-loop-k
invariant-loop-k l = let s = l.self in Gathered s.n s.d s.tables.now s.top s.request.now l.initial.agenda l.from l.agenda l.at l.k
