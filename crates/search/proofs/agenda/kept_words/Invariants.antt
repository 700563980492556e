-- `search::agenda::kept_words` meets its contract. The invariant: the first i words are kept.
use Rattle.search.specs.Loops.Lanes.{KeptTo}
use Rattle.search.proofs.agenda.kept_words.Given as goal

abbrev pub invariant-loop-i : goal.invariant-loop-i
invariant-loop-i l = KeptTo l.lanes l.words l.i l.domains
