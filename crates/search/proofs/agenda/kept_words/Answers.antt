-- `search::agenda::kept_words` meets its contract. The invariant: the first i words are kept.
use native.Mathlib.Omega.{arith}
use Rattle.search.proofs.lanes.Halves.{kept_is, kept_more}
use Rattle.search.proofs.agenda.kept_words.Goals as goal

pub loop-i-preserved : goal.loop-i-preserved
loop-i-preserved c = kept_more _ _ _ _ _ c.loop-i.invariant (omega arith) (kept_is _ _ (omega (arith, c.type_inv.words c.loop-i.i)))
