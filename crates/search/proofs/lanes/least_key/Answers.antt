-- `search::lanes::least_key` meets its contract. The invariant: the best is the least of the keys of the first i and of the i from 16 on.
use native.Mathlib.Omega.{arith}
use Rattle.search.proofs.lanes.AtOnce.{least_more}
use Rattle.search.proofs.lanes.Halves.{key_in}
use Rattle.search.proofs.lanes.least_key.Goals as goal

pub loop-i-preserved : goal.loop-i-preserved
loop-i-preserved c =
    least_more _ _ _ _ _ _ _ _ c.loop-i-test.true c.loop-i.invariant
    (key_in _ _ _ _ _ c.half-low.ensures c.loop-i-test.true _ (omega arith) _ c.key.ensures)
    (key_in _ _ _ _ _ c.half-high.ensures c.loop-i-test.true _ (omega arith) _ c.key-in-loop-i.ensures)
    c.min-best.ensures c.min-best-in-loop-i.ensures
