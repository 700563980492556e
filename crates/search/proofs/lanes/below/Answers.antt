-- `search::lanes::below` meets its contract.
use Prim.Native.Nat.{ℕ}
use lib.ListN.{replicate}
use lib.Seq.{length-take-le}
use Rattle.search.proofs.lanes.Halves.{below_is}
use Rattle.search.proofs.lanes.below.Goals as goal

pub returns : goal.returns
returns c = rw (c.fill.ensures.after (λ y e. e), length-take-le {A = ℕ} c.args.n (replicate 32 0) c.requires) (below_is _ c.requires)
