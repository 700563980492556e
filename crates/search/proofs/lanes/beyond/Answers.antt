-- `search::lanes::beyond` meets its contract.
use mathlib.Core.Path.{sym, subst}
use Prim.Native.Nat.{ℕ, ◌-◌}
use Rattle.problem.proofs.mask.Masks.{shifted}
use Rattle.search.specs.Loops.Lanes.{Beyond}
use Rattle.search.proofs.lanes.Halves.{beyond_is}
use Rattle.search.proofs.lanes.beyond.Goals as goal

pub returns : goal.returns
returns c = subst (λ (x : ℕ). Beyond c.args.i (4294967296 - x)) (sym (shifted _ c.requires)) (beyond_is _ c.requires)
