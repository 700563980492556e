-- `checksum::whole` meets its contract.
use mathlib.Core.Path.{ap, ap₂, ◌∙◌}
use mathlib.Core.List.{◌++◌}
use Prim.Native.Nat.{ℕ, ◌-◌}
use lib.ListN.{take, replicate}
use Rattle.std.proofs.lemmas.List.{drop-replicate}
use Rattle.blocks.proofs.checksum.whole.Goals as goal

pub returns : goal.returns
returns c =
    ap₂ ◌++◌ (c.copy_from_slice.ensures.after ∙ ap (λ (k : ℕ). take k c.args.block.now) c.min-count.ensures)
    (drop-replicate _ 512 0 ∙ ap (λ (k : ℕ). replicate (512 - k) 0) c.min-count.ensures)
