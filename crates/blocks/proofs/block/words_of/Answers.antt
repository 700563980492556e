-- `block::words_of` meets its contract. The invariant: the words passed are read, and zeros follow.
use mathlib.Core.Path.{◌≡◌, refl, ◌∙◌}
use Prim.Native.Nat.{ℕ}
use native.Mathlib.Omega.{arith}
use lib.ListN.{length, replicate, length-replicate}
use Rattle.blocks.proofs.block.Places.{word_in}
use Rattle.blocks.proofs.block.Fronts.{front_none, front_more}
use Rattle.blocks.proofs.block.words_of.Goals as goal

pub loop-k-init : goal.loop-k-init
loop-k-init c = front_none _ _

pub loop-k-preserved : goal.loop-k-preserved
loop-k-preserved c =
    let long : length {A = ℕ} (replicate 256 0) ≡ 256 = length-replicate {A = ℕ} 256 0 in
    front_more _ _ _ _ _ c.loop-k.invariant (c.from_be_bytes.ensures ∙ word_in _ _ _ _ refl refl) (omega arith)
