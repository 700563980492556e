-- `checksum::sum` meets its contract. The invariant: the words passed are summed, each at most 65535.
use mathlib.Core.Path.{◌≡◌}
use Prim.Native.Nat.{◌*◌, ◌≤◌}
use Rattle.problem.specs.Lists.{total}
use Rattle.blocks.specs.Loops.Read.{value_at}
use Rattle.blocks.proofs.checksum.sum.Given as goal

abbrev pub invariant-loop-word : goal.invariant-loop-word
invariant-loop-word l = (l.sum ≡ total l.word-index (value_at l.words)) × (l.sum ≤ l.word-index * 65535)
