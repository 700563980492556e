-- `writing::Filled::put_head` meets its contract. The invariant: the words passed are written.
use mathlib.Core.Path.{◌≡◌}
use Rattle.blocks.specs.Loops.Written.{block_part}
use Rattle.blocks.proofs.writing.Filled.put_head.Given as goal

abbrev pub invariant-loop-k : goal.invariant-loop-k
invariant-loop-k l = l.block ≡ block_part l.self.blocks l.self.words.now l.b l.k l.initial.block
