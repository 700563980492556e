-- `writing::Filled::put_each` meets its contract. The invariant: the blocks passed are written.
use mathlib.Core.Path.{◌≡◌}
use Rattle.blocks.specs.Loops.Written.{file_part}
use Rattle.blocks.proofs.writing.Filled.put_each.Given as goal

abbrev pub invariant-loop-b : goal.invariant-loop-b
invariant-loop-b l = l.file ≡ file_part l.self.blocks l.self.words.now l.b l.initial.file
