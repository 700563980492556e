-- `reading::put_each` meets its contract. The invariant: the blocks passed are read.
use mathlib.Core.Path.{◌≡◌}
use Rattle.blocks.specs.Loops.Read.{content_part}
use Rattle.blocks.proofs.reading.put_each.Given as goal

abbrev pub invariant-loop-b : goal.invariant-loop-b
invariant-loop-b l = l.words ≡ content_part l.file l.b l.initial.words
