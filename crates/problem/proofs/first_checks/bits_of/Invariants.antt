-- `first_checks::bits_of` meets its contract: the loop's invariant: the bits of the words passed are together.
use mathlib.Core.Path.{◌≡◌}
use Rattle.problem.specs.Lists.{row_in, joined}
use Rattle.problem.proofs.first_checks.bits_of.Given as goal

abbrev pub invariant-loop-word : goal.invariant-loop-word
invariant-loop-word l = l.bits ≡ joined l.word-index (row_in l.words)
