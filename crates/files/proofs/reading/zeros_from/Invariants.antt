-- `reading::zeros_from` meets its contract. The invariant: the words passed are zero.
use mathlib.Core.Path.{◌≡◌}
use mathlib.Core.Bool.{true}
use Rattle.problem.specs.Lists.{every}
use Rattle.files.specs.Loops.Said.{zero_in}
use Rattle.files.proofs.reading.zeros_from.Given as goal

abbrev pub invariant-loop-k : goal.invariant-loop-k
invariant-loop-k l = every l.k (zero_in l.file l.from) ≡ true
