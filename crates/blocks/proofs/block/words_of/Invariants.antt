-- `block::words_of` meets its contract. The invariant: the words passed are exchanged, and zeros follow.
use mathlib.Core.Path.{◌≡◌}
use mathlib.Core.List.{◌++◌, map}
use lib.ListN.{drop, replicate}
use Rattle.problem.specs.Lists.{below}
use Rattle.blocks.specs.Reading.{block_word}
use Rattle.blocks.proofs.block.words_of.Given as goal

abbrev pub invariant-loop-k : goal.invariant-loop-k
invariant-loop-k l = l.words ≡ map (block_word l.block 0) (below l.k) ++ drop l.k (replicate 256 0)
