-- `word_bytes::put` meets its contract. The invariant: the words passed stand at the front.
use mathlib.Core.Path.{◌≡◌}
use mathlib.Core.List.{◌++◌}
use lib.ListN.{length, take, drop}
use Rattle.word_bytes.specs.Bytes.{words_of}
use Rattle.word_bytes.proofs.put.Given as goal

abbrev pub invariant-loop-i : goal.invariant-loop-i
invariant-loop-i l = (length l.words ≡ length l.initial.words) × (l.words ≡ take l.i (words_of l.bytes) ++ drop l.i l.initial.words)
