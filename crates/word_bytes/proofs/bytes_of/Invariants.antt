-- `word_bytes::bytes_of` meets its contract. The invariant: the bytes of the words passed are written.
use mathlib.Core.Path.{◌≡◌}
use mathlib.Core.List.{◌++◌}
use Prim.Native.Nat.{◌*◌}
use lib.ListN.{length, take, drop}
use Rattle.word_bytes.specs.Bytes.{bytes_of}
use Rattle.word_bytes.proofs.bytes_of.Given as goal

abbrev pub invariant-loop-i : goal.invariant-loop-i
invariant-loop-i l = (length l.bytes ≡ length l.initial.bytes) × (l.bytes ≡ take (2 * l.i) (bytes_of l.words) ++ drop (2 * l.i) l.initial.bytes)
