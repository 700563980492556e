-- `word_bytes::zeros` meets its contract. The invariant: the bits are none if the bytes passed are 0.
use Rattle.word_bytes.proofs.Zero.{ZerosTo}
use Rattle.word_bytes.proofs.zeros.Given as goal

abbrev pub invariant-loop-byte : goal.invariant-loop-byte
invariant-loop-byte l = ZerosTo l.bytes l.byte-index l.bits
