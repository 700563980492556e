-- `word_bytes::zeros` meets its contract. The invariant: the bits are none if the bytes passed are 0.
use native.Mathlib.Omega.{arith}
use Rattle.word_bytes.proofs.Zero.{zeros_none, zeros_more, zeros_all}
use Rattle.word_bytes.proofs.zeros.Goals as goal

pub loop-byte-init : goal.loop-byte-init
loop-byte-init c = zeros_none _

pub loop-byte-preserved : goal.loop-byte-preserved
loop-byte-preserved c = zeros_more _ _ _ c.loop-byte.invariant

pub returns : goal.returns
returns c = zeros_all _ _ _ (omega arith) (omega arith) c.loop-byte.invariant
