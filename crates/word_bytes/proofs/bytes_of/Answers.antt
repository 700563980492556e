-- `word_bytes::bytes_of` meets its contract. The invariant: the bytes of the words passed are written.
use mathlib.Core.List.{List}
use mathlib.Core.Path.{◌≡◌, ap, ◌∙◌}
use Prim.Native.Nat.{ℕ, ◌/◌, ◌%◌}
use native.Mathlib.Omega.{arith}
use lib.ListN.{length-set, get_or}
use Rattle.word_bytes.proofs.Words.{bytes_more, bytes_end}
use Rattle.word_bytes.proofs.bytes_of.Goals as goal

pub loop-i-preserved : goal.loop-i-preserved
loop-i-preserved c =
    let inv = c.loop-i.invariant in
    let word = get_or c.args.words.now c.loop-i.i 0 in
    let high : word / 256 % 256 ≡ word / 256 = omega (arith, c.type_inv.words c.loop-i.i) in
    (simp length-set inv.0, bytes_more _ _ _ _ _ _ inv.1 (ap (λ (l : List ℕ). get_or l 0 0) c.to_le_bytes-pair.ensures) (ap (λ (l : List ℕ). get_or l 1 0) c.to_le_bytes-pair.ensures ∙ high) (omega arith) (omega arith))

pub returns : goal.returns
returns c = bytes_end _ _ _ _ _ c.loop-i.invariant.1 (omega arith) c.loop-i.auto.i-end c.loop-i-test.false
