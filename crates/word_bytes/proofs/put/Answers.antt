-- `word_bytes::put` meets its contract. The invariant: the words passed stand at the front.
use mathlib.Core.Path.{◌≡◌, ◌∙◌}
use native.Mathlib.Nat.{max-eq_left}
use Prim.Native.Nat.{◌≤◌, ◌/◌}
use lib.ListN.{length, length-set}
use native.Mathlib.Omega.{arith}
use Rattle.word_bytes.proofs.Words.{word_more, put_end}
use Rattle.word_bytes.proofs.put.Goals as goal

pub loop-i-preserved : goal.loop-i-preserved
loop-i-preserved c =
    let inv = c.loop-i.invariant in
    (simp length-set inv.0, word_more _ _ _ _ _ inv.1 c.word.ensures (omega arith) (omega arith))

pub returns : goal.returns
returns c =
    let inv = c.loop-i.invariant in
    let some : 1 ≤ length c.args.bytes.now / 2 = omega (arith, c.requires.some, c.requires.even) in
    let whole : c.max-count.result ≡ length c.args.bytes.now / 2 = c.max-count.ensures ∙ max-eq_left some in
    record {
      left = put_end _ _ _ _ inv.1 (rw whole at c.loop-i.auto.i-end) (rw whole at c.loop-i-test.false);
      count = whole;
      lent = record { long = inv.0; room = omega (arith, whole, c.requires.few) };
    }
