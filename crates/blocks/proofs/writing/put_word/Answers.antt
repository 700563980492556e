-- `writing::put_word` meets its contract.
use mathlib.Core.Path.{◌≡◌, ◌∙◌}
use Prim.Native.Nat.{◌/◌, ◌%◌}
use native.Mathlib.Omega.{arith}
use Rattle.blocks.proofs.writing.Written.{two_put}
use Rattle.blocks.proofs.writing.put_word.Goals as goal

pub returns : goal.returns
returns c =
    let high : c.args.word / 256 % 256 ≡ c.args.word / 256 = omega arith in
    two_put _ _ _ _ _ c.requires.1 (c.copy_from_slice.ensures.after ∙ rw high at c.to_be_bytes.ensures)
