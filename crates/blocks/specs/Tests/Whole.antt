-- Whether a file deserves 14, worked out: Refused14 and RefusedNone of Promises say exactly what it gives.
use Rattle.std.specs.Prelude.{Bool, cond, ◌&&◌, List, ℕ, ◌+◌, ◌*◌, length, eqb, leb}
use Rattle.problem.specs.Lists.{every}
use Rattle.blocks.specs.Blocks.{check_of}
use Rattle.blocks.specs.Reading.{blocks_in, block_word, head_of}

-- Block b has its number, the number of blocks and its check.
unfoldable pub good_block : List ℕ → ℕ → Bool
good_block file b =
    eqb (block_word file b 0) (b + 1) && eqb (block_word file b 1) (blocks_in file) && eqb (block_word file b 255) (check_of (head_of file b))

-- 14, or 0 for none.
unfoldable pub refusal_of_file : List ℕ → ℕ
refusal_of_file file =
    cond (eqb (length file) (blocks_in file * 512) && leb 1 (blocks_in file) && leb (blocks_in file) 101 && every (blocks_in file) (good_block file)) 0 14
