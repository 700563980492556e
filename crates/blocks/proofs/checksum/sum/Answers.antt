-- `checksum::sum` meets its contract. The invariant: the words passed are summed, each at most 65535.
use mathlib.Core.Path.{◌∙◌}
use native.Mathlib.Omega.{arith}
use lib.Seq.{length-take-le, get_or-take}
use Rattle.problem.proofs.Products.{total_turn}
use Rattle.blocks.proofs.block.Places.{total_none, total_end, value_of}
use Rattle.blocks.proofs.checksum.sum.Goals as goal

pub slice_bounds-word-items-end : goal.slice_bounds-word-items-end
slice_bounds-word-items-end c = omega (arith, length-take-le 255 c.args.words.now (omega arith))

pub loop-word-init : goal.loop-word-init
loop-word-init c = (total_none _, omega arith)

pub offset_bounds-word-items-word-index : goal.offset_bounds-word-items-word-index
offset_bounds-word-items-word-index c = omega (arith, length-take-le 255 c.args.words.now (omega arith))

pub overflow_add-sum : goal.overflow_add-sum
overflow_add-sum c =
    let long = length-take-le 255 c.args.words.now (omega arith) in
    let word = c.from-sum.ensures ∙ get_or-take 255 c.args.words.now c.loop-word.word-index 0 (omega arith) in
    omega (arith, c.fits-words c.loop-word.word-index)

pub loop-word-preserved : goal.loop-word-preserved
loop-word-preserved c =
    let long = length-take-le 255 c.args.words.now (omega arith) in
    let word = c.from-sum.ensures ∙ get_or-take 255 c.args.words.now c.loop-word.word-index 0 (omega arith) in
    (total_turn _ _ _ _ c.loop-word.invariant.0 (value_of _ _ _ word), omega (arith, c.fits-words c.loop-word.word-index))

pub returns : goal.returns
returns c = total_end _ _ _ _ c.loop-word.invariant.0 (omega (arith, length-take-le 255 c.args.words.now (omega arith)))
