-- `reading::all_good` meets its contract.
use Rattle.std.proofs.Common.{refl, ◌∙◌, arith, rules, tests}
use Rattle.std.proofs.lemmas.Iterator.{YieldsList-from_range}
use Rattle.std.proofs.lemmas.Iterator.Search.{all_from_yields_List}
use Rattle.problem.proofs.FirstLoops.{every_range}
use Rattle.blocks.specs.Tests.Whole.{good_block}
use Rattle.blocks.proofs.reading.Found.{range_below, good_part}
use Rattle.blocks.proofs.reading.all_good.Goals as goal

pub returns : goal.returns
returns c =
    let a = c.args in
    all_from_yields_List (good_block a.file.now) _ _ _ c.all.ensures.ran
    (YieldsList-from_range 0 _ a.blocks (range_below _ refl) (omega arith)) (λ x b q k. search (rules, tests, good_part))
    ∙ every_range _ _
