-- `Narrow::both_ways` meets its contract.
use Rattle.std.proofs.Common.{refl, ◌∙◌, arith, rules, tests}
use Rattle.std.proofs.lemmas.Iterator.{YieldsList-from_range}
use Rattle.std.proofs.lemmas.Iterator.Search.{all_from_yields_List}
use Rattle.problem.specs.Loops.Tables.{allowed}
use Rattle.problem.specs.Loops.FirstTests.{row_both_ways}
use Rattle.problem.proofs.FirstLoops.{every_range}
use Rattle.problem.proofs.symmetry.Narrow.both_ways.Goals as goal

pub returns : goal.returns
returns c =
    let t = c.args.self.now.tables in
    all_from_yields_List (row_both_ways t.d (allowed t)) _ _ _ c.all.ensures.ran (YieldsList-from_range 0 t.n t.n refl (omega arith))
    (λ x b q k. search (rules, tests))
    ∙ every_range _ _
