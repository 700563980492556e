-- `Tables::are_below` meets its contract: of 16 values no word has a bit too many.
use Rattle.std.proofs.Common.{refl, sym, ◌∙◌, arith, rules, tests}
use Rattle.std.proofs.lemmas.Iterator.{YieldsList-from_range}
use Rattle.std.proofs.lemmas.Iterator.Search.{all_from_yields_List}
use borrow.Author.Tests.{eq-eqb}
use Rattle.problem.specs.Loops.Tables.{allowed}
use Rattle.problem.specs.Loops.FirstTests.{row_below}
use Rattle.problem.proofs.FirstLoops.{every_range}
use Rattle.problem.proofs.symmetry.Pairs.{words_below}
use Rattle.problem.proofs.tables.Tables.are_below.Goals as goal

pub returns-then-self-eq16 : goal.returns-then-self-eq16
returns-then-self-eq16 c =
    let t = c.args.self.now in
    eq-eqb _ _ c.if-self-eq16.true ∙ sym (words_below _ _ _ c.if-self-eq16.true t.masks)

pub returns-else-self-eq16 : goal.returns-else-self-eq16
returns-else-self-eq16 c =
    let t = c.args.self.now in
    all_from_yields_List (row_below t.n t.d (allowed t)) _ _ _ c.all.ensures.ran
    (YieldsList-from_range 0 t.n t.n refl (omega arith)) (λ x b q k. search (rules, tests))
    ∙ every_range _ _
