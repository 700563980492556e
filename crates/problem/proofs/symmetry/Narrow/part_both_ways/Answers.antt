-- `Narrow::part_both_ways` meets its contract: the loop's invariant: what is allowed one way only of every pair passed is together.
use Rattle.problem.proofs.first_checks.Joining.{joined_none, joined_more, joined_end}
use Rattle.problem.proofs.symmetry.Pairs.{row_found}
use Rattle.problem.proofs.symmetry.Narrow.part_both_ways.Goals as goal

pub loop-j-init : goal.loop-j-init
loop-j-init c = joined_none _

pub loop-j-preserved : goal.loop-j-preserved
loop-j-preserved c = joined_more _ _ _ _ c.loop-j.invariant c.one_way-bits.ensures

pub returns : goal.returns
returns c =
    let t = c.args.self.now in
    row_found _ _ _ t.tables.fit t.below _ _ c.requires
    (joined_end _ _ _ _ c.loop-j.auto.j-end c.loop-j-test.false c.loop-j.invariant)
