-- `Around::backtracking` meets its contract.
use Rattle.splits.proofs.split.Places.{backtracked_none, backtracked_first, backtracked_rest, its_only}
use Rattle.splits.proofs.around.Around.backtracking.Goals as goal

pub returns-then-k-ne0 : goal.returns-then-k-ne0
returns-then-k-ne0 c = backtracked_rest _ _ _ _ _ _ _ c.if-k-ne0.true _
    (its_only _ _ _ _ _ _ c.args.self.now.fits c.only.ensures) c.without.ensures

pub returns-then-look : goal.returns-then-look
returns-then-look c =
    backtracked_none _ _ _ _ _ _ _ _ c.args.self.now.fits c.if-k-ne0.false _
    c.look.ensures.met c.if-look.true c.cut.ensures

pub returns : goal.returns
returns c =
    backtracked_first _ _ _ _ _ _ _ _ c.args.self.now.fits c.if-k-ne0.false _
    c.look.ensures.met c.if-look.false c.instantiate.ensures
