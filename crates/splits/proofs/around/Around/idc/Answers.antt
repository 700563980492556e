-- `Around::idc` meets its contract.
use lib.ListN.{get_or}
use mir.Syntax.{w16}
use mir.Val.{Fits}
use Rattle.splits.proofs.split.Places.{its_only, its_row, inferred_first, inferred_none, inferred_later}
use borrow.Author.Rules.{rules}
use Rattle.splits.proofs.around.Around.idc.Goals as goal

pub returns-then-k-eq0 : goal.returns-then-k-eq0
returns-then-k-eq0 c =
    inferred_first _ _ _ _ _ _ _ _ c.args.self.now.fits _ c.row-row.ensures (search rules)
    (λ i l. let h : Fits w16 (get_or c.args.self.now.top.domains i 0) = search rules in h.fits) c.precluded.ensures c.if-k-eq0.true

pub returns-then-j-self : goal.returns-then-j-self
returns-then-j-self c =
    inferred_none _ _ _ _ _ _ _ c.if-k-eq0.false c.if-j-self.true c.cut.ensures

pub returns : goal.returns
returns c =
    let p = c.args.self.now.fits in
    inferred_later _ _ _ _ _ _ _ c.if-k-eq0.false p.fit.few c.requires c.if-j-self.false _ (its_row _ _ _ c.args.self.now.top _ _ 0 c.args.self.now.top p _ c.row-row.ensures)
    _ (its_only _ _ _ _ _ _ p c.only.ensures) _ c.without.ensures _ c.cut_before.ensures c.without-2.ensures
