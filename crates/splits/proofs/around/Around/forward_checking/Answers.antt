-- `Around::forward_checking` meets its contract.
use lib.ListN.{get_or}
use mir.Syntax.{w16}
use mir.Val.{Fits}
use borrow.Author.Rules.{rules}
use Rattle.splits.proofs.split.Places.{its_only, checked_first, checked_rest}
use Rattle.splits.proofs.around.Around.forward_checking.Goals as goal

pub returns-then-k-ne0 : goal.returns-then-k-ne0
returns-then-k-ne0 c =
    checked_rest _ _ _ _ _ _ _ c.if-k-ne0.true _ (its_only _ _ _ _ _ _ c.args.self.now.fits c.only.ensures)
    c.without.ensures

pub returns : goal.returns
returns c =
    checked_first _ _ _ _ _ _ _ _ c.args.self.now.fits _ c.row.ensures (search rules)
    (λ i l. let h : Fits w16 (get_or c.args.self.now.top.domains i 0) = search rules in h.fits) c.precluded.ensures
    c.if-k-ne0.false
