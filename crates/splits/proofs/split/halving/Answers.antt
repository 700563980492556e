-- `split::halving` meets its contract.
use borrow.Author.Tests.{lt-ltb}
use Rattle.splits.proofs.split.Places.{halved_first, halved_rest}
use Rattle.splits.proofs.split.halving.Goals as goal

pub returns-then-k-ne0 : goal.returns-then-k-ne0
returns-then-k-ne0 c =
    rw (← c.variable-variable.ensures, lt-ltb _ _ c.if-n-variable.false)
    (halved_rest _ _ _ _ _ _ c.domain.ensures c.smaller_half-half.ensures c.if-k-ne0.true
    c.without.ensures)

pub returns : goal.returns
returns c =
    rw (← c.variable-variable.ensures, lt-ltb _ _ c.if-n-variable.false)
    (halved_first _ _ _ _ _ _ c.domain.ensures c.smaller_half-half.ensures c.if-k-ne0.false
    c.cut.ensures)
