-- `rules::same_marks` meets its contract. The invariant: the marked variables before the next one have the same words.
use Rattle.search.proofs.rules.Alike.{alike_end}
use Rattle.search.proofs.rules.same_marks.Goals as goal

pub returns : goal.returns
returns c =
    λ e. let k = c.requires in alike_end _ _ _ _ _ _ k.1.0 k.1.1
    c.marked_at-marked.ensures c.marked_at.ensures
    c.if-marked-marked_at.false c.loop-i-test.false c.loop-i.invariant
