-- `Asked::piece_count` meets its contract. The invariant: the count is of the first k candidates.
use mathlib.Core.Path.{◌≡◌, ap, ◌∙◌}
use mathlib.Core.Bool.{not}
use native.Mathlib.Omega.{arith}
use lib.ListN.{length}
use Rattle.search.proofs.step.Candidates.{firsts}
use Rattle.search.proofs.step.Gathering.{count_more, count_same, count_end}
use borrow.Author.Rules.{rules}
use Rattle.search.proofs.step.Asked.piece_count.Goals.{then-not-is_empty, else-not-is_empty}
use Rattle.search.proofs.step.Asked.piece_count.Goals as goal

pub loop-k-init : goal.loop-k-init
unfolding firsts
loop-k-init c = (omega arith, omega arith)

pub loop-k-preserved : goal.loop-k-preserved
loop-k-preserved c =
    let inv = c.loop-k.invariant in
    let pre = c.args.self.now.reads in
    let named = c.candidates-candidates.ensures in
    let more = c.loop-k-test.true in
    let piece = c.piece-piece.ensures in
    let told = c.is_empty.ensures in
    elim c.if-not-is_empty.branch [
      | then-not-is_empty w ↦ (
        omega (arith, w.count-is),
        w.count-is ∙ count_more _ _ _ _ _ pre _ _ _ _ _ named more piece inv.1 told (ap not w.if-not-is_empty.true),
      )
      | else-not-is_empty w ↦ (
        omega (arith, w.count-is),
        w.count-is ∙ count_same _ _ _ _ _ pre _ _ _ _ _ named more piece inv.1 told (ap not w.if-not-is_empty.false),
      )
    ]

pub returns : goal.returns
returns c =
    let inv = c.loop-k.invariant in
    let long : length c.args.self.now.top.domains ≡ 32 = search rules in
    count_end _ _ _ _ _ c.args.self.now.reads _ _ _ long c.candidates-candidates.ensures c.loop-k.auto.k-end c.loop-k-test.false inv.1
