-- `subproblem::Subproblem::cut_each` meets its contract. The invariant: the first i domains are cut.
use mathlib.Core.Path.{◌≡◌, ◌∙◌}
use native.Mathlib.Omega.{arith}
use Rattle.splits.proofs.subproblem.Rows.{cut_none, cut_more, cut_all}
use Rattle.splits.proofs.subproblem.Subproblem.cut_each.Goals as goal

pub loop-i-init : goal.loop-i-init
loop-i-init c = cut_none _ _

pub loop-i-preserved : goal.loop-i-preserved
loop-i-preserved c = cut_more _ _ _ _ c.loop-i.invariant

pub returns : goal.returns
returns c = let end : c.loop-i.i ≡ 32 = omega arith in rw end at c.loop-i.invariant ∙ cut_all _ _
