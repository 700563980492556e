-- `splits::refusal::refusal_of_targets` meets its contract. The invariant: no target passed is bad, and whether all are their domains.
use mathlib.Core.Path.{◌≡◌}
use native.Mathlib.Omega.{arith}
use Rattle.splits.proofs.refusal.Refusals.{ten_past, ten_at, passed_none, passed_same, passed_other, passed_all}
use borrow.Author.Rules.{rules}
use Rattle.splits.proofs.refusal.refusal_of_targets.Goals.{then-target-domain, else-target-domain}
use Rattle.splits.proofs.refusal.refusal_of_targets.Goals as goal

pub returns-then-n-gt32 : goal.returns-then-n-gt32
returns-then-n-gt32 c = ten_past _ _ _ (search rules) c.if-n-gt32.true

pub loop-i-init : goal.loop-i-init
loop-i-init c = passed_none _ _

pub returns-then-is_target_bad : goal.returns-then-is_target_bad
returns-then-is_target_bad c =
    ten_at _ _ _ _ _ _ _ c.loop-i-test.true c.target-target.ensures
    c.domain-domain.ensures c.is_target_bad.ensures c.if-is_target_bad.true

pub loop-i-preserved : goal.loop-i-preserved
loop-i-preserved c =
    let inv = c.loop-i.invariant in
    let target = c.target-target.ensures in
    let domain = c.domain-domain.ensures in
    let tested = c.is_target_bad.ensures in
    let good = c.if-is_target_bad.false in
    elim c.if-target-domain.branch [
      | then-target-domain w ↦ passed_other _ _ _ _ _ _ _ _ inv target domain tested good w.if-target-domain.true w.all_same-is
      | else-target-domain w ↦ passed_same _ _ _ _ _ _ _ _ inv target domain tested good w.if-target-domain.false w.all_same-is
    ]

pub returns-then-all_same : goal.returns-then-all_same
returns-then-all_same c =
    let end : c.loop-i.i ≡ c.args.n = omega (arith, c.loop-i.auto.i-end) in
    rw c.if-all_same.true at (passed_all _ _ _ _ _ c.loop-i.invariant end)

pub returns : goal.returns
returns c =
    let end : c.loop-i.i ≡ c.args.n = omega (arith, c.loop-i.auto.i-end) in
    rw c.if-all_same.false at (passed_all _ _ _ _ _ c.loop-i.invariant end)
