-- `Around::look` meets its contract.
use mathlib.Core.Path.{refl}
use native.Mathlib.Omega.{arith}
use Rattle.problem.specs.Lists.{below, keep, some}
use Rattle.splits.specs.Splits.{forbidden}
use Rattle.splits.proofs.checks.Counting.{other_looked, own_passed, look_more, look_skip, look_stop, look_end}
use Rattle.splits.proofs.around.Around.look.Goals.{then-i-self+then-is_instantiated+else-is_forbidden_by, else-i-self, else-i-self-via-then-i-self+else-is_instantiated, else-i-self-via-else-i-self}
use Rattle.splits.proofs.around.Around.look.Goals as goal

pub loop-i-init : goal.loop-i-init
unfolding forbidden some below keep
loop-i-init c = (omega arith, (record { passed = refl; none = refl }, refl))

pub loop-i-preserved : goal.loop-i-preserved
loop-i-preserved c =
    let inv = c.loop-i.invariant.1.0 in
    elim c.if-i-self.branch [
      | then-i-self+then-is_instantiated+else-is_forbidden_by w ↦ (
        omega (arith, w.count-is),
        (
          rw w.count-is
              (look_more _ _ _ inv _ _ (other_looked _ _ _ _ w.if-i-self.true w.is_instantiated.ensures)
              w.if-is_instantiated.true w.is_forbidden_by.ensures w.if-is_forbidden_by.false),
          c.loop-i.invariant.1.1,
        ),
      )
      | else-i-self w ↦ (
        omega (arith, w.count-is),
        (
          rw w.count-is (elim w.else-i-self.branch [
            | else-i-self-via-then-i-self+else-is_instantiated v ↦
                look_skip _ _ _ inv _ (other_looked _ _ _ _ v.if-i-self.true v.is_instantiated.ensures) v.if-is_instantiated.false
            | else-i-self-via-else-i-self v ↦ look_skip _ _ _ inv _ (own_passed _ _ _ v.if-i-self.false) refl
          ]),
          c.loop-i.invariant.1.1,
        ),
      )
    ]

pub returns-after-loop-i : goal.returns-after-loop-i
returns-after-loop-i c = look_end _ _ _ c.loop-i.invariant.1.0 _ c.loop-i.auto.i-end c.loop-i-test.false c.loop-i.invariant.1.1

pub returns-then-is_forbidden_by : goal.returns-then-is_forbidden_by
returns-then-is_forbidden_by c =
    look_stop _ _ _ c.loop-i.invariant.1.0 _ _
    c.loop-i-test.true
    (other_looked _ _ _ _ c.if-i-self.true c.is_instantiated.ensures)
    c.if-is_instantiated.true c.is_forbidden_by.ensures c.if-is_forbidden_by.true
