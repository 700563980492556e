-- `rules::marks_obey` meets its contract: the loop's invariant: every variable before the next instantiated one is as it must be.
use mathlib.Core.Bool.{not}
use mathlib.Core.Path.{refl, ap, ◌∙◌}
use native.Mathlib.Omega.{arith}
use borrow.Author.Tests.{eq-eqb, ne_eqb}
use Rattle.problem.proofs.FirstLoops.{every_start, every_stop, every_turn}
use Rattle.search.specs.Loops.Lanes.{Numbers}
use Rattle.search.proofs.rules.Marked.{every_past, marks_next, mark_read}
use Rattle.search.proofs.rules.marks_obey.Goals as goal

pub loop-i-init : goal.loop-i-init
loop-i-init c = (marks_next _ _ _ _ _ _ c.requires.marks (every_start _) c.next_in-i.ensures, (c.next_in-i.ensures.there, refl))

pub returns-then-missing-ne0 : goal.returns-then-missing-ne0
returns-then-missing-ne0 c =
    let p = c.requires in
    let inv = c.loop-i.invariant in
    let same = ap (λ (k : Numbers). k.n) c.kept.view_is in
    let below = rw same at c.loop-i-test.true in (
      every_stop _ _ _ _ below
          (mark_read _ _ _ _ _ _ _ _ _ _ p below
          (inv.1.0 (omega (arith, p.sized.few)))
          (rw same at c.held_of-held.ensures)
          c.lowest.ensures (rw inv.1.1 at c.row-row.ensures.0) c.missing.ensures)
          (ap not (ne_eqb _ _ c.if-missing-ne0.true)),
      c.row-row.ensures.1 ∙ inv.1.1,
    )

pub loop-i-preserved : goal.loop-i-preserved
loop-i-preserved c =
    let p = c.requires in
    let inv = c.loop-i.invariant in
    let same = ap (λ (k : Numbers). k.n) c.kept.view_is in
    let below = rw same at c.loop-i-test.true in (
      marks_next _ _ _ _ _ _ p.marks
          (every_turn _ _ _ inv.0
          (mark_read _ _ _ _ _ _ _ _ _ _ p below
          (inv.1.0 (omega (arith, p.sized.few)))
          (rw same at c.held_of-held.ensures)
          c.lowest.ensures (rw inv.1.1 at c.row-row.ensures.0) c.missing.ensures)
          (ap not (eq-eqb _ _ c.if-missing-ne0.false)))
          c.next_in-i-in-loop-i.ensures,
      (
        c.next_in-i-in-loop-i.ensures.there,
        c.row-row.ensures.1 ∙ inv.1.1,
      ),
    )

pub returns : goal.returns
returns c =
    let same = ap (λ (k : Numbers). k.n) c.kept.view_is in
    (every_past _ _ _ (rw same at c.loop-i-test.false) c.loop-i.invariant.0, c.loop-i.invariant.1.1)
