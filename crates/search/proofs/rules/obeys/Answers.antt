-- `rules::obeys` meets its contract: the marks, the domains together, then the instantiated variables, unless these are known.
use mathlib.Core.Path.{refl, sym, ◌∙◌}
use Rattle.search.proofs.rules.Marked.{slot_marks, marks_in, slot_over, slot_wrong, slot_values, slot_marked, problem_parts}
use Rattle.search.proofs.rules.obeys.Goals.{then-n-marked-via-then-n-marked, then-n-marked-via-else-n-marked+then-wrong_with-ne0}
use Rattle.search.proofs.rules.obeys.Goals as goal

pub returns-then-n-marked : goal.returns-then-n-marked
returns-then-n-marked c =
    let a = c.kept.inside in
    let k = rw (← c.kept.view_is) at c.requires in (
      rw (← c.kept.view_is)
          (elim c.then-n-marked.branch [
            | then-n-marked-via-then-n-marked w ↦
                slot_over a.n a.d c.args.domains.now a.tables.now c.args.slot.now _ k.0.fitting.sized.few c.marked_at-marked.ensures w.if-n-marked.true
            | then-n-marked-via-else-n-marked+then-wrong_with-ne0 w ↦
                slot_wrong a.n a.d c.args.domains.now a.tables.now c.args.slot.now k.0.fitting.words k.1.0 _ w.wrong_with.ensures w.if-wrong_with-ne0.true
          ]),
      refl,
    )

pub returns-then-known : goal.returns-then-known
returns-then-known c =
    let a = c.kept.inside in
    let k = rw (← c.kept.view_is) at c.requires in (
      rw (← c.kept.view_is)
          (slot_marked a.n a.d c.args.domains.now a.tables.now c.args.slot.now k.0.fitting.words k.1.0 _ _ k.0.passed
          k.0.fitting.sized.small c.wrong_with.ensures c.if-wrong_with-ne0.false
          (marks_in a.n a.d c.args.domains.now a.tables.now c.args.slot.now _ k.0.fitting.sized.few
          c.marked_at-marked.ensures c.if-n-marked.false)
          (c.if-known.true ∙ sym (k.1.1 c.if-known.true))),
      refl,
    )

pub marks_obey-requires : goal.marks_obey-requires
marks_obey-requires c =
    let a = c.kept.inside in
    let k = rw (← c.kept.view_is) at c.requires in
    rw (← c.kept.view_is)
    record {
      sized = k.0.fitting.sized;
      words = k.1.0;
      marks = slot_marks a.n a.d c.args.domains.now a.tables.now c.args.slot.now _ k.0.fitting.sized.few
          c.marked_at-marked.ensures;
      values = slot_values a.n a.d c.args.domains.now a.tables.now c.args.slot.now k.0.fitting.words k.1.0 _
          (problem_parts _ k.0.passed).0 k.0.fitting.sized.small c.wrong_with.ensures
          c.if-wrong_with-ne0.false;
    }

pub returns-else-known : goal.returns-else-known
returns-else-known c =
    let a = c.kept.inside in
    let k = rw (← c.kept.view_is) at c.requires in (
      rw (← c.kept.view_is)
          (slot_marked a.n a.d c.args.domains.now a.tables.now c.args.slot.now k.0.fitting.words k.1.0 _ _ k.0.passed
          k.0.fitting.sized.small c.wrong_with.ensures c.if-wrong_with-ne0.false
          (marks_in a.n a.d c.args.domains.now a.tables.now c.args.slot.now _ k.0.fitting.sized.few
          c.marked_at-marked.ensures c.if-n-marked.false)
          (rw (← c.kept.view_is) at c.marks_obey.ensures.0)),
      c.marks_obey.ensures.1,
    )
