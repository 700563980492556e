-- `rules::all_obey` meets its contract: the loop's invariant: the subproblem of every slot passed obeys the rules.
use mathlib.Core.Bool.{not}
use mathlib.Core.Path.{refl, ap, ◌∙◌}
use native.Mathlib.Omega.{arith}
use Rattle.search.specs.Agenda.{subproblem_of}
use Rattle.search.proofs.agenda.Slots.{slot_below}
use Rattle.problem.proofs.FirstLoops.{every_start, every_stop, every_turn, every_end}
use Rattle.search.proofs.first_checks.FirstParts.{all_slots, slot_obeys_lem}
use Rattle.search.proofs.kept.Rows.{rows_none}
use Rattle.search.proofs.rules.Alike.{marks_known}
use Rattle.search.proofs.rules.all_obey.Goals as goal

pub invariant_of-kept : goal.invariant_of-kept
invariant_of-kept c = (c.requires.0.fitting.sized, (omega arith, rows_none 1 _ _ _))

pub loop-k-init : goal.loop-k-init
loop-k-init c = (every_start _, refl)

pub obeys-requires : goal.obeys-requires
obeys-requires c =
    let p = c.requires in
    let inv = c.loop-k.invariant in
    let own = c.slot-slot.ensures in
    let lies = slot_below _ _ _ _ p.0.fitting.sized.few c.loop-k-test.true p.1 in
    rw inv.1 (p.0, (own.1, marks_known _ _ _ _ own.0 _ c.args.domains.now _ _ p.0 lies inv.0 c.as_below-known.ensures))

pub returns-then-not-obeys : goal.returns-then-not-obeys
returns-then-not-obeys c =
    every_stop _ _ _ _ c.loop-k-test.true
    (slot_obeys_lem _ _ _ _ _ _ (ap (subproblem_of _) c.slot-slot.ensures.0) (rw c.loop-k.invariant.1 at c.obeys.ensures.0))
    (ap not c.if-not-obeys.true) ∙ all_slots _ _ _ _

pub loop-k-preserved : goal.loop-k-preserved
loop-k-preserved c = (
  every_turn _ _ _ c.loop-k.invariant.0
      (slot_obeys_lem _ _ _ _ _ _ (ap (subproblem_of _) c.slot-slot.ensures.0) (rw c.loop-k.invariant.1 at c.obeys.ensures.0))
      (ap not c.if-not-obeys.false),
  c.obeys.ensures.1 ∙ c.loop-k.invariant.1,
)

pub returns : goal.returns
returns c = every_end _ _ _ c.loop-k.auto.k-end c.loop-k-test.false c.loop-k.invariant.0 ∙ all_slots _ _ _ _
