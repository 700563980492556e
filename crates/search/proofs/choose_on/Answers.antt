-- `search::choose_on` meets its contract. The invariant: the chooser from here on is the whole chooser, and the rows kept are the problem's.
use mathlib.Core.Path.{refl, ◌∙◌}
use native.Mathlib.Omega.{arith}
use Rattle.search.proofs.kept.Rows.{rows_none}
use Rattle.search.proofs.Running.{choosing_none, choosing_on, choosing_stops, choosing_all}
use Rattle.search.proofs.choose_on.Goals as goal

pub invariant_of-kept : goal.invariant_of-kept
invariant_of-kept c = (c.requires.fitting, (omega arith, rows_none 16 _ _ _))

pub loop-taken-init : goal.loop-taken-init
loop-taken-init c = (choosing_none _ _ _ _ _ _ c.requires, refl)

pub step_chosen-requires : goal.step_chosen-requires
step_chosen-requires c = rw c.loop-taken.invariant.1 (c.loop-taken.invariant.0.ready, c.below-lanes.ensures)

pub returns-in-Break : goal.returns-in-Break
returns-in-Break c =
    choosing_stops _ _ _ _ _ _ _ _ _ c.loop-taken.invariant.0
    c.loop-taken-test.true _ _
    (rw c.loop-taken.invariant.1 at c.in-Break.ensures.0) refl

pub loop-taken-preserved : goal.loop-taken-preserved
loop-taken-preserved c = (
  choosing_on _ _ _ _ _ _ _ _ _ c.loop-taken.invariant.0 c.loop-taken-test.true _ _
      (rw c.loop-taken.invariant.1 at c.in-Continue.ensures.0) (λ z. absurd (omega arith)),
  c.in-Continue.ensures.1 ∙ c.loop-taken.invariant.1,
)

pub returns : goal.returns
returns c = choosing_all _ _ _ _ _ _ _ _ _ c.loop-taken.invariant.0 (omega arith)
