-- `search::run_on` meets its contract. The invariant: the run from here on is the whole run.
use mathlib.Core.Path.{refl}
use native.Mathlib.Omega.{arith}
use Rattle.search.proofs.Running.{going_on, going_stops, going_all}
use Rattle.search.proofs.run_on.Goals as goal

pub returns-in-Break : goal.returns-in-Break
returns-in-Break c =
    going_stops _ _ _ _ _ _ _ _ _ c.loop-taken.invariant
    c.loop-taken-test.true _ _ _
    c.request_at-request.ensures.0 c.in-Break.ensures refl

pub loop-taken-preserved : goal.loop-taken-preserved
loop-taken-preserved c =
    going_on _ _ _ _ _ _ _ _ _ c.loop-taken.invariant c.loop-taken-test.true _ _ _
    c.request_at-request.ensures.0 c.in-Continue.ensures (λ z. absurd (omega arith))

pub returns : goal.returns
returns c = going_all _ _ _ _ _ _ _ _ _ c.loop-taken.invariant (omega arith)
