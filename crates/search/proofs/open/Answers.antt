-- `search::open` meets its contract.
use mathlib.Core.Path.{refl}
use Rattle.problem.proofs.Refused.{never_0, handed_err}
use Rattle.search.proofs.first_checks.Admitting.{openable}
use Rattle.search.proofs.Ending.{opens_refused, opens_made}
use Rattle.search.proofs.open.Goals as goal

pub returns-in_err-open_refusal : goal.returns-in_err-open_refusal
returns-in_err-open_refusal c =
    rw (handed_err _ _ c.from_residual.ensures.1) (opens_refused _ _ _ _ _ _ c.in_err-open_refusal.ensures _ (never_0 _) refl)

pub place_problem-subproblems-requires : goal.place_problem-subproblems-requires
place_problem-subproblems-requires c = openable _ c.args.d _ c.args.tables.now _ _ c.in_ok-open_refusal.ensures refl

pub returns : goal.returns
returns c =
    opens_made _ _ _ _ _ _ c.in_ok-open_refusal.ensures _ _ _ refl c.place_problem-subproblems.ensures c.fresh.ensures
