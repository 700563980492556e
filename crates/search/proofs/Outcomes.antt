-- What is read of a result leaves one.
-- Assumes nothing.
use mathlib.Core.Path.{◌≡◌, refl, sym, ap}
use Rattle.std.specs.Prelude.{Option, Some, None, Result, Ok, Err}
use Rattle.problem.specs.declared.refusal.Refusal.{Refusal}
use Rattle.problem.proofs.Refused.{never_0, number_once}
use Rattle.search.specs.declared.state.State.{State}
use Rattle.search.specs.declared.state.Ran.{Ran as Returned}
use Rattle.search.specs.Outcomes.{Opened, opened, Ran, ran, told_by}

pub opened_once : (r s : Result State Refusal) → opened r ≡ opened s → r ≡ s
opened_once (Ok a) (Ok b) e = ap {B = Result State Refusal} (λ (x : Opened). Ok x.state) e
opened_once (Ok a) (Err f) e = absurd (never_0 f (sym (ap (λ (x : Opened). x.refusal) e)))
opened_once (Err f) (Ok b) e = absurd (never_0 f (ap (λ (x : Opened). x.refusal) e))
opened_once (Err f) (Err g) e = ap Err (number_once f g (ap (λ (x : Opened). x.refusal) e))

-- The number of a refusal, and none, are told apart.
pub told_by_once : (r s : Option Refusal) → told_by r ≡ told_by s → r ≡ s
told_by_once None None e = refl
told_by_once None (Some f) e = absurd (never_0 f (sym e))
told_by_once (Some f) None e = absurd (never_0 f e)
told_by_once (Some f) (Some g) e = ap Some (number_once f g e)

pub ran_once : (r s : Returned) → ran r ≡ ran s → r ≡ s
ran_once r s e =
    let same = told_by_once r.refusal s.refusal (ap (λ (x : Ran). x.refusal) e) in
    λ i. record { verdict = (e i).verdict; refusal = same i; taken = (e i).taken; state = (e i).state }
