-- What is read of a result leaves one.
-- Assumes nothing.
use mathlib.Core.Path.{◌≡◌, sym, ap}
use Prim.Native.Nat.{ℕ}
use Rattle.std.specs.Prelude.{Result, Ok, Err}
use Rattle.problem.specs.declared.refusal.Refusal.{Refusal}
use Rattle.problem.proofs.Refused.{never_0, number_once}
use Rattle.files.specs.declared.saved.Header.{Header}
use Rattle.files.specs.Outcomes.{Saved, saved, Loaded, loaded}

pub saved_once : (r s : Result ℕ Refusal) → saved r ≡ saved s → r ≡ s
saved_once (Ok a) (Ok b) e = ap {B = Result ℕ Refusal} (λ (x : Saved). Ok x.blocks) e
saved_once (Ok a) (Err f) e = absurd (never_0 f (sym (ap (λ (x : Saved). x.refusal) e)))
saved_once (Err f) (Ok b) e = absurd (never_0 f (ap (λ (x : Saved). x.refusal) e))
saved_once (Err f) (Err g) e = ap Err (number_once f g (ap (λ (x : Saved). x.refusal) e))

pub loaded_once : (r s : Result Header Refusal) → loaded r ≡ loaded s → r ≡ s
loaded_once (Ok a) (Ok b) e = ap {B = Result Header Refusal} (λ (x : Loaded). Ok (record { n = x.n; d = x.d; state = x.state })) e
loaded_once (Ok a) (Err f) e = absurd (never_0 f (sym (ap (λ (x : Loaded). x.refusal) e)))
loaded_once (Err f) (Ok b) e = absurd (never_0 f (ap (λ (x : Loaded). x.refusal) e))
loaded_once (Err f) (Err g) e = ap Err (number_once f g (ap (λ (x : Loaded). x.refusal) e))
