-- `refusal::refusal` meets its contract, kind by kind.
use mathlib.Core.Logic.{⊎_elim}
use mathlib.Core.Path.{refl, ap, ◌∙◌}
use mathlib.Core.Bool.{or-true}
use borrow.Author.Tests.{lt-ltb}
use Rattle.splits.specs.Requests.{kind_of}
use Rattle.splits.specs.Tests.Refusals.{refusal_of, refused_7}
use Rattle.splits.specs.declared.kind.Kind.TheVariants.{Extraction}
use Rattle.problem.proofs.Refused.{handed}
use Rattle.problem.specs.Refused.{number_of}
use Rattle.splits.proofs.Numbering.{kind_is, kind_low}
use Rattle.splits.proofs.refusal.Refusals.{of_targets, of_variable}
use Rattle.splits.proofs.refusal.refusal.Goals as goal

pub returns-in_err-kind : goal.returns-in_err-kind
unfolding refusal_of refused_7
returns-in_err-kind c =
    let said = c.in_err-kind.ensures in
    handed c.from_residual.result _ c.from_residual.ensures.1 ∙ ap number_of said.0
    ∙ (⊎_elim (λ low. simp (lt-ltb (kind_of c.args.request.now) 1 low)) (λ high. simp (lt-ltb 5 (kind_of c.args.request.now) high, or-true)) said.1)

pub returns-in-Extraction : goal.returns-in-Extraction
returns-in-Extraction c =
    c.refusal_of_targets.ensures ∙ of_targets _ _ _ _ _ (kind_is Extraction c.in_ok-kind.ensures c.in-Extraction.is) refl

pub returns-in_default : goal.returns-in_default
returns-in_default c =
    let low = kind_low _ c.in_default.not-Extraction in
    c.refusal_of_variable.ensures
    ∙ of_variable _ _ _ _ _ _ _ c.in_ok-kind.ensures refl (λ f. refl) low.0 low.1
