-- `first::run_refusal` meets its contract: the sizes, the requests, then the first checks of the chooser.
use mathlib.Core.Path.{sym, ◌∙◌}
use native.Mathlib.Omega.{arith}
use Rattle.problem.proofs.Refused.{handed, handed_never}
use Rattle.search.specs.Tests.FirstChecks.{open_refusal, search_refusal, run_refusal}
use Rattle.problem.proofs.first_checks.Parts.{numbers_pass, else_first, else_rest}
use Rattle.search.proofs.first_checks.FirstParts.{sizes_first, sizes_pass, whole_list_lem, unwhole_list}
use Rattle.search.proofs.first_checks.run_refusal.Goals as goal

pub returns-in_err-sizes_refusal : goal.returns-in_err-sizes_refusal
unfolding run_refusal
returns-in_err-sizes_refusal c = sizes_first _ _ _ _ _ _ _ (handed _ _ c.from_residual.ensures.1 ∙ c.in_err-sizes_refusal.ensures) (handed_never _ _ c.from_residual.ensures.1)

pub overflow_add-n : goal.overflow_add-n
overflow_add-n c = omega (arith, (numbers_pass _ _ (sizes_pass _ _ _ _ _ (sym c.in_ok-sizes_refusal.ensures)).0).variables)

pub returns-then-requests-n-ne0 : goal.returns-then-requests-n-ne0
unfolding run_refusal
returns-then-requests-n-ne0 c =
    let p = sizes_pass _ _ _ _ _ (sym c.in_ok-sizes_refusal.ensures) in
    else_rest _ _ _ p.0 (else_rest _ _ _ p.1 (else_first _ _ _ (unwhole_list _ _ c.if-requests-n-ne0.true) (λ z. absurd (omega arith))))

pub returns : goal.returns
unfolding open_refusal search_refusal run_refusal
returns c =
    let p = sizes_pass _ _ _ _ _ (sym c.in_ok-sizes_refusal.ensures) in
    else_rest _ _ _ p.0
    (else_rest _ _ _ p.1
    (else_rest _ _ _ (whole_list_lem _ _ c.if-requests-n-ne0.false) (rw (p.0, p.1) at c.search_refusal.ensures)))
