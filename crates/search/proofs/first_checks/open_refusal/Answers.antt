-- `first::open_refusal` meets its contract: the sizes, then the problem.
use mathlib.Core.Path.{sym, ◌∙◌}
use Rattle.problem.proofs.Refused.{handed, handed_never}
use Rattle.search.specs.Tests.FirstChecks.{open_refusal}
use Rattle.search.proofs.first_checks.FirstParts.{sizes_first, sizes_pass, sizes_problem, problem_rest}
use Rattle.problem.proofs.first_checks.Parts.{else_rest}
use Rattle.search.proofs.first_checks.open_refusal.Goals as goal

pub returns-in_err-sizes_refusal : goal.returns-in_err-sizes_refusal
unfolding open_refusal
returns-in_err-sizes_refusal c = sizes_first _ _ _ _ _ _ _ (handed _ _ c.from_residual.ensures.1 ∙ c.in_err-sizes_refusal.ensures) (handed_never _ _ c.from_residual.ensures.1)

pub returns : goal.returns
unfolding open_refusal
returns c =
    let none = sym c.in_ok-sizes_refusal.ensures in
    let p = sizes_pass _ _ _ _ _ none in
    else_rest _ _ _ p.0 (else_rest _ _ _ p.1 (problem_rest _ _ _ _ _ (sizes_problem _ _ _ _ _ none) c.refusal.ensures))
