-- `first::search_refusal` meets its contract: opening's first checks, then the search.
use mathlib.Core.Path.{sym}
use Rattle.problem.proofs.Refused.{handed_first}
use Rattle.search.specs.Tests.FirstChecks.{search_refusal}
use Rattle.problem.proofs.first_checks.Parts.{else_rest}
use Rattle.search.proofs.first_checks.FirstParts.{open_parts, open_pass}
use Rattle.search.proofs.first_checks.search_refusal.Goals as goal

pub returns-in_err-open_refusal : goal.returns-in_err-open_refusal
unfolding search_refusal
returns-in_err-open_refusal c = handed_first _ _ _ _ c.from_residual.ensures.1 c.in_err-open_refusal.ensures

pub refusal_of_search-requires : goal.refusal_of_search-requires
refusal_of_search-requires c =
    let e = sym c.in_ok-open_refusal.ensures in
    record { fitting = open_pass _ _ _ _ _ e; passed = (open_parts _ _ _ _ _ e).2 }

pub returns : goal.returns
unfolding search_refusal
returns c = else_rest _ _ _ (sym c.in_ok-open_refusal.ensures) c.refusal_of_search.ensures
