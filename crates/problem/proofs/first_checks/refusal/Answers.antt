-- `first_checks::refusal` meets its contract: the sizes, then the masks.
use mathlib.Core.Path.{sym}
use Rattle.problem.specs.Tests.FirstChecks.{problem_refusal}
use Rattle.problem.proofs.Refused.{handed_first}
use Rattle.problem.proofs.first_checks.Parts.{else_rest, problem_fits}
use Rattle.problem.proofs.first_checks.refusal.Goals as goal

pub returns-in_err-sizes_refusal : goal.returns-in_err-sizes_refusal
unfolding problem_refusal
returns-in_err-sizes_refusal c = handed_first _ _ _ _ c.from_residual.ensures.1 c.in_err-sizes_refusal.ensures

pub invariant_of-refusal_with : goal.invariant_of-refusal_with
invariant_of-refusal_with c = record { fit = (problem_fits _ _ c.args.domains.now _ (sym c.in_ok-sizes_refusal.ensures)).sized; masks = λ a. (c.type_inv.tables a).fits }

pub refusal_with-requires : goal.refusal_with-requires
refusal_with-requires c = (problem_fits _ _ _ c.args.tables.now (sym c.in_ok-sizes_refusal.ensures)).words

pub returns : goal.returns
unfolding problem_refusal
returns c = else_rest _ _ _ (sym c.in_ok-sizes_refusal.ensures) c.refusal_with.ensures
