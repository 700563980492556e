-- `first_checks::sizes_refusal` meets its contract: those of the problem, then the agenda.
use mathlib.Core.Path.{refl, ◌∙◌}
use Rattle.problem.proofs.Refused.{handed, handed_never}
use Rattle.search.proofs.first_checks.FirstParts.{sizes_given, sizes_few, sizes_whole, sizes_odd}
use Rattle.search.proofs.first_checks.sizes_refusal.Goals as goal

pub returns-in_err-sizes_refusal : goal.returns-in_err-sizes_refusal
returns-in_err-sizes_refusal c =
    let told = handed _ _ c.from_residual.ensures.1 in
    sizes_given _ _ _ _ _ _ (told ∙ c.in_err-sizes_refusal.ensures) (handed_never _ _ c.from_residual.ensures.1)

pub whole_slots-requires : goal.whole_slots-requires
whole_slots-requires c = sizes_few _ _ _ _ 0 _ c.in_ok-sizes_refusal.ensures refl

pub returns-then-whole_slots : goal.returns-then-whole_slots
returns-then-whole_slots c =
    sizes_whole _ _ _ _ _ _ c.in_ok-sizes_refusal.ensures refl _ c.whole_slots.ensures c.if-whole_slots.true

pub returns : goal.returns
returns c = sizes_odd _ _ _ _ _ _ c.in_ok-sizes_refusal.ensures refl _ c.whole_slots.ensures c.if-whole_slots.false
