-- `search::step::refusal_of` meets its contract.
use mathlib.Core.Path.{refl, sym, ◌∙◌}
use Rattle.problem.proofs.Refused.{handed, handed_never}
use Rattle.search.proofs.step.Accepting.{accepted_reads, refused_by_top, refused_at_12, refused_by_none}
use Rattle.search.proofs.step.refusal_of.Goals as goal

pub returns-in_err-refusal : goal.returns-in_err-refusal
returns-in_err-refusal c =
    refused_by_top _ _ _ _ _ _ _ c.if-steps-eq4294967295.false _ (handed _ _ c.from_residual.ensures.1 ∙ c.in_err-refusal.ensures)
    (handed_never _ _ c.from_residual.ensures.1)

pub invariant_of-asked : goal.invariant_of-asked
invariant_of-asked c = record { reads = accepted_reads _ _ c.args.top _ (sym c.in_ok-refusal.ensures) _ c.requires.0; whole = c.requires.1 }

pub returns-then-exceed : goal.returns-then-exceed
returns-then-exceed c =
    refused_at_12 _ _ _ _ _ _ _ c.if-steps-eq4294967295.false 0 c.in_ok-refusal.ensures _ refl c.exceed.ensures c.if-exceed.true

pub returns : goal.returns
returns c = refused_by_none _ _ _ _ _ _ _ c.if-steps-eq4294967295.false 0 c.in_ok-refusal.ensures _ refl c.exceed.ensures c.if-exceed.false
