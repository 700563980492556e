-- `search::choice::take_chosen` meets its contract.
use mathlib.Core.Path.{refl, ◌∙◌}
use native.Mathlib.Omega.{arith}
use Rattle.problem.proofs.Refused.{never_0, handed_err}
use Rattle.search.proofs.chooser.Settling.{taking_regular, taking_top, taking_slot, chosen_refused, chosen_full, chosen_steps, chosen_taken}
use Rattle.search.proofs.chooser.take_chosen.Goals as goal

pub returns-then-steps : goal.returns-then-steps
returns-then-steps c = (
  chosen_refused _ _ _ _ _ _ c.requires c.if-steps.true,
  refl,
)

pub look-choice-requires : goal.look-choice-requires
look-choice-requires c = let k = c.requires in (taking_regular _ _ _ _ _ _ k, k.runs)

pub invariant_of-chosen : goal.invariant_of-chosen
invariant_of-chosen c =
    let e = c.kept.view_is ∙ c.look-choice.ensures.1 in
    record { of_top = rw (← e) at (taking_top _ _ _ _ _ _ c.requires _ c.look-choice.ensures.0) }

pub with_checks-checks-requires : goal.with_checks-checks-requires
with_checks-checks-requires c = let k = c.requires.ready in omega (arith, k.counted, k.stepped)

pub put-requires : goal.put-requires
put-requires c =
    let e = c.kept.view_is ∙ c.look-choice.ensures.1 in
    rw (← e) at (taking_slot _ _ _ _ _ _ c.requires)

pub returns-in_err-subproblems : goal.returns-in_err-subproblems
returns-in_err-subproblems c =
    let e = c.kept.view_is ∙ c.look-choice.ensures.1 in (
      rw (handed_err _ _ c.from_residual.ensures.1, ← e)
          (chosen_full _ _ _ _ _ _
          (rw (← e) at c.requires) _
          (rw (← e) at c.look-choice.ensures.0)
          c.if-steps.false _ _
          c.in_err-subproblems.ensures (never_0 _)),
      c.look-choice.ensures.1,
    )

pub taken-requires : goal.taken-requires
taken-requires c =
    let e = c.kept.view_is ∙ c.look-choice.ensures.1 in
    chosen_steps _ _ _ _ _ _
    (rw (← e) at c.requires) _
    (rw (← e) at c.look-choice.ensures.0)
    c.if-steps.false _ _
    c.in_ok-subproblems.ensures refl

pub returns : goal.returns
returns c =
    let e = c.kept.view_is ∙ c.look-choice.ensures.1 in (
      rw (c.taken.ensures, ← e)
          (chosen_taken _ _ _ _ _ _
          (rw (← e) at c.requires) _
          (rw (← e) at c.look-choice.ensures.0)
          c.if-steps.false _ _
          c.in_ok-subproblems.ensures refl _
          c.with_checks-checks.ensures),
      c.look-choice.ensures.1,
    )
