-- `answer::answer_in` meets its contract.
use native.Mathlib.Omega.{arith}
use mathlib.Core.Path.{refl, ◌∙◌}
use Rattle.problem.proofs.Refused.{never_0}
use Rattle.answer.proofs.Made.{line_made}
use Rattle.answer.proofs.Answering.{same_refusal, held_answers, answer_refused, chosen_shows, chosen_text}
use Rattle.answer.proofs.answer_in.Goals as goal

pub returns-in-Err : goal.returns-in-Err
returns-in-Err c =
    held_answers _ _ _
    (answer_refused _ _
    (c.in-Err.ensures.refusal ∙ same_refusal _ _ _ _
    c.requires)
    (never_0 _))
    (line_made _ _ _ c.start.ensures c.with_refusal.ensures.0 (omega (arith, c.with_refusal.ensures.1)))

pub text_of-requires : goal.text_of-requires
text_of-requires c =
    chosen_shows _ _ _ _ _ _ _ _ _ _
    (λ i. omega (
      arith,
      c.type_inv.file i,
    ))
    c.requires
    c.in-Ok.ensures refl c.choose-ran.ensures

pub returns-in-Ok : goal.returns-in-Ok
returns-in-Ok c =
    held_answers _ _ _
    (chosen_text _ _ _ _ _ _ _ _ _ _
    (λ i. omega (
      arith,
      c.type_inv.file i,
    ))
    c.requires
    c.in-Ok.ensures refl c.choose-ran.ensures)
    c.text_of.ensures
