-- `answer::text_of` meets its contract.
use native.Mathlib.Omega.{arith}
use mathlib.Core.Path.{sym, ap, ◌∙◌}
use Rattle.search.specs.Outcomes.{ran, told_by}
use Rattle.problem.proofs.Refused.{never_0}
use Rattle.answer.proofs.Writing.{adds_none}
use Rattle.answer.proofs.Short.{plan_room, lowest_small}
use Rattle.answer.proofs.Lines.{solved_lines, other_lines}
use Rattle.answer.proofs.Made.{text_made, from_refused, from_lines}
use Rattle.answer.proofs.text_of.Goals as goal

pub returns-in-Some : goal.returns-in-Some
returns-in-Some c =
    let told = ap told_by c.in-Some.is in
    from_refused _ _ (ran c.args.ran) _ (λ z. never_0 _ (sym told ∙ z))
    (rw told (text_made _ _ _ _ _ _ _ _ c.start.ensures c.with_verdict.ensures
    c.with_counts-text.ensures c.with_refusal.ensures.0 (omega (arith, c.with_refusal.ensures.1))))

pub with_top-requires : goal.with_top-requires
with_top-requires c =
    let shows = c.requires in
    (shows.few, ((solved_lines _ _ _ _ shows.verdict (sym c.if-is_solved.true ∙ c.is_solved.ensures)).0, shows.within))

pub returns-then-is_solved : goal.returns-then-is_solved
returns-then-is_solved c =
    let shows = c.requires in
    from_lines _ _ _ _ _ (ap told_by c.in_default.is)
    (solved_lines _ _ _ _ shows.verdict (sym c.if-is_solved.true ∙ c.is_solved.ensures)).1
    (text_made _ _ _ _ _ _ _ _ c.start.ensures
    c.with_verdict.ensures c.with_counts-text.ensures
    c.with_top.ensures
    (plan_room _ _ (λ i. lowest_small _) shows.few))

pub returns : goal.returns
returns c =
    let shows = c.requires in
    from_lines _ _ _ _ _ (ap told_by c.in_default.is) (other_lines _ _ _ _ shows.verdict (sym c.if-is_solved.false ∙ c.is_solved.ensures))
    (text_made _ _ _ _ _ _ _ _ c.start.ensures
    c.with_verdict.ensures c.with_counts-text.ensures (adds_none _)
    (omega arith))
