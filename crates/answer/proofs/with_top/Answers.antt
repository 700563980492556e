-- `answer::with_top` meets its contract.
use mathlib.Core.Path.{refl}
use Rattle.answer.proofs.Writing.{adds_same}
use Rattle.answer.proofs.Lines.{top_lines, top_within}
use Rattle.answer.proofs.with_top.Goals as goal

pub returns : goal.returns
returns c =
    let within = top_within _ _ _ c.requires.1.0 c.requires.1.1 in
    adds_same _ _ _ _ (top_lines _ _ _ _ refl within) c.with_plan.ensures
