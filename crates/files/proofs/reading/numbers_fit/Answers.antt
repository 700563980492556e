-- `reading::numbers_fit` meets its contract.
use mathlib.Core.Path.{sym, ◌∙◌}
use Rattle.problem.proofs.Refused.{told_ok, told_err}
use Rattle.files.proofs.reading.Found.{numbers_bad, numbers_good}
use Rattle.files.proofs.reading.numbers_fit.Goals as goal

pub returns-then-is_ok : goal.returns-then-is_ok
returns-then-is_ok c = numbers_good _ _ _ _ c.refusal_of_numbers.ensures (told_ok _ (sym c.is_ok.ensures.value ∙ c.if-is_ok.true))

pub returns-else-is_ok : goal.returns-else-is_ok
returns-else-is_ok c =
    c.if-is_ok.false ∙ numbers_bad _ _ _ _ c.refusal_of_numbers.ensures (told_err _ (sym c.is_ok.ensures.value ∙ c.if-is_ok.false))
