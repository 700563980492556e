-- What is equal to one thing is one.
-- Assumes nothing.
use mathlib.Core.Path.{◌≡◌, sym, ◌∙◌}
use Rattle.problem.specs.Answers.{One}

-- a statement that says what the result is has one answer
pub one : {A : Type 0} (a : A) → One (λ r. r ≡ a)
one a r s p q = p ∙ sym q
