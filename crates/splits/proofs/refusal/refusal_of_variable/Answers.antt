-- `refusal::refusal_of_variable` meets its contract, test by test.
use mathlib.Core.Path.{sym, ◌∙◌}
use mathlib.Core.Bool.{or-true}
use borrow.Author.Tests.{le-leb}
use Rattle.splits.specs.Loops.Kinds.{refusal_of_variable}
use Rattle.splits.proofs.refusal.Refusals.{past_8}
use Rattle.splits.proofs.refusal.refusal_of_variable.Goals as goal
use Rattle.splits.proofs.refusal.refusal_of_variable.Goals.{then-n-variable-via-then-n-variable, then-n-variable-via-else-n-variable+then-is_instantiated}

pub returns-then-n-variable : goal.returns-then-n-variable
unfolding refusal_of_variable
returns-then-n-variable c = rw (← c.variable-variable.ensures) (elim c.then-n-variable.branch [
  | then-n-variable-via-then-n-variable w ↦ simp (le-leb _ _ w.if-n-variable.true)
  | then-n-variable-via-else-n-variable+then-is_instantiated w ↦
      simp (sym w.is_instantiated.ensures ∙ w.if-is_instantiated.true, or-true)
])

pub returns-then-deserves_9 : goal.returns-then-deserves_9
returns-then-deserves_9 c =
    rw (← c.variable-variable.ensures)
    (rw c.if-deserves_9.true at
    (past_8 _ _ c.args.top _ _ _ _ _ _
    c.if-n-variable.false c.is_instantiated.ensures
    c.if-is_instantiated.false c.domain.ensures c.deserves_9.ensures))

pub returns : goal.returns
returns c =
    rw (← c.variable-variable.ensures)
    (rw c.if-deserves_9.false at
    (past_8 _ _ c.args.top _ _ _ _ _ _
    c.if-n-variable.false c.is_instantiated.ensures
    c.if-is_instantiated.false c.domain.ensures c.deserves_9.ensures))
