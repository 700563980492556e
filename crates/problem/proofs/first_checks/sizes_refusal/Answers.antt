-- `first_checks::sizes_refusal` meets its contract: the numbers, then the lengths.
use mathlib.Core.Path.{sym}
use mathlib.Core.Bool.{and-false}
use native.Mathlib.Nat.{mul-le-mul}
use native.Mathlib.Omega.{arith}
use borrow.Author.Tests.{eq-eqb, ne_eqb}
use Rattle.problem.specs.Tests.FirstChecks.{problem_sizes}
use Rattle.problem.proofs.Refused.{handed_first}
use Rattle.problem.proofs.first_checks.Parts.{numbers_pass, else_rest}
use Rattle.problem.proofs.first_checks.sizes_refusal.Goals as goal
use Rattle.problem.proofs.first_checks.sizes_refusal.Goals.{then-domains-n-via-then-domains-n, then-domains-n-via-else-domains-n+then-tables-n}

pub returns-in_err-refusal_of_numbers : goal.returns-in_err-refusal_of_numbers
unfolding problem_sizes
returns-in_err-refusal_of_numbers c = handed_first _ _ _ _ c.from_residual.ensures.1 c.in_err-refusal_of_numbers.ensures

pub overflow_mul-n : goal.overflow_mul-n
overflow_mul-n c =
    let p = numbers_pass _ _ (sym c.in_ok-refusal_of_numbers.ensures) in
    omega (arith, mul-le-mul p.variables p.variables)

pub overflow_mul-n-else-domains-n : goal.overflow_mul-n-else-domains-n
overflow_mul-n-else-domains-n c =
    let p = numbers_pass _ _ (sym c.in_ok-refusal_of_numbers.ensures) in
    omega (arith, mul-le-mul (mul-le-mul p.variables p.variables) p.values)

pub returns-then-domains-n : goal.returns-then-domains-n
unfolding problem_sizes
returns-then-domains-n c = else_rest _ _ _ (sym c.in_ok-refusal_of_numbers.ensures) (elim c.then-domains-n.branch [
  | then-domains-n-via-then-domains-n w ↦ simp (ne_eqb _ _ w.if-domains-n.true)
  | then-domains-n-via-else-domains-n+then-tables-n w ↦ simp (ne_eqb _ _ w.if-tables-n.true, and-false)
])

pub returns : goal.returns
unfolding problem_sizes
returns c =
    else_rest _ _ _ (sym c.in_ok-refusal_of_numbers.ensures)
    (simp (eq-eqb _ _ c.if-domains-n.false, eq-eqb _ _ c.if-tables-n.false))
