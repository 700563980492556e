-- `first_checks::refusal_of_numbers` meets its contract: n, then d.
use Rattle.std.proofs.Common.{arith}
use Rattle.std.proofs.lemmas.Grind.{common_steps}
use Rattle.problem.specs.Tests.FirstChecks.{refusal_of_numbers}
use Rattle.problem.proofs.first_checks.refusal_of_numbers.Goals as goal

pub returns-then-not-contains : goal.returns-then-not-contains
unfolding refusal_of_numbers
returns-then-not-contains c = grind (arith, common_steps)

pub returns-then-not-contains-2 : goal.returns-then-not-contains-2
unfolding refusal_of_numbers
returns-then-not-contains-2 c = grind (arith, common_steps)

pub returns : goal.returns
unfolding refusal_of_numbers
returns c = grind (arith, common_steps)
