-- The promises of specs/Promises.antt, proved.
-- Assumes nothing.
use mathlib.Core.Path.{ap, ◌∙◌}
use Prim.Native.Nat.{ℕ}
use Rattle.problem.specs.Masks.{bit}
use Rattle.problem.specs.Promises.{NoConstraint, LowestValue, SmallerHalfOf, CountOne, LowestOne, HasOne, SmallerHalfOne, SizesRefusals, ProblemRefusals, NumbersPass, ProblemPass, TurnedOne, OnlyOne, WithinOne, AllowedOne, RowOne, BitsOfOne, RefusalOfNumbersOne, SizesRefusalOne, RefusalOne, NumberOne, RefusalFromOne, VerdictFromOne, ToldOne}
use Rattle.problem.proofs.Refused.{number_once, told_once, one_told}
use Rattle.problem.proofs.mask.Masks.{all_set, trailing_member, trailing_least, half_part, half_size, half_below}
use Rattle.problem.proofs.Answers.{one}
use Rattle.problem.proofs.matrix.Turning
use Rattle.problem.proofs.beside.Rows.{one_row}
use Rattle.problem.proofs.first_checks.Order.{sizes_first, problem_first}
use Rattle.problem.proofs.first_checks.Passing.{numbers_none, problem_none}

pub no_constraint : NoConstraint
no_constraint p i j all a b k l = ap (λ (m : ℕ). bit m b) (all a k) ∙ all_set p.d b l

pub lowest_value : LowestValue
lowest_value w m h e = record { member = trailing_member w m h e; least = λ v. trailing_least w m v }

pub smaller_half_of_lem : SmallerHalfOf
smaller_half_of_lem w m h = (half_part w m h, half_size w m h, λ u v. half_below w m u v h)

pub count_one : CountOne
count_one mask = one _

pub lowest_one : LowestOne
lowest_one mask = one _

pub has_one : HasOne
has_one mask value = one _

pub smaller_half_one : SmallerHalfOne
smaller_half_one mask = one _

pub sizes_refusals : SizesRefusals
sizes_refusals = sizes_first

pub problem_refusals : ProblemRefusals
problem_refusals = problem_first

pub numbers_pass : NumbersPass
numbers_pass = numbers_none

pub problem_pass : ProblemPass
problem_pass = problem_none

pub turned_one : TurnedOne
turned_one = Turning.turned_same

pub only_one : OnlyOne
only_one value = one _

pub within_one : WithinOne
within_one n d tables variable value = one _

pub allowed_one : AllowedOne
allowed_one n d tables i j a = one _

pub row_one : RowOne
row_one = one_row

pub bits_of_one : BitsOfOne
bits_of_one words = one _

pub number_one : NumberOne
number_one = number_once

pub refusal_from_one : RefusalFromOne
refusal_from_one refusal = one _

pub verdict_from_one : VerdictFromOne
verdict_from_one verdict = one _

pub told_one : ToldOne
told_one = told_once

pub refusal_of_numbers_one : RefusalOfNumbersOne
refusal_of_numbers_one n d = one_told (one _)

pub sizes_refusal_one : SizesRefusalOne
sizes_refusal_one n d domains tables = one_told (one _)

pub refusal_one : RefusalOne
refusal_one n d domains tables = one_told (one _)
