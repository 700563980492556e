-- The promises of specs/Promises.antt, proved.
-- Assumes nothing.
use mathlib.Core.Path.{sym, ◌∙◌}
use Rattle.answer.specs.Promises.{AnswerToOne, AtMost512, Decimals, Answer14, Answer15, AnswerElse, OfTheCalls, SaysAPlan, SaysNoPlan, Printed}
use Rattle.answer.proofs.Decimals.{decimal_digit, decimal_more}
use Rattle.answer.proofs.Saying
use Rattle.answer.proofs.Example
use Rattle.answer.proofs.Fitting

pub answer_to_one : AnswerToOne
answer_to_one file r r' h h' = λ i. record { bytes = (h.bytes ∙ sym h'.bytes) i; length = (h.its_length ∙ sym h'.its_length) i }

pub at_most_512 : AtMost512
at_most_512 = Fitting.at_most_512

pub decimals : Decimals
decimals = (decimal_digit, decimal_more)

pub answer_14 : Answer14
answer_14 = Saying.says_14

pub answer_15 : Answer15
answer_15 = Saying.says_15

pub answer_else : AnswerElse
answer_else = Saying.says_else

pub of_the_calls : OfTheCalls
of_the_calls = Saying.of_calls

pub says_a_plan : SaysAPlan
says_a_plan = Saying.a_plan

pub says_no_plan : SaysNoPlan
says_no_plan = Saying.no_plan

pub printed : Printed
printed = Example.printed
