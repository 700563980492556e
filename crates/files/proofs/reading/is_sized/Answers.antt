-- `reading::is_sized` meets its contract.
use Rattle.files.proofs.reading.Refused.{numbers_found, sized_numbers_not, sized_blocks}
use Rattle.files.proofs.reading.is_sized.Goals as goal

pub invariant_of-words : goal.invariant_of-words
invariant_of-words c =
    let said = c.requires in
    record { numbers = (numbers_found _ _ _ _ said.its_n said.its_d said.subproblems _ c.numbers_fit.ensures c.if-numbers_fit.true).0 }

pub words-requires : goal.words-requires
words-requires c =
    let said = c.requires in
    (numbers_found _ _ _ _ said.its_n said.its_d said.subproblems _ c.numbers_fit.ensures c.if-numbers_fit.true).1

pub returns-then-numbers_fit : goal.returns-then-numbers_fit
returns-then-numbers_fit c =
    let said = c.requires in
    sized_blocks _ _ _ _ said.its_n said.its_d said.subproblems _ _ _ c.numbers_fit.ensures c.if-numbers_fit.true c.words.ensures.0 c.fills.ensures

pub returns-else-numbers_fit : goal.returns-else-numbers_fit
returns-else-numbers_fit c =
    let said = c.requires in
    sized_numbers_not _ _ _ _ said.its_n said.its_d said.subproblems _ c.numbers_fit.ensures c.if-numbers_fit.false
