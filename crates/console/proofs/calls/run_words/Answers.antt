-- `console::calls::run_words` meets its contract.
use mathlib.Core.Path.{refl}
use Rattle.console.proofs.rooms.Testing.{few_short}
use Rattle.console.proofs.calls.Lending.{said_one, runs_words}
use Rattle.console.proofs.calls.run_words.Goals as goal

pub run_short-requires : goal.run_short-requires
run_short-requires c =
    let pre = c.requires in
    let (fits, list) = few_short c.few.ensures c.if-few.true pre.0.of_agenda in
    (fits, list)

pub returns-then-few : goal.returns-then-few
returns-then-few c =
    let tables = c in
    let domains = tables in
    let room = domains.requires.0 in
    runs_words (said_one room.of_domains refl domains.words_of-variables.ensures) (said_one room.of_tables refl tables.words_of-masks.ensures)
    c.run_short.ensures

pub returns : goal.returns
returns c =
    let tables = c in
    let domains = tables in
    let room = domains.requires.0 in
    runs_words (said_one room.of_domains refl domains.words_of-variables.ensures) (said_one room.of_tables refl tables.words_of-masks.ensures)
    c.run_long.ensures
