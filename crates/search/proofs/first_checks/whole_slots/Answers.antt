-- `first_checks::whole_slots` meets its contract.
use Rattle.std.proofs.Common.{rules, tests}
use Rattle.search.specs.Tests.FirstChecks.{whole_slots}
use Rattle.search.proofs.first_checks.whole_slots.Goals.{then-words-n-eq0, else-words-n-eq0}
use Rattle.search.proofs.first_checks.whole_slots.Goals as goal

pub returns-then-slots-ge1 : goal.returns-then-slots-ge1
unfolding whole_slots
returns-then-slots-ge1 c = search (rules, tests)

pub returns-else-slots-ge1 : goal.returns-else-slots-ge1
unfolding whole_slots
returns-else-slots-ge1 c =
    elim c.if-words-n-eq0.branch [
      | then-words-n-eq0 w ↦ search (rules, tests)
      | else-words-n-eq0 w ↦ search (rules, tests)
    ]
