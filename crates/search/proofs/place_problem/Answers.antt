-- `search::place_problem` meets its contract.
use mathlib.Core.Path.{◌≡◌}
use native.Mathlib.Omega.{arith}
use lib.ListN.{length}
use borrow.Author.Rules.{rules}
use Rattle.search.proofs.Encoding.{length_slot}
use Rattle.search.proofs.Opening.{opens_none, opens_one}
use Rattle.search.proofs.place_problem.Goals as goal

pub returns-then-is_empty : goal.returns-then-is_empty
returns-then-is_empty c =
    opens_none _ _ _ c.requires _ c.holding-problem.ensures _
    c.is_empty.ensures _ c.clear.ensures c.if-is_empty.true

pub returns : goal.returns
returns c =
    let P = c.holding-problem.result in
    let long : length P.domains ≡ 32 = search rules in
    let slot = length_slot c.args.n P
    (omega (arith, c.requires.few)) in
    opens_one _ _ _ c.requires _
    c.holding-problem.ensures _ c.is_empty.ensures _
    c.clear.ensures _ c.if-is_empty.false
    c.write_slot.ensures slot
