-- `Chosen::put_two` meets its contract.
use mathlib.Core.Path.{◌≡◌}
use native.Mathlib.Omega.{arith}
use lib.ListN.{length}
use Rattle.search.proofs.chooser.Settling.{at_top}
use Rattle.search.proofs.chooser.Dividing.{two_slot, two_end}
use borrow.Author.Rules.{rules}
use Rattle.search.proofs.chooser.Chosen.put_two.Goals as goal

pub write_slot-requires-2 : goal.write_slot-requires-2
write_slot-requires-2 c =
    let k = c.requires in
    let at = at_top _ _ _ _ _ _ _ c.args.self.now.of_top k.0 in
    let long : length c.rest.result.domains ≡ 32 = search rules in
    two_slot _ _ _ _ _ _ _ at k.1.1 _ (omega arith) k.1.0 _ c.rest.ensures _
    c.precluded.ensures _ long c.write_slot.ensures (omega arith)

pub returns : goal.returns
returns c =
    let k = c.requires in
    let at = at_top _ _ _ _ _ _ _ c.args.self.now.of_top k.0 in
    let long : length c.rest.result.domains ≡ 32 = search rules in
    let last : length c.precluded.result.domains ≡ 32 = search rules in
    two_end _ _ _ _ _ _ _ at k.1.1 _ (omega arith) k.1.0 _
    c.rest.ensures _ c.precluded.ensures _ long
    c.write_slot.ensures (omega arith) _ last c.write_slot-2.ensures
    (omega arith)
