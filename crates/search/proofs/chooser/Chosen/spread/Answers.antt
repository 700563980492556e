-- `Chosen::spread` meets its contract. The invariant: the pieces of the variables from j on are placed.
use mathlib.Core.Path.{◌≡◌}
use native.Mathlib.Omega.{arith}
use lib.ListN.{length}
use Rattle.search.proofs.chooser.Settling.{at_top}
use Rattle.search.proofs.chooser.Spreading.{spread_drop, spread_slot, spread_keep, spread_none, spread_last, spread_end}
use borrow.Author.Rules.{rules}
use Rattle.search.proofs.chooser.Chosen.spread.Goals as goal

pub loop-j-init : goal.loop-j-init
loop-j-init c =
    let k = c.requires in
    let at = at_top _ _ _ _ _ _ _ c.args.self.now.of_top k.0 in
    spread_none _ _ _ _ _ _ _ at k.1.1.0 _ (omega arith) k.1.0

pub write_slot-requires : goal.write_slot-requires
write_slot-requires c =
    let k = c.requires in
    let at = at_top _ _ _ _ _ _ _ c.args.self.now.of_top k.0 in
    let inv = c.loop-j.invariant in
    spread_slot _ _ _ _ _ _ _ at k.1.1.0 _ k.1.1.1 _ c.loop-j-test.true c.loop-j.auto.j _ _ _ (omega arith)
    k.1.0 inv _ c.further_piece.ensures c.if-out-j-ne0.true

pub loop-j-preserved-then-out-j-ne0 : goal.loop-j-preserved-then-out-j-ne0
loop-j-preserved-then-out-j-ne0 c =
    let k = c.requires in
    let at = at_top _ _ _ _ _ _ _ c.args.self.now.of_top k.0 in
    let inv = c.loop-j.invariant in
    spread_keep _ _ _ _ _ _ _ at k.1.1.0 _ k.1.1.1 _ c.loop-j-test.true
    c.loop-j.auto.j _ _ _ (omega arith) k.1.0 inv _ c.further_piece.ensures
    c.if-out-j-ne0.true _ c.write_slot.ensures (omega arith)

pub loop-j-preserved : goal.loop-j-preserved
loop-j-preserved c =
    let k = c.requires in
    let at = at_top _ _ _ _ _ _ _ c.args.self.now.of_top k.0 in
    let inv = c.loop-j.invariant in
    spread_drop _ _ _ _ _ _ _ at k.1.1.0 _ k.1.1.1 _ c.loop-j-test.true c.loop-j.auto.j _ _ _ (omega arith) k.1.0 inv
    c.if-out-j-ne0.false

pub write_slot-requires-2 : goal.write_slot-requires-2
write_slot-requires-2 c =
    let k = c.requires in
    let at = at_top _ _ _ _ _ _ _ c.args.self.now.of_top k.0 in
    let inv = c.loop-j.invariant in
    spread_last _ _ _ _ _ _ _ at k.1.1.0 _ (omega arith) k.1.0 _ _ _ inv (omega arith) _ c.precluded.ensures

pub returns : goal.returns
returns c =
    let k = c.requires in
    let at = at_top _ _ _ _ _ _ _ c.args.self.now.of_top k.0 in
    let inv = c.loop-j.invariant in
    let long : length c.precluded.result.domains ≡ 32 = search rules in
    spread_end _ _ _ _ _ _ _ at k.1.1.0 _ (omega arith) k.1.0 _ _ _ inv (omega arith) _
    c.precluded.ensures _ long c.write_slot-2.ensures (omega arith)
