-- `Asked::place` meets its contract. The invariant: the candidates from k on are placed.
use mathlib.Core.Bool.{not}
use mathlib.Core.Path.{◌≡◌, ap}
use native.Mathlib.Omega.{arith}
use lib.ListN.{length}
use borrow.Author.Tests.{not-false}
use borrow.Author.Rules.{rules}
use Rattle.splits.proofs.split.ByKind.{few}
use Rattle.search.proofs.step.Gathering.{gather_none, gather_less, gather_drop, gather_slot, gather_keep, gather_end}
use Rattle.search.proofs.step.Asked.place.Goals as goal

pub loop-k-init : goal.loop-k-init
loop-k-init c =
    let long : length c.args.self.now.top.domains ≡ 32 = search rules in
    gather_none _ _ _ _ _ c.args.self.now.reads _ _ _ long c.candidates-candidates.ensures

pub write_slot-requires : goal.write_slot-requires
write_slot-requires c =
    let s = c.args.self.now in
    let inv = c.loop-k.invariant in
    gather_slot _ _ _ _ _ s.reads _ _ _ _ _ inv _ c.candidates-candidates.ensures
    c.loop-k.auto.k c.loop-k-test.true _ c.piece-piece.ensures _
    c.is_empty.ensures (ap not c.if-not-is_empty.true) (few _ _ _ _ s.reads) c.requires

pub loop-k-preserved-then-not-is_empty : goal.loop-k-preserved-then-not-is_empty
loop-k-preserved-then-not-is_empty c =
    let s = c.args.self.now in
    let inv = c.loop-k.invariant in
    let long : length c.piece-piece.result.domains ≡ 32 = search rules in
    gather_keep _ _ _ _ _ s.reads _ _ _ _ _ inv _
    c.candidates-candidates.ensures c.loop-k.auto.k
    c.loop-k-test.true _
    c.piece-piece.ensures _ c.is_empty.ensures
    (ap not c.if-not-is_empty.true) _ (few _ _ _ _ s.reads) c.requires long c.write_slot.ensures
    (search rules)

pub loop-k-preserved-else-not-is_empty : goal.loop-k-preserved-else-not-is_empty
loop-k-preserved-else-not-is_empty c =
    let s = c.args.self.now in
    let inv = c.loop-k.invariant in
    gather_drop _ _ _ _ _ s.reads _ _ _ _ _ inv _ c.candidates-candidates.ensures c.loop-k.auto.k
    c.loop-k-test.true _ c.piece-piece.ensures _ c.is_empty.ensures
    (ap not c.if-not-is_empty.false)

pub loop-k-preserved : goal.loop-k-preserved
loop-k-preserved c =
    let s = c.args.self.now in
    let inv = c.loop-k.invariant in
    gather_less _ _ _ _ _ s.reads _ _ _ _ _ inv c.loop-k-test.true
    (c.keeps_none.ensures (not-false _ (ap not c.if-not-keeps_none.false)))

pub returns : goal.returns
returns c = gather_end _ _ _ _ _ c.args.self.now.reads _ _ _ _ _ c.loop-k.invariant (omega arith)
