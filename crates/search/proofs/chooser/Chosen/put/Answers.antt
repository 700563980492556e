-- `Chosen::put` meets its contract.
use mathlib.Core.Bool.{not}
use mathlib.Core.Path.{sym, ◌∙◌, ap}
use native.Mathlib.Omega.{arith}
use borrow.Author.Tests.{not-true, not-false}
use Rattle.search.proofs.chooser.Settling.{at_top}
use Rattle.search.proofs.chooser.Spreading.{count_three}
use Rattle.search.proofs.chooser.Dividing.{top_slot, room_three, room_two, puts_left, puts_three, puts_two, puts_none}
use Rattle.search.proofs.chooser.Chosen.put.Goals as goal

pub returns-then-not-is_several : goal.returns-then-not-is_several
returns-then-not-is_several c =
    let at = at_top _ _ _ _ _ _ _ c.args.self.now.of_top c.requires in
    puts_left _ _ _ _ _ _ _ at
    (sym c.is_several.ensures ∙ not-true _ (ap not c.if-not-is_several.true)) _ _
    c.settle.ensures

pub overflow_sub-free : goal.overflow_sub-free
overflow_sub-free c =
    let at = at_top _ _ _ _ _ _ _ c.args.self.now.of_top c.requires in let s = top_slot _ _ _ _ _ _ _ at in omega arith

pub spread-requires : goal.spread-requires
spread-requires c =
    let at = at_top _ _ _ _ _ _ _ c.args.self.now.of_top c.requires in
    let several =
    (sym c.is_several.ensures ∙ not-false _ (ap not c.if-not-is_several.false)) in
    let count = count_three _ _ _ _ _ _ _ at several _
    c.further-further.ensures in (
      c.requires,
      (
        room_three _ _ _ _ _ _ _ at
            (omega (arith, count, c.filled.ensures)),
        (several, c.further-further.ensures),
      ),
    )

pub returns-then-filled-free : goal.returns-then-filled-free
returns-then-filled-free c =
    let at = at_top _ _ _ _ _ _ _ c.args.self.now.of_top c.requires in
    let several =
    (sym c.is_several.ensures ∙ not-false _
    (ap not c.if-not-is_several.false)) in
    let count = count_three _ _ _ _ _ _ _ at
    several _ c.further-further.ensures in
    puts_three _ _ _ _ _ _ _ at several
    (omega (arith, count, c.filled.ensures)) _ _ c.spread.ensures

pub returns-then-free-lt2 : goal.returns-then-free-lt2
returns-then-free-lt2 c =
    let at = at_top _ _ _ _ _ _ _ c.args.self.now.of_top c.requires in
    let several =
    (sym c.is_several.ensures ∙ not-false _ (ap not c.if-not-is_several.false)) in
    let count = count_three _ _ _ _ _ _ _ at several _
    c.further-further.ensures in
    puts_none _ _ _ _ _ _ _ at several
    (omega (arith, count, c.filled.ensures)) c.if-free-lt2.true

pub put_two-requires : goal.put_two-requires
put_two-requires c =
    let at = at_top _ _ _ _ _ _ _ c.args.self.now.of_top c.requires in
    let several =
    (sym c.is_several.ensures ∙ not-false _
    (ap not c.if-not-is_several.false)) in (
      c.requires,
      (room_two _ _ _ _ _ _ _ at several (omega arith), several),
    )

pub returns : goal.returns
returns c =
    let at = at_top _ _ _ _ _ _ _ c.args.self.now.of_top c.requires in
    let several =
    (sym c.is_several.ensures ∙ not-false _
    (ap not c.if-not-is_several.false)) in
    let count = count_three _ _ _ _ _ _ _ at several _
    c.further-further.ensures in
    puts_two _ _ _ _ _ _ _ at several
    (omega (arith, count, c.filled.ensures)) (omega arith) _ _ c.put_two.ensures
