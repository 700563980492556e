-- `console::calls::run_long` meets its contract.
use mathlib.Core.Path.{refl}
use native.Mathlib.Omega.{arith}
use borrow.Author.Rules.{rules}
use mir.Val.{Fits}
use mir.Syntax.{w32}
use Rattle.console.proofs.rooms.Testing.{listed_is}
use Rattle.console.proofs.calls.Lending.{said_one, left_bytes, runs_at}
use Rattle.console.proofs.calls.run_long.Goals as goal

pub write_back-requires : goal.write_back-requires
write_back-requires c =
    let called = c in
    let turned = called in
    let known = turned in
    let start = known in
    let fits = start.requires in
    let agenda = said_one fits refl turned.words_of-room.ensures in
    let stepped : Fits w32 start.args.run.now.state.counts.steps.0 = search rules in
    let runs = called.run_parts-ran.ensures in
    let bytes = left_bytes called.run_parts-ran.new.agenda turned.words_of-room.ensures.lent called.run_parts-ran.auto.agenda
    start.args.agenda.now agenda.count fits.even in
    (start.args.run.now.listed.0, (start.args.run.now.narrow, (runs.1.subproblems, bytes)))

pub returns : goal.returns
returns c =
    let called = c in
    let turned = called in
    let known = turned in
    let start = known in
    let fits = start.requires in
    let agenda = said_one fits refl turned.words_of-room.ensures in
    let stepped : Fits w32 start.args.run.now.state.counts.steps.0 = search rules in
    let runs = called.run_parts-ran.ensures in (
      runs_at called.run_parts-ran.new.agenda agenda turned.words_of-room.ensures.lent fits.even called.run_parts-ran.auto.agenda
          (λ i. omega (arith, known.slice_known-1.given i)) stepped.fits
          (listed_is _ _ start.args.run.now.listed) runs.0 c.write_back.ensures,
      runs.1,
    )
