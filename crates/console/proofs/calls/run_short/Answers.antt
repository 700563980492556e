-- `console::calls::run_short` meets its contract.
use mathlib.Core.Path.{refl}
use native.Mathlib.Omega.{arith}
use borrow.Author.Rules.{rules}
use mir.Val.{Fits}
use mir.Syntax.{w32}
use Rattle.word_bytes.proofs.Fitting.{words_said}
use Rattle.console.proofs.rooms.Testing.{listed_is, listed_even}
use Rattle.console.proofs.calls.Lending.{said_one, left_bytes, few_runs, runs_at}
use Rattle.console.proofs.calls.run_short.Goals as goal

pub write_back-requires : goal.write_back-requires
write_back-requires c =
    let called = c in
    let turned = called in
    let known = turned in
    let start = known in
    let fits = start.requires.0 in
    let agenda = said_one fits refl turned.words_of-room.ensures in
    let list = words_said (listed_even _ _ (listed_is _ _ start.args.run.now.listed)) start.requires.1 called.words_of-count.ensures in
    let stepped : Fits w32 start.args.run.now.state.counts.steps.0 = search rules in
    let runs = few_runs _ _ _ _ called.run-ran.new.agenda _ _ agenda list (λ i. omega (arith, known.slice_known-1.given i))
    stepped.fits start.args.run.now.narrow (listed_is _ _ start.args.run.now.listed) called.run-ran.ensures in
    let bytes = left_bytes called.run-ran.new.agenda turned.words_of-room.ensures.lent called.run-ran.auto.agenda
    start.args.agenda.now agenda.count fits.even in
    (start.args.run.now.listed.0, (start.args.run.now.narrow, (runs.1.subproblems, bytes)))

pub returns : goal.returns
returns c =
    let called = c in
    let turned = called in
    let known = turned in
    let start = known in
    let fits = start.requires.0 in
    let agenda = said_one fits refl turned.words_of-room.ensures in
    let list = words_said (listed_even _ _ (listed_is _ _ start.args.run.now.listed)) start.requires.1 called.words_of-count.ensures in
    let stepped : Fits w32 start.args.run.now.state.counts.steps.0 = search rules in
    let runs = few_runs _ _ _ _ called.run-ran.new.agenda _ _ agenda list (λ i. omega (arith, known.slice_known-1.given i))
    stepped.fits start.args.run.now.narrow (listed_is _ _ start.args.run.now.listed) called.run-ran.ensures in (
      runs_at called.run-ran.new.agenda agenda turned.words_of-room.ensures.lent fits.even called.run-ran.auto.agenda
          (λ i. omega (arith, known.slice_known-1.given i)) stepped.fits
          (listed_is _ _ start.args.run.now.listed) runs.0 c.write_back.ensures,
      runs.1,
    )
