-- `search::run` meets its contract.
use mathlib.Core.Path.{refl}
use Prim.Native.Nat.{ℕ, ◌<◌, ◌^◌}
use native.Mathlib.Omega.{arith}
use lib.ListN.{get_or}
use mir.Val.{Fits}
use mir.Syntax.{w32}
use borrow.Author.Rules.{rules}
use Rattle.problem.proofs.Refused.{never_0}
use Rattle.search.proofs.first_checks.Admitting.{run_ready}
use Rattle.search.proofs.Ending.{ends_refused, ends_stopped, stops_used, run_same}
use Rattle.search.proofs.run.Goals as goal

pub returns-in-Err : goal.returns-in-Err
returns-in-Err c = rw c.refused.ensures (ends_refused _ _ _ _ _ _ c.in-Err.ensures (never_0 _))

pub run_on-stop-requires : goal.run_on-stop-requires
run_on-stop-requires c =
    let a = c.args in
    let small : (i : ℕ) → get_or a.agenda.now i 0 < 2 ^ 16 = λ i. omega (arith, c.slice_known-1.given i) in
    let stepped : Fits w32 a.state.counts.steps.0 = search rules in
    run_ready _ _ a.domains.now _ _ _ _ refl small stepped.fits _ c.in-Ok.ensures

pub ended-requires : goal.ended-requires
ended-requires c = stops_used _ _ _ _ _ _ _ c.run_on-stop.ensures

pub returns-in-Ok : goal.returns-in-Ok
returns-in-Ok c =
    ends_stopped _ _ _ _ _ _ _ _ _ _ _ _ c.in-Ok.ensures
    refl c.run_on-stop.ensures
    (run_same _ _ c.args.domains.now
    c.args.tables.now _ _ _ _)
    c.ended.ensures
