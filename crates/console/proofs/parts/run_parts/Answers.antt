-- `console::parts::run_parts` meets its contract. The invariant: whatever is run of what the parts so far left is run after them.
use mathlib.Core.Path.{refl}
use Prim.Native.Nat.{ℕ, ◌^◌, ◌<◌}
use native.Mathlib.Omega.{arith}
use lib.ListN.{get_or}
use Rattle.console.proofs.rooms.Testing.{listed_is}
use Rattle.console.proofs.parts.SoFar.{so_far_none, part_taken, go_again, stepped_again, returns_end, returns_stop}
use borrow.Author.Rules.{rules}
use Rattle.console.proofs.parts.run_parts.Goals.{then-end-run-via-then-end-run, then-end-run-via-else-end-run+then-not-goes_on}
use Rattle.console.proofs.parts.run_parts.Goals as goal

pub loop-at-init : goal.loop-at-init
loop-at-init c =
    record {
      far = so_far_none _ _ _ _ _ _ _;
      long = refl;
      small = λ i. omega (arith, c.type_inv.agenda i);
      stepped = search rules;
      begun = search rules;
    }

pub end_of-end-requires : goal.end_of-end-requires
end_of-end-requires c = (listed_is _ _ c.args.run.now.listed, (c.loop-at.invariant.far.inside, c.loop-at.invariant.far.place))

pub overflow_add-taken : goal.overflow_add-taken
overflow_add-taken c =
    let part = c.end_of-end.ensures in
    let inv = c.loop-at.invariant in
    record { fits = omega (arith, part_taken inv part c.run_part-ran.ensures, part.within, part.after, inv.far.few) }

pub returns-then-end-run : goal.returns-then-end-run
returns-then-end-run c =
    let part = c.end_of-end.ensures in
    let small : (i : ℕ) → get_or c.args.agenda.now i 0 < 2 ^ 16 = λ i. omega (arith, c.slice_known-1.given i) in
    elim c.then-end-run.branch [
      | then-end-run-via-then-end-run w ↦
          returns_end c.loop-at.invariant part c.run_part-ran.ensures (listed_is _ _ c.args.run.now.listed) small c.args.run.now.narrow w.if-end-run.true
      | then-end-run-via-else-end-run+then-not-goes_on w ↦
          returns_stop c.loop-at.invariant part c.run_part-ran.ensures (listed_is _ _ c.args.run.now.listed) small c.args.run.now.narrow _ w.goes_on.ensures w.if-not-goes_on.true
    ]

pub loop-at-preserved : goal.loop-at-preserved
loop-at-preserved c =
    let inv = c.loop-at.invariant in
    let part = c.end_of-end.ensures in
    let ran = c.run_part-ran.ensures in
    record {
      far = go_again inv part ran _ c.goes_on.ensures c.if-not-goes_on.false;
      long = search rules;
      small = λ i. omega (arith, c.type_inv.agenda i);
      stepped = stepped_again inv part ran;
      begun = inv.begun;
    }
