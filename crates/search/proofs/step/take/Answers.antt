-- `search::step::take` meets its contract.
use mathlib.Core.Path.{refl}
use native.Mathlib.Omega.{arith}
use borrow.Author.Rules.{rules}
use Rattle.problem.proofs.Copies.{splice_twice}
use Rattle.problem.proofs.Refused.{never_0, handed_err}
use Rattle.search.proofs.step.Stepping.{below_slots, take_refused, take_reads, take_made, take_counts, take_steps, take_room, take_slot, take_taken}
use Rattle.search.proofs.step.take.Goals as goal

pub overflow_add-free : goal.overflow_add-free
overflow_add-free c = let few = c.requires.0.ready.fitting.few in search rules

pub overflow_sub-free : goal.overflow_sub-free
overflow_sub-free c =
    let a = c.args in
    below_slots _ _ a.tables.now _ a.top a.request.now _ c.requires.0

pub refusal_of-requires : goal.refusal_of-requires
refusal_of-requires c = (c.requires.0.ready.fitting, c.requires.1)

pub returns-in_err-refusal_of : goal.returns-in_err-refusal_of
returns-in_err-refusal_of c =
    rw (handed_err _ _ c.from_residual.ensures.1)
    (take_refused _ _ _ _ _ _ _ c.requires.0 _ c.in_err-refusal_of.ensures (never_0 _))

pub overflow_add-checks : goal.overflow_add-checks
overflow_add-checks c =
    let a = c.args in
    let told = take_made _ _ _ a.agenda.now a.top _ a.state c.requires.0 _
    c.in_ok-refusal_of.ensures refl _ c.checks-made.ensures in
    let few = take_counts _ _ _ a.agenda.now a.top _ a.state c.requires.0 _
    c.in_ok-refusal_of.ensures refl in
    record { fits = omega arith }

pub clear_slot-requires : goal.clear_slot-requires
clear_slot-requires c =
    let a = c.args in
    record {
      few = c.requires.0.ready.fitting.few;
      within = take_slot _ _ _ a.agenda.now a.top _ a.state c.requires.0 _
          c.in_ok-refusal_of.ensures refl;
    }

pub invariant_of-asked : goal.invariant_of-asked
invariant_of-asked c =
    let a = c.args in
    record {
      reads = take_reads _ _ _ a.agenda.now a.top _ a.state c.requires.0 _
          c.in_ok-refusal_of.ensures refl;
      whole = c.requires.1;
    }

pub place-subproblems-requires : goal.place-subproblems-requires
place-subproblems-requires c =
    let a = c.args in
    let room = take_room _ _ _ a.agenda.now a.top _ a.state c.requires.0 _
    c.in_ok-refusal_of.ensures refl in
    search rules

pub taken-requires : goal.taken-requires
taken-requires c =
    let a = c.args in
    take_steps _ _ _ a.agenda.now a.top _ a.state c.requires.0 _
    c.in_ok-refusal_of.ensures refl

pub returns : goal.returns
returns c =
    let a = c.args in
    let made = take_made _ _ _ a.agenda.now a.top _ a.state c.requires.0 _
    c.in_ok-refusal_of.ensures refl _ c.checks-made.ensures in
    rw c.taken.ensures
    (take_taken _ _ _ _ _ _ _ c.requires.0 _
    c.in_ok-refusal_of.ensures refl _ _ _
    (record {
      count = c.place-subproblems.ensures.count;
      words = splice_twice _ _ _ _ _ _ c.place-subproblems.ensures.words c.clear_slot.ensures;
    })
    (rw made refl))
