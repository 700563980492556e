-- `reading::Content::refusal` meets its contract.
use mathlib.Core.Path.{refl, sym}
use native.Mathlib.Omega.{arith}
use Rattle.problem.proofs.Refused.{never_0, handed_err}
use Rattle.files.proofs.reading.Refused.{refused_15, refused_3, slots_last, twelve, none_left}
use Rattle.files.proofs.reading.Content.refusal.Goals as goal

pub returns-in_err-refusal_of_rules : goal.returns-in_err-refusal_of_rules
returns-in_err-refusal_of_rules c =
    rw (handed_err _ _ c.from_residual.ensures.1) (refused_15 _ _ _ _ _ c.args.self.now.read.whole c.in_err-refusal_of_rules.ensures (never_0 _))

pub returns-in_err-sizes_refusal : goal.returns-in_err-sizes_refusal
returns-in_err-sizes_refusal c =
    let read = c.args.self.now.read in
    rw (handed_err _ _ c.from_residual-in_err-sizes_refusal.ensures.1)
    (refused_3 _ _ _ _ _ _ _ read.header.its_n read.header.its_d read.header.subproblems _ read.whole (sym c.in_ok-refusal_of_rules.ensures)
    c.in_err-sizes_refusal.ensures (never_0 _))

pub overflow_add-n : goal.overflow_add-n
overflow_add-n c = omega (arith, c.args.self.now.sizes.numbers.variables)

pub returns-then-agenda-n : goal.returns-then-agenda-n
returns-then-agenda-n c =
    let read = c.args.self.now.read in
    slots_last _ _ _ _ _ _ _ read.header.its_n read.header.its_d read.header.subproblems _ _ read.whole (sym c.in_ok-refusal_of_rules.ensures)
    c.in_ok-sizes_refusal.ensures refl (twelve _ _ _ c.if-agenda-n.true)

pub returns : goal.returns
returns c =
    let read = c.args.self.now.read in
    slots_last _ _ _ _ _ _ _ read.header.its_n read.header.its_d read.header.subproblems _ _ read.whole (sym c.in_ok-refusal_of_rules.ensures)
    c.in_ok-sizes_refusal.ensures refl (none_left _ _ _ c.if-agenda-n.false)
