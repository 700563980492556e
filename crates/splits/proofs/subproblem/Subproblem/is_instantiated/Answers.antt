-- `subproblem::Subproblem::is_instantiated` meets its contract.
use mathlib.Core.Path.{refl}
use mir.Syntax.{w32}
use mir.Val.{Fits}
use borrow.Author.Rules.{rules}
use borrow.Author.Tests.{le-ltb}
use Rattle.problem.specs.Masks.{bit}
use Rattle.problem.proofs.mask.Masks.{bit_above}
use Rattle.splits.proofs.subproblem.Subproblem.is_instantiated.Goals as goal

pub returns-then-variable-lt32 : goal.returns-then-variable-lt32
unfolding bit
returns-then-variable-lt32 c = refl

pub returns-else-variable-lt32 : goal.returns-else-variable-lt32
returns-else-variable-lt32 c =
    let h : Fits w32 c.args.self.marked = search rules in
    let past = c.if-variable-lt32.false in
    simp (bit_above 32 c.args.self.marked c.args.variable h.fits past, le-ltb _ _ past)
