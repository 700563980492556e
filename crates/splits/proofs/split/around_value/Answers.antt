-- `split::around_value` meets its contract, kind by kind.
use mathlib.Core.Logic.{inl}
use mathlib.Core.Path.{ap}
use Prim.Native.Nat.{◌≤◌}
use Rattle.splits.specs.Kinds.{kind_number}
use Rattle.splits.proofs.Numbering.{kind_third}
use Rattle.splits.proofs.split.ByKind.{around_out, around_1, around_2, around_3, peel_place}
use Rattle.splits.proofs.split.around_value.Goals as goal

pub returns-in_default : goal.returns-in_default
returns-in_default c = around_out _ _ _ _ _ c.in_default.ensures _

pub returns-in-Backtracking : goal.returns-in-Backtracking
returns-in-Backtracking c =
    around_1 _ _ _ _ _ _ c.requires.1.0 _ c.in-Some.ensures _ _ (ap kind_number c.in-Backtracking.is) c.backtracking.ensures

pub returns-in-ForwardChecking : goal.returns-in-ForwardChecking
returns-in-ForwardChecking c =
    around_2 _ _ _ _ _ _ c.requires.1.0 _ c.in-Some.ensures _ _ (ap kind_number c.in-ForwardChecking.is) c.forward_checking.ensures

pub idc-requires : goal.idc-requires
idc-requires c =
    let p = c.requires in
    let third = kind_third c.args.kind (rw p.1.0 p.1.1) c.in_default-kind.not-Backtracking c.in_default-kind.not-ForwardChecking in
    let few : c.args.k ≤ c.args.n = peel_place _ _ _ p.0 _ p.1.0 (inl third) in
    rw c.in-Some.ensures.variables few

pub returns-in_default-kind : goal.returns-in_default-kind
returns-in_default-kind c =
    let p = c.requires in
    let third = kind_third c.args.kind (rw p.1.0 p.1.1) c.in_default-kind.not-Backtracking c.in_default-kind.not-ForwardChecking in
    around_3 _ _ _ _ _ _ p.1.0 _ c.in-Some.ensures _ _ third c.idc.ensures
