-- `splits::checks::checks` meets its contract, kind by kind.
use mathlib.Core.Path.{refl, ap}
use mathlib.Core.Logic.{inl, inr, ⊎_elim}
use native.Mathlib.Omega.{arith}
use Rattle.splits.specs.Kinds.{kind_number}
use Rattle.splits.specs.declared.kind.Kind.TheVariants.{ForwardChecking, Idc, Halving, Extraction}
use Rattle.splits.proofs.Numbering.{kind_is}
use Rattle.splits.proofs.split.ByKind.{checks_out, checks_1, checks_2_3, checks_none}
use Rattle.splits.proofs.checks.checks.Goals as goal

pub returns-in_default : goal.returns-in_default
returns-in_default c = checks_out _ _ _ _ _ c.in_default.ensures

pub returns-in_default-kind : goal.returns-in_default-kind
returns-in_default-kind c =
    checks_none _ _ _ _ _ _ refl
    (λ e. ⊎_elim (λ l. absurd (omega arith)) (λ l. absurd (omega arith)) c.in_default-kind.ensures.1)
    (⊎_elim inl (λ l. inr (omega arith)) c.in_default-kind.ensures.1)

pub returns-in-Backtracking : goal.returns-in-Backtracking
returns-in-Backtracking c =
    checks_1 _ _ _ _ _ _ c.in-Ok.ensures _ c.in-Some.ensures _ (ap kind_number c.in-Backtracking.is) c.look.ensures.counted

pub returns-in-ForwardChecking : goal.returns-in-ForwardChecking
returns-in-ForwardChecking c =
    ⊎_elim
    (λ e. checks_2_3 _ _ _ _ _ _ (kind_is ForwardChecking c.in-Ok.ensures e) _ c.in-Some.ensures _
    (λ z. absurd (omega arith)) (omega arith) (omega arith) c.values_in_others.ensures)
    (λ e. checks_2_3 _ _ _ _ _ _ (kind_is Idc c.in-Ok.ensures e) _ c.in-Some.ensures _
    (λ z. absurd (omega arith)) (omega arith) (omega arith) c.values_in_others.ensures)
    c.in-ForwardChecking.is

pub returns-in-Halving : goal.returns-in-Halving
returns-in-Halving c =
    ⊎_elim
    (λ e. checks_none _ _ _ _ _ _ (kind_is Halving c.in-Ok.ensures e) (λ z. absurd (omega arith)) (inr (omega arith)))
    (λ e. checks_none _ _ _ _ _ _ (kind_is Extraction c.in-Ok.ensures e) (λ z. absurd (omega arith)) (inr (omega arith)))
    c.in-Halving.is
