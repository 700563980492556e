-- `split::candidates` meets its contract, kind by kind.
use mathlib.Core.Logic.{⊎_elim}
use Rattle.std.proofs.Common.{arith}
use Rattle.std.proofs.lemmas.Bool.Decides.{nat_tests}
use Rattle.splits.specs.declared.kind.Kind.TheVariants.{Backtracking, ForwardChecking, Idc, Halving, Extraction}
use Rattle.splits.specs.Splits.{candidates}
use Rattle.splits.proofs.Numbering.{kind_is}
use Rattle.splits.proofs.split.candidates.Goals as goal

pub returns-in_default : goal.returns-in_default
unfolding candidates
returns-in_default c = ⊎_elim (λ low. grind (arith, nat_tests)) (λ high. grind (arith, nat_tests)) c.in_default.ensures.1

pub returns-in-Idc : goal.returns-in-Idc
unfolding candidates
returns-in-Idc c =
    ⊎_elim (λ e. let three = kind_is Idc c.in-Ok.ensures e in grind (arith, nat_tests))
    (λ e. let five = kind_is Extraction c.in-Ok.ensures e in grind (arith, nat_tests)) c.in-Idc.is

pub returns-in-Backtracking : goal.returns-in-Backtracking
unfolding candidates
returns-in-Backtracking c =
    ⊎_elim (λ e. let one = kind_is Backtracking c.in-Ok.ensures e in grind (arith, nat_tests))
    (⊎_elim (λ e. let two = kind_is ForwardChecking c.in-Ok.ensures e in grind (arith, nat_tests))
    (λ e. let four = kind_is Halving c.in-Ok.ensures e in grind (arith, nat_tests))) c.in-Backtracking.is
