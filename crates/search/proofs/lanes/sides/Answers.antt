-- `search::lanes::sides` meets its contract.
use mathlib.Core.Path.{refl}
use native.Mathlib.Omega.{arith}
use Rattle.problem.proofs.Copies.{zeros_at}
use Rattle.search.proofs.lanes.sides.Goals as goal

pub loop-i-init : goal.loop-i-init
loop-i-init c = record { long = refl; none = λ j h. zeros_at 64 j; all = λ j h k. absurd (omega arith) }
