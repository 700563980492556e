-- `cases::by_hand` meets its contract. The file keeps its length.
use Rattle.std.specs.Prelude.{◌≡◌, length}
use Rattle.cases.proofs.by_hand.Given as goal

abbrev pub invariant-loop-k : goal.invariant-loop-k
invariant-loop-k l = length l.file ≡ 512
