-- `rules::wrong_with` meets its contract: the first n of n are all of them.
use Prim.Native.Nat.{◌-◌}
use native.Mathlib.Omega.{arith}
use Rattle.search.proofs.rules.Marked.{wrong_front}
use Rattle.search.proofs.rules.wrong_with.Goals as goal

pub returns-then-n-eq32 : goal.returns-then-n-eq32
returns-then-n-eq32 c =
    let start = c in
    wrong_front start.args.n (start.args.n - 0) start.args.domains.now start.args.slot.now _ start.requires.0 (omega arith)
    c.wrong_in.ensures
