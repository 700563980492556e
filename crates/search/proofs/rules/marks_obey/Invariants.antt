-- `rules::marks_obey` meets its contract: the loop's invariant: every variable before the next instantiated one is as it must be.
use mathlib.Core.Bool.{true}
use mathlib.Core.Path.{◌≡◌}
use Prim.Native.Nat.{◌-◌, ◌<◌}
use Rattle.problem.specs.Masks.{bit}
use Rattle.problem.specs.Problem.{table_of}
use Rattle.problem.specs.Lists.{every}
use Rattle.search.specs.Agenda.{subproblem_of}
use Rattle.search.specs.Loops.FirstTests.{mark_obeys}
use Rattle.search.proofs.rules.marks_obey.Given as goal

abbrev pub invariant-loop-i : goal.invariant-loop-i
invariant-loop-i l =
    let k = l.initial.kept in
    (every l.i (mark_obeys k.n (table_of k.n k.d k.tables) (subproblem_of k.n l.slot)) ≡ true) × ((l.i < 32 → bit l.marked l.i ≡ 1) × (l.kept ≡ k))

abbrev pub decreases-loop-i : goal.decreases-loop-i
decreases-loop-i l = l.n - l.i
