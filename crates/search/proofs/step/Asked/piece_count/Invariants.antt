-- `Asked::piece_count` meets its contract. The invariant: the count is of the first k candidates.
use mathlib.Core.Path.{◌≡◌}
use Prim.Native.Nat.{◌≤◌}
use lib.ListN.{length}
use Rattle.problem.specs.Problem.{table_of}
use Rattle.splits.specs.Splits.{candidate}
use Rattle.search.proofs.step.Candidates.{firsts}
use Rattle.search.proofs.step.Asked.piece_count.Given as goal

abbrev pub invariant-loop-k : goal.invariant-loop-k
invariant-loop-k l = let s = l.self in (l.count ≤ l.k) × (l.count ≡ length (firsts s.n (candidate s.n (table_of s.n s.d s.tables.now) s.top s.request.now) l.k))
