-- `rules::all_obey` meets its contract: the loop's invariant: the subproblem of every slot passed obeys the rules.
use mathlib.Core.Bool.{true}
use mathlib.Core.Path.{◌≡◌}
use Rattle.problem.specs.Lists.{every}
use Rattle.problem.specs.Problem.{problem_of}
use Rattle.search.proofs.first_checks.FirstParts.{slot_obeys}
use Rattle.search.proofs.rules.all_obey.Given as goal

abbrev pub invariant-loop-k : goal.invariant-loop-k
invariant-loop-k l = (every l.k (slot_obeys (problem_of l.n l.d l.domains l.tables) l.n l.agenda) ≡ true) × (l.kept ≡ record { n = l.n; d = l.d; tables = l.tables })
