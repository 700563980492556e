-- The request that the chooser's rule makes of a top subproblem, by the number of slots that its pieces may take.
use Rattle.std.specs.Prelude.{cond, ◌||◌, List, ℕ, length, ltb}
use Rattle.problem.specs.Masks.{lowest}
use Rattle.problem.specs.Problem.{table_of}
use Rattle.splits.specs.Subproblems.{domain, empty}
use Rattle.splits.specs.Splits.{precluded, pieces}
use Rattle.splits.specs.declared.subproblem.Subproblem.{Subproblem}
use Rattle.searches.specs.Chooser.{fewest, request}

-- The kind: 3, but 2 where the precluded piece is empty or the free slots do not take the pieces of kind 3.
unfoldable pub kind_for : ℕ → ℕ → List ℕ → Subproblem → ℕ → ℕ → ℕ → ℕ
kind_for n d tables P V' v free =
    cond (empty n (precluded n (table_of n d tables) P V' v) || ltb free (length (pieces n (table_of n d tables) P (request 3 V' v)))) 2 3

-- The request that the rule chooses.
unfoldable pub chosen_for : ℕ → ℕ → List ℕ → Subproblem → ℕ → List ℕ
chosen_for n d tables P free =
    request (kind_for n d tables P (fewest n P) (lowest (domain P (fewest n P))) free) (fewest n P) (lowest (domain P (fewest n P)))
