-- The refusal of a request, worked out: RequestRefusals of Promises says exactly which number it gives.
use Rattle.std.specs.Prelude.{Bool, cond, List, [], ◌∷◌, ℕ, eqb}
use Rattle.problem.specs.Problem.{Problem}
use Rattle.splits.specs.Tests.Refusals.{refusal_of}
use Rattle.splits.specs.declared.subproblem.Subproblem.{Subproblem}
use Rattle.searches.specs.Machines.{Machine}
use Rattle.searches.specs.Steps.{Search}

-- By the top of a stack, `full` being whether there is no room.
unfoldable pub refusal_of_top : Problem → Bool → List ℕ → List Subproblem → ℕ
refusal_of_top p full r [] = 0
refusal_of_top p full r (P ∷ S) = cond (eqb (refusal_of p.n p.d P r) 0) (cond full 12 0) (refusal_of p.n p.d P r)

-- By a search: 11 before these.
unfoldable pub refusal_of_request : (p : Problem) (M : Machine) → List ℕ → Search M.Memory → ℕ
refusal_of_request p M r s =
    cond (eqb s.steps 4294967295) 11 (refusal_of_top p (M.full p r s.memory) r (M.stack p s.memory))
