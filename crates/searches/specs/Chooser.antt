-- The house chooser, over any machine.
use Rattle.std.specs.Prelude.{Bool, cond, ◌&&◌, ◌||◌, List, [], ◌∷◌, ℕ, zero, suc, ◌+◌, eqb, ltb}
use Rattle.problem.specs.Masks.{bit, size, lowest}
use Rattle.problem.specs.Problem.{Problem}
use Rattle.splits.specs.Subproblems.{domain, empty}
use Rattle.splits.specs.Splits.{precluded}
use Rattle.splits.specs.declared.subproblem.Subproblem.{Subproblem}
use Rattle.searches.specs.Verdicts.{finished}
use Rattle.searches.specs.Machines.{Machine}
use Rattle.searches.specs.Steps.{Search, Stopped, stop, step}
use Rattle.searches.specs.Tests.Refusal.{refusal_of_request}

-- Of the first i of n variables, of those not instantiated, the first that has no more values than any other; n where there is none.
unfoldable pub fewest_of : ℕ → Subproblem → ℕ → ℕ
fewest_of n P zero = n
fewest_of n P (suc i) =
    cond (eqb (bit P.marked i) 0 && (eqb (fewest_of n P i) n || ltb (size (domain P i)) (size (domain P (fewest_of n P i))))) i (fewest_of n P i)

abbrev pub fewest : ℕ → Subproblem → ℕ
fewest n P = fewest_of n P n

-- A request of a kind on V with v, and no targets.
abbrev pub request : ℕ → ℕ → ℕ → List ℕ
request kind V' v = kind ∷ V' ∷ v ∷ []

-- A request of a kind on that variable of P and its lowest value.
abbrev pub request_for : Problem → Subproblem → ℕ → List ℕ
request_for p P kind = request kind (fewest p.n P) (lowest (domain P (fewest p.n P)))

-- The request for a stack: of kind 3, but of kind 2 where the precluded piece is empty or kind 3 finds no room, which `full` says of a request.
unfoldable pub chosen_of : Problem → (List ℕ → Bool) → List Subproblem → List ℕ
chosen_of p full [] = []
chosen_of p full (P ∷ S) =
    let V' = fewest p.n P in
    cond (empty p.n (precluded p.n p.allowed P V' (lowest (domain P V'))) || full (request_for p P 3)) (request_for p P 2) (request_for p P 3)

unfoldable pub chosen : (p : Problem) (M : Machine) → M.Memory → List ℕ
chosen p M m = chosen_of p (λ r. M.full p r m) (M.stack p m)

-- The chooser runs up to a number of steps, as a run does, by the requests that it chooses.
unfoldable pub choose_from : (p : Problem) (M : Machine) → ℕ → Search M.Memory → ℕ → Stopped M.Memory
choose_from p M zero s k = stop s 0 k
choose_from p M (suc m) s k =
    cond (finished p.n (M.stack p s.memory)) (stop s 0 k)
    (cond (eqb (refusal_of_request p M (chosen p M s.memory) s) 0) (choose_from p M m (step p M (chosen p M s.memory) s) (k + 1))
    (stop s (refusal_of_request p M (chosen p M s.memory) s) k))

abbrev pub choose : (p : Problem) (M : Machine) → ℕ → Search M.Memory → Stopped M.Memory
choose p M limit s = choose_from p M limit s 0
