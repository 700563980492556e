-- A run of requests, over any machine.
use Rattle.std.specs.Prelude.{cond, List, [], ◌∷◌, ℕ, zero, suc, ◌+◌, ◌/◌, length, take, drop, eqb}
use Rattle.problem.specs.Problem.{Problem}
use Rattle.searches.specs.Verdicts.{finished}
use Rattle.searches.specs.Machines.{Machine}
use Rattle.searches.specs.Steps.{Search, step, Stopped, stop}
use Rattle.searches.specs.Tests.Refusal.{refusal_of_request}

-- A run takes requests until the search is finished, one is refused, or the list ends; `k` were taken before.
unfoldable pub run_from : (p : Problem) (M : Machine) → List (List ℕ) → Search M.Memory → ℕ → Stopped M.Memory
run_from p M [] s k = stop s 0 k
run_from p M (r ∷ rs) s k =
    cond (finished p.n (M.stack p s.memory)) (stop s 0 k)
    (cond (eqb (refusal_of_request p M r s) 0) (run_from p M rs (step p M r s) (k + 1)) (stop s (refusal_of_request p M r s) k))

abbrev pub run : (p : Problem) (M : Machine) → List (List ℕ) → Search M.Memory → Stopped M.Memory
run p M rs s = run_from p M rs s 0

-- A list of words cut into m requests of so many words each.
unfoldable pub cut_into : ℕ → ℕ → List ℕ → List (List ℕ)
cut_into zero size words = []
cut_into (suc m) size words = take size words ∷ cut_into m size (drop size words)

-- The requests that a list of words holds, each n + 3 words.
unfoldable pub requests_in : ℕ → List ℕ → List (List ℕ)
requests_in n words = cut_into (length words / (n + 3)) (n + 3) words
