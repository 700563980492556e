-- A subproblem: a domain for each variable and the set of those that a split instantiated.
use Rattle.std.specs.Prelude.{◌≡◌, Bool, ℕ, ◌≤◌, ◌<◌, get_or, eqb}
use Rattle.problem.specs.Masks.{bit, ◌∈◌, Part, size}
use Rattle.problem.specs.Problem.{Problem, Solution, possibilities}
use Rattle.splits.specs.declared.subproblem.Subproblem.{Subproblem}
use Rattle.problem.specs.Lists.{some, every}

-- The domain of variable i; past the last the empty mask.
abbrev pub domain : Subproblem → ℕ → ℕ
domain P i = get_or P.domains i 0

-- Variable i is instantiated: marked by a split.
abbrev pub Instantiated : Subproblem → ℕ → Type 0
Instantiated P i = i ∈ P.marked

-- The rules for subproblems on the agenda.
pub record Rules (p : Problem) (P : Subproblem) : Type 0 where
  pub filled : (i : ℕ) → i < p.n → domain P i ≡ 0 → ⊥
  pub part : (i : ℕ) → i < p.n → Part (domain P i) (p.domain i)
  pub one_value : (i : ℕ) → i < p.n → Instantiated P i → size (domain P i) ≡ 1
  pub mutual_values : (i j a b : ℕ) → i < p.n → j < p.n → (i ≡ j → ⊥) → Instantiated P i → Instantiated P j
      → a ∈ domain P i → b ∈ domain P j → b ∈ p.allowed i j a
  pub marks : (i : ℕ) → p.n ≤ i → Instantiated P i → ⊥

-- f is a solution of the subproblem P.
abbrev pub SolutionOf : Problem → Subproblem → (ℕ → ℕ) → Type 0
SolutionOf p P f = Solution p.n p.allowed (domain P) f

-- The size of a subproblem of n variables: the product of its domain sizes.
abbrev pub size_of : ℕ → Subproblem → ℕ
size_of n P = possibilities n (domain P)

-- Whether one of the n domains is empty.
unfoldable pub empty : ℕ → Subproblem → Bool
empty n P = some n (λ i. eqb (domain P i) 0)

-- Whether each of the n variables is instantiated.
unfoldable pub all_instantiated : ℕ → Subproblem → Bool
all_instantiated n P = every n (λ i. eqb (bit P.marked i) 1)
