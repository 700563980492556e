-- A machine: whatever keeps the stack of subproblems of a search in its memory.
use Rattle.std.specs.Prelude.{◌≡◌, Bool, false, List, [], ◌∷◌, ◌++◌, ℕ}
use Rattle.problem.specs.Problem.{Problem}
use Rattle.splits.specs.Splits.{pieces}
use Rattle.splits.specs.Refusals.{Accepted}
use Rattle.splits.specs.declared.subproblem.Subproblem.{Subproblem}

-- The stack, top first, after a request: the top gives way to its pieces, the first named on top.
unfoldable pub split_top : Problem → List ℕ → List Subproblem → List Subproblem
split_top p r [] = []
split_top p r (P ∷ S) = pieces p.n p.allowed P r ++ S

-- What it may hold in memory; when that is in order, of a problem; the stack that it reads as, top first; whether a request would not find room; and what
-- a request makes of it.
pub record Machine : Type 1 where
  pub Memory : Type 0
  pub Fits : Problem → Memory → Type 0
  pub stack : Problem → Memory → List Subproblem
  pub full : Problem → List ℕ → Memory → Bool
  pub split : Problem → List ℕ → Memory → Memory

-- Memory in order with P on top and S below, a request that P accepts, and room for it.
pub record Takes (p : Problem) (M : Machine) (r : List ℕ) (m : M.Memory) (P : Subproblem) (S : List Subproblem) : Type 0 where
  pub fits : M.Fits p m
  pub top : M.stack p m ≡ P ∷ S
  pub accepted : Accepted p.n p.d P r
  pub room : M.full p r m ≡ false

-- The law of a machine: such a request leaves memory in order, and it reads as the stack after the request.
pub record Lawful (M : Machine) : Type 0 where
  pub fits : (p : Problem) (r : List ℕ) (m : M.Memory) (P : Subproblem) (S : List Subproblem) → Takes p M r m P S → M.Fits p (M.split p r m)
  pub splits : (p : Problem) (r : List ℕ) (m : M.Memory) (P : Subproblem) (S : List Subproblem) → Takes p M r m P S
      → M.stack p (M.split p r m) ≡ split_top p r (P ∷ S)

-- The stack itself, without a limit.
abbrev pub stacks : Machine
stacks = record { Memory = List Subproblem; Fits = λ p S. Unit; stack = λ p S. S; full = λ p r S. false; split = split_top }
