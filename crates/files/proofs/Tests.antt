-- Refusals put together: what each answer says.
-- Assumes nothing.
use mathlib.Core.Path.{◌≡◌, refl, sym}
use mathlib.Core.Logic.{◌↔◌}
use mathlib.Core.Bool.{Bool, true, false, cond}
use Prim.Native.Nat.{ℕ}
use borrow.Author.Tests.{ne_eqb}
use Rattle.problem.specs.Tests.FirstChecks.{or_else}
use Rattle.problem.proofs.Decisions.{Refutes}

-- A refusal k whose test fails exactly where it is deserved is given exactly there.
pub given_exactly : (b : Bool) (k : ℕ) (D : Type 0) → (k ≡ 0 → ⊥) → Refutes b D → (cond b 0 k ≡ k) ↔ D
given_exactly true k D f t = (λ e. absurd (f (sym e)), λ d. absurd (t.fails refl d))
given_exactly false k D f t = (λ e. t.holds refl, λ d. refl)

-- Where the first is none, the second.
pub else_none : (a b : ℕ) → a ≡ 0 → or_else a b ≡ b
else_none a b e = rw e refl

-- Where the first is one, the first.
pub else_some : (a b : ℕ) → (a ≡ 0 → ⊥) → or_else a b ≡ a
else_some a b f = rw (ne_eqb a 0 f) refl
