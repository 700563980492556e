-- Refusal tables: a chain of tests gives the first that is deserved, what that says, and that it is one number.
-- Assumes nothing.
use mathlib.Core.Path.{◌≡◌, refl, sym, ◌∙◌}
use mathlib.Core.Logic.{◌⊎◌, inl, inr, ◌↔◌}
use mathlib.Core.Bool.{Bool, true, false, not, cond, ◌&&◌}
use mathlib.Core.List.{List, [], ◌∷◌}
use Prim.Native.Nat.{ℕ}
use native.Mathlib.Decide.{ℕ_discrete}
use lib.Dec.{eqb}
use borrow.Author.Tests.{eqb-false, not-true}
use Rattle.problem.specs.Refusing.{Refusals, FirstAfter, FirstOf}
use Rattle.problem.proofs.Tests.{true_false, and_left, and_right}

-- The same, entry by entry: an entry is deserved and its number is k, or it is not and k is found after it.
abbrev pub Found : Refusals → ℕ → Type 0
Found [] k = k ≡ 0
Found (e ∷ t) k = (e.1 × (k ≡ e.0)) ⊎ ((e.1 → ⊥) × Found t k)

-- ---- by tests

-- The number of the first entry whose test holds.
abbrev pub chain : Refusals → List Bool → ℕ
chain [] tests = 0
chain (e ∷ t) [] = 0
chain (e ∷ t) (b ∷ tests) = cond b e.0 (chain t tests)

-- Each test says whether its entry is deserved, where none before it is.
abbrev pub Decided : Refusals → List Bool → Type 0
Decided [] tests = Unit
Decided (e ∷ t) [] = ⊥
Decided (e ∷ t) (b ∷ tests) = ((b ≡ true) ↔ e.1) × ((e.1 → ⊥) → Decided t tests)

pub found_by : (t : Refusals) (tests : List Bool) → Decided t tests → Found t (chain t tests)
found_by [] tests d = refl
found_by (e ∷ t) [] d = absurd d
found_by (e ∷ t) (b ∷ tests) d = go b d.0 (λ n. found_by t tests (d.1 n))
  where
    go : (c : Bool) → (c ≡ true) ↔ e.1 → ((e.1 → ⊥) → Found t (chain t tests)) → Found (e ∷ t) (cond c e.0 (chain t tests))
    go true s rest = inl (s.0 refl, refl)
    go false s rest = let none : e.1 → ⊥ = λ x. true_false (sym (s.1 x)) in inr (none, rest none)

-- ---- numbers that differ

-- A number is that of no entry.
abbrev pub lacking : ℕ → Refusals → Bool
lacking a [] = not (eqb a 0)
lacking a (e ∷ t) = not (eqb a e.0) && lacking a t

-- No two entries have one number, and none has 0.
abbrev pub apart : Refusals → Bool
apart [] = true
apart (e ∷ t) = lacking e.0 t && apart t

differ : (a b : ℕ) → not (eqb a b) ≡ true → a ≡ b → ⊥
differ a b h = eqb-false a b (not-true (eqb a b) h)

-- What is found is another number than one that no entry has.
found_other : (a : ℕ) (t : Refusals) (k : ℕ) → lacking a t ≡ true → Found t k → k ≡ a → ⊥
found_other a [] k l f e = differ a 0 l (sym e ∙ f)
found_other a (x ∷ t) k l (inl (d, f)) e = differ a x.0 (and_left (not (eqb a x.0)) (lacking a t) l) (sym e ∙ f)
found_other a (x ∷ t) k l (inr (n, f)) e = found_other a t k (and_right (not (eqb a x.0)) (lacking a t) l) f e

-- ---- exactly

-- After an entry that is deserved nothing is given.
after_given : (None : Type 0) (t : Refusals) (k : ℕ) → lacking k t ≡ true → (None → ⊥) → FirstAfter None t k
after_given None [] k l n = (λ e. absurd (differ k 0 l e), λ x. absurd (n x))
after_given None (e ∷ t) k l n = (
  (λ f. absurd (differ k e.0 (and_left (not (eqb k e.0)) (lacking k t) l) f), λ x. absurd (n x.0)),
  after_given (None × (e.1 → ⊥)) t k (and_right (not (eqb k e.0)) (lacking k t) l) (λ x. n x.0),
)

found_after : (None : Type 0) (t : Refusals) (k : ℕ) → apart t ≡ true → None → Found t k → FirstAfter None t k
found_after None [] k l n f = (λ e. n, λ x. f)
found_after None (e ∷ t) k l n (inl (d, f)) = (
  (λ x. (n, d), λ x. f),
  after_given (None × (e.1 → ⊥)) t k (rw f (and_left (lacking e.0 t) (apart t) l)) (λ x. x.1 d),
)
found_after None (e ∷ t) k l n (inr (m, f)) = (
  (λ x. absurd (found_other e.0 t k (and_left (lacking e.0 t) (apart t) l) f x), λ x. absurd (m x.1)),
  found_after (None × (e.1 → ⊥)) t k (and_right (lacking e.0 t) (apart t) l) (n, m) f,
)

-- What is found is the first.
pub first_of : (t : Refusals) (k : ℕ) → apart t ≡ true → Found t k → FirstOf t k
first_of t k l f = found_after Unit t k l tt f

-- So a chain of tests gives the first.
pub first_by : (t : Refusals) (tests : List Bool) → apart t ≡ true → Decided t tests → FirstOf t (chain t tests)
first_by t tests l d = first_of t (chain t tests) l (found_by t tests d)

-- And the first is found.
after_found : (None : Type 0) (t : Refusals) (k : ℕ) → None → FirstAfter None t k → Found t k
after_found None [] k n f = f.1 n
after_found None (e ∷ t) k n f = go (ℕ_discrete k e.0) (λ m. after_found (None × (e.1 → ⊥)) t k (n, m) f.1)
  where
    go : Dec (k ≡ e.0) → ((e.1 → ⊥) → Found t k) → Found (e ∷ t) k
    go (yes q) rest = inl ((f.0.0 q).1, q)
    go (no q) rest = let m : e.1 → ⊥ = λ d. q (f.0.1 (n, d)) in inr (m, rest m)

pub found_of : (t : Refusals) (k : ℕ) → FirstOf t k → Found t k
found_of t k f = after_found Unit t k tt f

-- ---- one answer

found_one : (t : Refusals) (k j : ℕ) → Found t k → Found t j → k ≡ j
found_one [] k j f g = f ∙ sym g
found_one (e ∷ t) k j (inl (d, f)) (inl (c, g)) = f ∙ sym g
found_one (e ∷ t) k j (inl (d, f)) (inr (n, g)) = absurd (n d)
found_one (e ∷ t) k j (inr (n, f)) (inl (c, g)) = absurd (n c)
found_one (e ∷ t) k j (inr (n, f)) (inr (m, g)) = found_one t k j f g

-- No two numbers are the first of one table.
pub first_one : (t : Refusals) (k j : ℕ) → FirstOf t k → FirstOf t j → k ≡ j
first_one t k j f g = found_one t k j (found_of t k f) (found_of t j g)
