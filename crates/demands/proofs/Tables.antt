-- Refusal tables: an entry in the place of one that says the same, and a table that goes on by one entry.
-- Assumes nothing.
use mathlib.Core.Path.{◌≡◌, sym, ◌∙◌}
use mathlib.Core.Logic.{inl, inr}
use mathlib.Core.Bool.{true}
use mathlib.Core.List.{[], ◌∷◌}
use Prim.Native.Nat.{ℕ}
use Rattle.problem.specs.Refusing.{Refusals, FirstOf}
use Rattle.problem.proofs.Refusing.{Found, apart, found_of, first_of}

module _ (i j l : ℕ) (A B C D : Type 0) (rest : Refusals) (k : ℕ) (there : C → D) (back : D → C) where
  third : Found ((i, A) ∷ (j, B) ∷ (l, C) ∷ rest) k → Found ((i, A) ∷ (j, B) ∷ (l, D) ∷ rest) k
  third (inl x) = inl x
  third (inr (a, inl x)) = inr (a, inl x)
  third (inr (a, inr (b, inl (x, e)))) = inr (a, inr (b, inl (there x, e)))
  third (inr (a, inr (b, inr (f, y)))) = inr (a, inr (b, inr ((λ x. f (back x)), y)))

  -- The third entry in other words.
  pub in_third : apart ((i, A) ∷ (j, B) ∷ (l, D) ∷ rest) ≡ true → FirstOf ((i, A) ∷ (j, B) ∷ (l, C) ∷ rest) k → FirstOf ((i, A) ∷ (j, B) ∷ (l, D) ∷ rest) k
  in_third e h = first_of ((i, A) ∷ (j, B) ∷ (l, D) ∷ rest) k e (third (found_of ((i, A) ∷ (j, B) ∷ (l, C) ∷ rest) k h))

-- A table, then one more entry.
abbrev pub further : Refusals → ℕ → Type 0 → Refusals
further [] j D = (j, D) ∷ []
further (e ∷ t) j D = e ∷ further t j D

abbrev pub Nonzero : Refusals → Type 0
Nonzero [] = Unit
Nonzero (e ∷ t) = (e.0 ≡ 0 → ⊥) × Nonzero t

pub found_further : (t : Refusals) (j : ℕ) (D : Type 0) (first k : ℕ) → Nonzero t → Found t first → ((first ≡ 0 → ⊥) → k ≡ first)
    → (first ≡ 0 → Found ((j, D) ∷ []) k) → Found (further t j D) k
found_further [] j D first k z f same last = last f
found_further (e ∷ t) j D first k z (inl (x, q)) same last = inl (x, same (λ y. z.0 (sym q ∙ y)) ∙ q)
found_further (e ∷ t) j D first k z (inr (n, f)) same last = inr (n, found_further t j D first k z.1 f same last)
