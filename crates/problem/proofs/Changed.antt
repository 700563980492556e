-- An array rewritten from the front is the array with its first entries changed. Assumes nothing.
use mathlib.Core.Path.{◌≡◌, refl, ap}
use mathlib.Core.List.{List, [], ◌∷◌}
use Prim.Native.Nat.{ℕ, zero, suc}
use lib.ListN.{get_or, set}
use Rattle.problem.specs.Lists.{changed}

-- one entry more
pub changed_more : (k : ℕ) (g : ℕ → ℕ → ℕ) (l : List ℕ) → set (changed k g l) k (g k (get_or l k 0)) ≡ changed (suc k) g l
unfolding changed
changed_more zero g [] = refl
changed_more zero g (m ∷ ms) = refl
changed_more (suc k) g [] = refl
changed_more (suc k) g (m ∷ ms) = ap (λ (t : List ℕ). g 0 m ∷ t) (changed_more k (λ i. g (suc i)) ms)

-- the entry that is changed next still stands
pub changed_next : (k : ℕ) (g : ℕ → ℕ → ℕ) (l : List ℕ) → get_or (changed k g l) k 0 ≡ get_or l k 0
unfolding changed
changed_next zero g l = refl
changed_next (suc k) g [] = refl
changed_next (suc k) g (m ∷ ms) = changed_next k (λ i. g (suc i)) ms
