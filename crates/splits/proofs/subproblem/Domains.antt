-- Lists of domains: what a changed list holds at each place, and when one list lies within another.
-- Assumes nothing.
use mathlib.Core.Path.{◌≡◌, refl, ap, ◌∙◌}
use mathlib.Core.List.{List, [], ◌∷◌}
use Prim.Native.Nat.{ℕ, zero, suc, ◌≤◌, ◌<◌}
use native.Mathlib.Omega.{arith}
use native.Mathlib.Nat.{le_of_suc-le-suc}
use lib.ListN.{length, get_or, set}
use lib.Seq.{get_or-set_same, get_or-set_other}
use Rattle.problem.specs.Masks.{Part, minus}
use Rattle.problem.specs.Lists.{changed}
use Rattle.problem.proofs.mask.Masks.{minus_part}

-- Each domain of a is part of that of b.
abbrev pub Within : List ℕ → List ℕ → Type 0
Within a b = (i : ℕ) → Part (get_or a i 0) (get_or b i 0)

-- A changed list is as long as before.
pub length_changed : (j : ℕ) (f : ℕ → ℕ → ℕ) (l : List ℕ) → length (changed j f l) ≡ length l
unfolding changed
length_changed zero f l = refl
length_changed (suc j) f [] = refl
length_changed (suc j) f (m ∷ l) = ap suc (length_changed j (λ i. f (suc i)) l)

-- Before j an entry is changed.
pub changed_before : (j : ℕ) (f : ℕ → ℕ → ℕ) (l : List ℕ) (i : ℕ) → i < j → i < length l → get_or (changed j f l) i 0 ≡ f i (get_or l i 0)
unfolding changed
changed_before zero f l i h k = absurd (omega arith)
changed_before (suc j) f [] i h k = absurd (omega arith)
changed_before (suc j) f (m ∷ l) zero h k = refl
changed_before (suc j) f (m ∷ l) (suc i) h k = changed_before j (λ i. f (suc i)) l i (le_of_suc-le-suc h) (le_of_suc-le-suc k)

-- From j on an entry is as it was.
pub changed_after : (j : ℕ) (f : ℕ → ℕ → ℕ) (l : List ℕ) (i : ℕ) → j ≤ i → get_or (changed j f l) i 0 ≡ get_or l i 0
unfolding changed
changed_after zero f l i h = refl
changed_after (suc j) f [] i h = refl
changed_after (suc j) f (m ∷ l) zero h = absurd (omega arith)
changed_after (suc j) f (m ∷ l) (suc i) h = changed_after j (λ i. f (suc i)) l i (le_of_suc-le-suc h)

-- Changes that are alike before j.
pub changed_same : (j : ℕ) (f g : ℕ → ℕ → ℕ) (l : List ℕ) → ((i m : ℕ) → i < j → f i m ≡ g i m) → changed j f l ≡ changed j g l
unfolding changed
changed_same zero f g l h = refl
changed_same (suc j) f g [] h = refl
changed_same (suc j) f g (m ∷ l) h =
    rw (h 0 m (omega arith)) (ap (g 0 m ∷◌) (changed_same j (λ i. f (suc i)) (λ i. g (suc i)) l (λ i m k. h (suc i) m (omega arith))))

-- Entries changed to parts of what they were.
pub within_changed : (j : ℕ) (f : ℕ → ℕ → ℕ) (l : List ℕ) → ((i : ℕ) → i < j → Part (f i (get_or l i 0)) (get_or l i 0)) → Within (changed j f l) l
unfolding changed
within_changed zero f l h i v m = m
within_changed (suc j) f [] h i v m = m
within_changed (suc j) f (x ∷ l) h zero v m = h 0 (omega arith) v m
within_changed (suc j) f (x ∷ l) h (suc i) v m = within_changed j (λ i. f (suc i)) l (λ i k. h (suc i) (omega arith)) i v m

-- One entry set to a part of what it was.
pub within_set : (l : List ℕ) (j x : ℕ) → Part x (get_or l j 0) → Within (set l j x) l
within_set [] j x h i v m = m
within_set (y ∷ l) zero x h zero v m = h v m
within_set (y ∷ l) zero x h (suc i) v m = m
within_set (y ∷ l) (suc j) x h zero v m = m
within_set (y ∷ l) (suc j) x h (suc i) v m = within_set l j x h i v m

-- One entry set in two lists, one within the other, to the same.
pub within_sets : (a b : List ℕ) (j x : ℕ) → length a ≡ length b → Within a b → Within (set a j x) (set b j x)
within_sets [] [] j x e h i v m = m
within_sets [] (z ∷ b) j x e h i v m = absurd (omega arith)
within_sets (y ∷ a) [] j x e h i v m = absurd (omega arith)
within_sets (y ∷ a) (z ∷ b) zero x e h zero v m = m
within_sets (y ∷ a) (z ∷ b) zero x e h (suc i) v m = h (suc i) v m
within_sets (y ∷ a) (z ∷ b) (suc j) x e h zero v m = h 0 v m
within_sets (y ∷ a) (z ∷ b) (suc j) x e h (suc i) v m = within_sets a b j x (omega arith) (λ i. h (suc i)) i v m

-- The row of the peel for j: before j changed, j without the values of a mask, after j as it was.
abbrev pub row : (ℕ → ℕ → ℕ) → (ℕ → ℕ) → List ℕ → ℕ → List ℕ
row f x l j = set (changed j f l) j (minus (get_or (changed j f l) j 0) (x j))

-- What the row has at j, and elsewhere.
pub row_here : (f : ℕ → ℕ → ℕ) (x : ℕ → ℕ) (l : List ℕ) (j : ℕ) → j < length l → get_or (row f x l j) j 0 ≡ minus (get_or l j 0) (x j)
row_here f x l j h =
    get_or-set_same (changed j f l) j (minus (get_or (changed j f l) j 0) (x j)) 0 (rw length_changed h)
    ∙ ap (λ (m : ℕ). minus m (x j)) (changed_after j f l j (omega arith))

pub row_other : (f : ℕ → ℕ → ℕ) (x : ℕ → ℕ) (l : List ℕ) (j i : ℕ) → (i ≡ j → ⊥) → get_or (row f x l j) i 0 ≡ get_or (changed j f l) i 0
row_other f x l j i = get_or-set_other (changed j f l) j i (minus (get_or (changed j f l) j 0) (x j)) 0

-- The row lies within the list.
pub row_within : (f : ℕ → ℕ → ℕ) (x : ℕ → ℕ) (l : List ℕ) (j : ℕ) → ((i : ℕ) → i < j → Part (f i (get_or l i 0)) (get_or l i 0))
    → Within (row f x l j) l
row_within f x l j h i v m =
    within_changed j f l h i v
    (within_set (changed j f l) j (minus (get_or (changed j f l) j 0) (x j)) (minus_part (get_or (changed j f l) j 0) (x j)) i v m)
