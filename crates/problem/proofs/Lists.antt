-- Sums over lists, and the lists that are kept.
-- Assumes nothing.
use mathlib.Core.Path.{◌≡◌, refl, sym, ap, ap₂, ◌∙◌}
use mathlib.Core.Logic.{⊎_elim}
use mathlib.Core.Bool.{Bool, true, false, cond}
use mathlib.Core.List.{List, [], ◌∷◌, ◌++◌, map, Memᴰ}
use Prim.Native.Nat.{ℕ, zero, suc, ◌+◌, ◌≤◌, ◌<◌}
use native.Mathlib.Omega.{arith}
use native.Mathlib.Nat.{zero-add, add-zero, le_of_suc-le-suc}
use lib.ListN.{length, get_or}
use Rattle.problem.specs.Lists.{total, below, keep, sum}

module _ {A : Type 0} (g : A → ℕ) where
  -- What is not kept adds nothing.
  pub sum_keep : (t : A → Bool) (l : List A) → ((x : A) → t x ≡ false → g x ≡ 0) → sum g (keep t l) ≡ sum g l
  unfolding sum keep
  sum_keep t [] h = refl
  sum_keep t (x ∷ xs) h = go (t x) refl (sum_keep t xs h)
    where
      go : (b : Bool) → t x ≡ b → sum g (keep t xs) ≡ sum g xs → sum g (cond b (x ∷ keep t xs) (keep t xs)) ≡ g x + sum g xs
      go true e r = ap (λ (y : ℕ). g x + y) r
      go false e r = omega (arith, h x e)

  -- A sum that is not 0 has a summand that is not 0.
  pub sum_some : (l : List A) → 1 ≤ sum g l → (x : A) × Memᴰ x l × (1 ≤ g x)
  unfolding sum
  sum_some [] h = absurd (omega arith)
  sum_some (x ∷ xs) h = go (g x) refl (sum_some xs)
    where
      go : (k : ℕ) → g x ≡ k → (1 ≤ sum g xs → (y : A) × Memᴰ y xs × (1 ≤ g y)) → (y : A) × Memᴰ y (x ∷ xs) × (1 ≤ g y)
      go zero e r = let (y, m, s) = r (omega arith) in (y, mathlib.Core.List.Memᴰ.tail m, s)
      go (suc k) e r = (x, mathlib.Core.List.Memᴰ.head refl, omega arith)

  -- Of a sum that is 0 every summand is.
  sum_none : (l : List A) (d : A) → sum g l ≡ 0 → (k : ℕ) → k < length l → g (get_or l k d) ≡ 0
  unfolding sum
  sum_none [] d e k h = omega arith
  sum_none (x ∷ xs) d e zero h = omega arith
  sum_none (x ∷ xs) d e (suc k) h = sum_none xs d (omega arith) k (le_of_suc-le-suc h)

  -- No summand is more than the sum.
  pub sum_member : (l : List A) (d : A) (k : ℕ) → k < length l → g (get_or l k d) ≤ sum g l
  unfolding sum
  sum_member [] d k h = absurd (omega (arith, h))
  sum_member (x ∷ xs) d zero h = omega arith
  sum_member (x ∷ xs) d (suc k) h = let rest = sum_member xs d k (le_of_suc-le-suc h) in omega (arith, rest)

  -- Of a sum that is 1 one summand is 1 and no other.
  pub sum_one : (l : List A) (d : A) → sum g l ≡ 1
      → (k : ℕ) × (k < length l) × (g (get_or l k d) ≡ 1) × ((j : ℕ) → j < length l → g (get_or l j d) ≡ 1 → j ≡ k)
  unfolding sum
  sum_one [] d e = absurd (omega arith)
  sum_one (x ∷ xs) d e = go (g x) refl (sum_one xs d)
    where
      One : List A → Type 0
      One l = (k : ℕ) × (k < length l) × (g (get_or l k d) ≡ 1) × ((j : ℕ) → j < length l → g (get_or l j d) ≡ 1 → j ≡ k)

      go : (y : ℕ) → g x ≡ y → (sum g xs ≡ 1 → One xs) → One (x ∷ xs)
      go zero z r = let (k, l, q, u) = r (omega arith) in (suc k, omega arith, q, only k u)
        where
          only : (k : ℕ) → ((j : ℕ) → j < length xs → g (get_or xs j d) ≡ 1 → j ≡ k)
              → (j : ℕ) → j < suc (length xs) → g (get_or (x ∷ xs) j d) ≡ 1 → j ≡ suc k
          only k u zero h q = absurd (omega arith)
          only k u (suc j) h q = ap suc (u j (omega arith) q)
      go (suc y) z r = (0, omega arith, omega arith, only)
        where
          only : (j : ℕ) → j < suc (length xs) → g (get_or (x ∷ xs) j d) ≡ 1 → j ≡ 0
          only zero h q = refl
          only (suc j) h q = absurd (omega (arith, sum_none xs d (omega arith) j (omega arith)))

-- A list kept is kept part by part.
sum_append : {A : Type 0} (g : A → ℕ) (h : ℕ → A) (t : ℕ → Bool) (l m : List ℕ)
    → sum g (map h (keep t (l ++ m))) ≡ sum g (map h (keep t l)) + sum g (map h (keep t m))
unfolding sum keep
sum_append g h t [] m = sym (zero-add (sum g (map h (keep t m))))
sum_append {A} g h t (x ∷ l) m = go (t x) (sum_append g h t l m)
  where
    of : List ℕ → ℕ
    of l = sum g (map h l)

    go : (b : Bool) → of (keep t (l ++ m)) ≡ of (keep t l) + of (keep t m)
        → of (cond b (x ∷ keep t (l ++ m)) (keep t (l ++ m))) ≡ of (cond b (x ∷ keep t l) (keep t l)) + of (keep t m)
    go true r = omega arith
    go false r = r

-- The sum over the images of what is kept of the numbers below n.
pub sum_below : {A : Type 0} (g : A → ℕ) (h : ℕ → A) (t : ℕ → Bool) (n : ℕ)
    → sum g (map h (keep t (below n))) ≡ total n (λ j. cond (t j) (g (h j)) 0)
unfolding sum below total keep
sum_below g h t zero = refl
sum_below g h t (suc n) =
    sum_append g h t (below n) (n ∷ []) ∙ ap₂ ◌+◌ (sum_below g h t n) (go (t n))
  where
    go : (b : Bool) → sum g (map h (cond b (n ∷ []) [])) ≡ cond b (g (h n)) 0
    go true = add-zero (g (h n))
    go false = refl

-- Whatever is kept passed the test.
pub member_keep : {A : Type 0} (t : A → Bool) (l : List A) {x : A} → Memᴰ x (keep t l) → (t x ≡ true) × Memᴰ x l
unfolding keep
member_keep t [] m = absurd (mathlib.Core.List.Memᴰ.not-nil m)
member_keep {A} t (y ∷ ys) {x} m = go (t y) refl m (member_keep t ys)
  where
    go : (b : Bool) → t y ≡ b → Memᴰ x (cond b (y ∷ keep t ys) (keep t ys))
        → (Memᴰ x (keep t ys) → (t x ≡ true) × Memᴰ x ys) → (t x ≡ true) × Memᴰ x (y ∷ ys)
    go true e m r =
        ⊎_elim (λ (q : x ≡ y). (ap t q ∙ e, mathlib.Core.List.Memᴰ.head q))
        (λ (k : Memᴰ x (keep t ys)). ((r k).0, mathlib.Core.List.Memᴰ.tail (r k).1)) (mathlib.Core.List.Memᴰ.cases_cons m)
    go false e m r = ((r m).0, mathlib.Core.List.Memᴰ.tail (r m).1)

-- Whatever is below n is less than n.
member_below : (n : ℕ) {j : ℕ} → Memᴰ j (below n) → j < n
unfolding below
member_below zero m = absurd (mathlib.Core.List.Memᴰ.not-nil m)
member_below (suc n) {j} m =
    ⊎_elim (λ (k : Memᴰ j (below n)). let l : j < n = member_below n k in omega arith)
    (λ (k : Memᴰ j (n ∷ [])). let e : j ≡ n = mathlib.Core.List.Memᴰ.eq_of_singleton k in omega arith)
    (mathlib.Core.List.Memᴰ.append_cases (below n) m)

-- A member of the images has its number.
member_map : {A : Type 0} (h : ℕ → A) (l : List ℕ) {x : A} → Memᴰ x (map h l) → (j : ℕ) × Memᴰ j l × (x ≡ h j)
member_map h [] m = absurd (mathlib.Core.List.Memᴰ.not-nil m)
member_map {A} h (y ∷ ys) {x} m =
    ⊎_elim (λ (e : x ≡ h y). (y, mathlib.Core.List.Memᴰ.head refl, e))
    (λ (k : Memᴰ x (map h ys)). let (j, i, e) = member_map h ys k in (j, mathlib.Core.List.Memᴰ.tail i, e)) (mathlib.Core.List.Memᴰ.cases_cons m)

-- What holds of each member of a list: of the empty list, of one member more, of the images of what is kept below n.
pub each_none : {A : Type 0} (C : A → Type 0) (x : A) → Memᴰ x [] → C x
each_none C x m = absurd (mathlib.Core.List.Memᴰ.not-nil m)

pub each_more : {A : Type 0} (C : A → Type 0) (y : A) (l : List A) → C y → ((x : A) → Memᴰ x l → C x)
    → (x : A) → Memᴰ x (y ∷ l) → C x
each_more C y l c h x m = ⊎_elim (λ (e : x ≡ y). rw e c) (λ (k : Memᴰ x l). h x k) (mathlib.Core.List.Memᴰ.cases_cons m)

pub each_of : {A : Type 0} (C : A → Type 0) (h : ℕ → A) (t : ℕ → Bool) (n : ℕ) → ((j : ℕ) → j < n → t j ≡ true → C (h j))
    → (x : A) → Memᴰ x (map h (keep t (below n))) → C x
each_of C h t n c x m =
    let (j, k, e) = member_map h (keep t (below n)) m in
    let (s, b) = member_keep t (below n) k in
    rw e (c j (member_below n b) s)
