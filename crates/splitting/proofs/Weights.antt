-- A weight of the values of a domain, and how it is split with the domains: sizes and possibilities are two weights.
-- Assumes nothing.
use mathlib.Core.Path.{◌≡◌, refl, sym, ap, ap₂, ◌∙◌}
use mathlib.Core.Bool.{Bool, true, false, cond}
use mathlib.Core.List.{List}
use Prim.Native.Nat.{ℕ, zero, suc, ◌+◌, ◌≤◌, ◌<◌}
use native.Mathlib.Omega.{arith}
use native.Mathlib.Nat.{le_trans, le_of_eq}
use lib.ListN.{length, get_or, set}
use lib.Seq.{get_or-set_same, get_or-set_other}
use Rattle.problem.specs.Masks.{bit, ◌∈◌, Part, common, minus, size}
use Rattle.problem.specs.Lists.{product, total, changed}
use Rattle.problem.proofs.mask.Masks.{bit_le, bit_split, size_split, none_common, none_minus, part_common}
use Rattle.problem.proofs.Products.{product_le, product_one, product_none, product_two, product_peel}
use Rattle.splits.proofs.subproblem.Domains.{changed_before, changed_after, row, row_here, row_other}

-- A weight is split with a domain.
pub record Weight : Type 0 where
  pub of : ℕ → ℕ → ℕ
  pub split : (i a b : ℕ) → of i (common a b) + of i (minus a b) ≡ of i a

-- The weight of n domains is the product of theirs.
unfoldable pub weigh : Weight → ℕ → List ℕ → ℕ
weigh w n l = product n (λ i. w.of i (get_or l i 0))

-- The size is a weight; so is membership of the values of f.
abbrev pub by_size : Weight
by_size = record { of = λ i m. size m; split = λ i a b. size_split a b }

abbrev pub fits : (ℕ → ℕ) → Weight
fits f = record { of = λ i m. bit m (f i); split = λ i a b. bit_split a b (f i) }

module _ (w : Weight) where
  -- The empty mask weighs nothing, and a part no more than the whole.
  of_none : (i : ℕ) → w.of i 0 ≡ 0
  of_none i = let h : w.of i 0 + w.of i 0 ≡ w.of i 0 = rw (none_common 0, none_minus 0) at (w.split i 0 0) in omega arith

  of_part : (i a b : ℕ) → Part a b → w.of i a ≤ w.of i b
  of_part i a b h = let e : w.of i a + w.of i (minus b a) ≡ w.of i b = rw (part_common a b h) at (w.split i b a) in omega arith

  -- An empty domain leaves no weight.
  pub weigh_none : (n : ℕ) (l : List ℕ) (i : ℕ) → i < n → get_or l i 0 ≡ 0 → weigh w n l ≡ 0
  unfolding weigh
  weigh_none n l i k e = product_none n _ i k (ap (w.of i) e ∙ of_none i)

  -- Parts weigh no more.
  pub weigh_le : (n : ℕ) (a b : List ℕ) → ((i : ℕ) → i < n → Part (get_or a i 0) (get_or b i 0)) → weigh w n a ≤ weigh w n b
  unfolding weigh
  weigh_le n a b h = product_le n _ _ (λ i k. of_part i (get_or a i 0) (get_or b i 0) (h i k))

  -- One domain taken apart into two.
  pub weigh_two : (n : ℕ) (l : List ℕ) (j x y : ℕ) → j < n → j < length l → w.of j x + w.of j y ≡ w.of j (get_or l j 0)
      → weigh w n (set l j x) + weigh w n (set l j y) ≡ weigh w n l
  unfolding weigh
  weigh_two n l j x y k h e =
      product_two n j _ _ _ k (ap₂ ◌+◌ (ap (w.of j) (get_or-set_same l j x 0 h)) (ap (w.of j) (get_or-set_same l j y 0 h)) ∙ e)
      (λ i _ d. ap (w.of i) (get_or-set_other l j i x 0 d)) (λ i _ d. ap (w.of i) (get_or-set_other l j i y 0 d))

  -- The peel of l: what is kept is cut to the values of a mask, what is not is as it was.
  pub weigh_peel : (n : ℕ) (kept : ℕ → Bool) (f : ℕ → ℕ → ℕ) (x : ℕ → ℕ) (l : List ℕ) → n ≤ length l
      → ((j : ℕ) → j < n → kept j ≡ true → f j (get_or l j 0) ≡ common (get_or l j 0) (x j))
      → ((j : ℕ) → j < n → kept j ≡ false → f j (get_or l j 0) ≡ get_or l j 0)
      → weigh w n (changed n f l) + total n (λ j. cond (kept j) (weigh w n (row f x l j)) 0) ≡ weigh w n l
  unfolding weigh
  weigh_peel n kept f x l long cuts same =
      product_peel n kept _ _ _ (record {
        split =
            λ j k e. ap₂ ◌+◌ (ap (w.of j) (first j k ∙ cuts j k e)) (ap (w.of j) (row_here f x l j (omega arith))) ∙ w.split j (get_or l j 0) (x j);
        same = λ j k e. ap (w.of j) (first j k ∙ same j k e);
        before =
            λ j i k h. ap (w.of i) (row_other f x l j i (λ e. omega arith) ∙ changed_before j f l i h (omega arith) ∙ sym (first i (omega arith)));
        after = λ j i k h. ap (w.of i) (row_other f x l j i (λ e. omega arith) ∙ changed_after j f l i (omega arith));
      })
    where
      first : (i : ℕ) → i < n → get_or (changed n f l) i 0 ≡ f i (get_or l i 0)
      first i k = changed_before n f l i k (omega arith)

module _ (f : ℕ → ℕ) (n : ℕ) (l : List ℕ) where
  -- f fits, or it does not.
  pub fits_le : weigh (fits f) n l ≤ 1
  unfolding weigh
  fits_le = le_trans (product_le n _ (λ i. 1) (λ i k. bit_le (get_or l i 0) (f i))) (le_of_eq (product_one n (λ i. 1) (λ i k. refl)))

  -- Where f gives each variable a value of its domain, it fits.
  pub fits_one : ((i : ℕ) → i < n → f i ∈ get_or l i 0) → weigh (fits f) n l ≡ 1
  unfolding weigh
  fits_one h = product_one n _ h

  -- Where f fits, it gives each variable a value of its domain.
  pub one_fits : 1 ≤ weigh (fits f) n l → (i : ℕ) → i < n → f i ∈ get_or l i 0
  unfolding weigh
  one_fits h i k = go (bit (get_or l i 0) (f i)) refl
    where
      go : (b : ℕ) → bit (get_or l i 0) (f i) ≡ b → bit (get_or l i 0) (f i) ≡ 1
      go zero e = absurd (omega (arith, product_none n (λ i. bit (get_or l i 0) (f i)) i k e))
      go (suc b) e = omega (arith, bit_le (get_or l i 0) (f i))
