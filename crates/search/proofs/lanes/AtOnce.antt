-- The loops over all 32 masks, a turn at a time, and what they tell of a subproblem.
-- Assumes nothing.
use mathlib.Core.Path.{◌≡◌, refl, ap, ◌∙◌, subst}
use mathlib.Core.Logic.{◌⊎◌, inl, inr, ⊎_elim}
use mathlib.Core.Bool.{cond}
use mathlib.Core.List.{List}
use Prim.Native.Nat.{ℕ, zero, suc, ◌+◌, ◌-◌, ◌*◌, ◌^◌, ◌≤◌, ◌<◌, min}
use native.Mathlib.Omega.{arith}
use native.Mathlib.Nat.{lt_of_lt_of_le, add-zero}
use native.Mathlib.Decide.{dec_lt, ℕ_discrete}
use lib.ListN.{get_or}
use lib.Count.{ones-le}
use lib.Pow.{pow_mono}
use borrow.Author.Tests.{eq-eqb, ne_eqb}
use Rattle.problem.specs.Masks.{bit, size}
use Rattle.problem.specs.Lists.{total}
use Rattle.splits.specs.Subproblems.{domain}
use Rattle.splits.specs.Checks.{values_in, others}
use Rattle.splits.specs.declared.subproblem.Subproblem.{Subproblem}
use Rattle.problem.proofs.mask.Masks.{size_of_none, bit_outside}
use Rattle.searches.specs.Promises.{Fewest}
use Rattle.search.specs.Loops.Kept.{Regular}
use Rattle.search.specs.Loops.Lanes.{key_of, LeastKey}

-- ---- turns of the loops

-- The least key of two variables more.
module _ (l : List ℕ) (set i best x y r s : ℕ) (few : i < 16) (so_far : LeastKey l set i best)
    (first : x ≡ key_of (get_or l i 0) set i) (second : y ≡ key_of (get_or l (i + 16) 0) set (i + 16)) (e : r ≡ min best x) (f : s ≡ min r y) where
  under : (j : ℕ) → j < i + 1 → (g : ℕ → ℕ) → ((k : ℕ) → k < i → best ≤ g k) → s ≤ g i → s ≤ g j
  under j h g old new = elim (ℕ_discrete j i) [
    | yes q ↦ rw q new
    | no q ↦ omega (arith, old j (omega arith))
  ]

  one_of : (s ≡ best) ⊎ (s ≡ x) ⊎ (s ≡ y)
  one_of = elim (dec_lt best x) [
    | yes p ↦ elim (dec_lt r y) [
      | yes q ↦ inl (omega arith)
      | no q ↦ inr (inr (omega arith))
    ]
    | no p ↦ elim (dec_lt r y) [
      | yes q ↦ inr (inl (omega arith))
      | no q ↦ inr (inr (omega arith))
    ]
  ]

  pub least_more : LeastKey l set (i + 1) s
  least_more = record {
    low = λ j h. under j h (λ k. key_of (get_or l k 0) set k) so_far.low (omega arith);
    high = λ j h. under j h (λ k. key_of (get_or l (k + 16) 0) set (k + 16)) so_far.high (omega arith);
    some = ⊎_elim (λ (q : s ≡ best). ⊎_elim (λ (z : best ≡ 2047). inl (q ∙ z)) (λ w. inr (w.0, w.1, q ∙ w.2)) so_far.some)
        (⊎_elim (λ (q : s ≡ x). inr (i, omega arith, q ∙ first)) (λ (q : s ≡ y). inr (i + 16, omega arith, q ∙ second))) one_of;
  }

-- ---- what they tell of a subproblem

module _ (n d : ℕ) (P : Subproblem) (few : n ≤ 32) (small : d ≤ 16) (reg : Regular n d P) where
  -- A domain has at most 16 values.
  pub word : (i : ℕ) → domain P i < 2 ^ 16
  word i = lt_of_lt_of_le (reg.shape.masks i) (pow_mono small)

  few_values : (i : ℕ) → size (domain P i) ≤ 16
  few_values i = ones-le 16 (domain P i) (word i)

  -- The least key is that of the variable with the fewest values, of all that are not instantiated and not past the last.
  module _ (set k : ℕ) (past : (i : ℕ) → n ≤ i → i < 32 → bit set i ≡ 1) (marks : (i : ℕ) → i < n → bit set i ≡ bit P.marked i)
      (least : LeastKey P.domains set 16 k) (V' : ℕ) (its : Fewest n P V') where
    at_most : (j : ℕ) → j < 32 → k ≤ key_of (domain P j) set j
    at_most j h = elim (dec_lt j 16) [
      | yes l ↦ least.low j l
      | no l ↦ let up : (j - 16) + 16 ≡ j = omega arith in subst (λ (i : ℕ). k ≤ key_of (domain P i) set i) up (least.high (j - 16) (omega arith))
    ]

    own_key : key_of (domain P V') set V' ≡ size (domain P V') * 32 + V'
    unfolding key_of
    own_key =
        let free : bit set V' ≡ 0 = marks V' its.variable ∙ bit_outside P.marked V' its.uninstantiated in
        rw free (omega arith)

    below_own : (j : ℕ) → j < 32 → k ≡ key_of (domain P j) set j → size (domain P V') * 32 + V' ≤ k
    unfolding key_of
    below_own j h e = elim (dec_lt j n) [
      | yes l ↦ elim (ℕ_discrete (bit P.marked j) 1) [
        | yes m ↦ absurd (far (marks j l ∙ m))
        | no m ↦ elim (dec_lt j V') [
          | yes q ↦ omega (arith, e, its.first j q m, its.variable)
          | no q ↦ omega (arith, e, its.fewest j l m, its.variable)
        ]
      ]
      | no l ↦ absurd (far (past j (omega arith) h))
    ]
      where
        far : bit set j ≡ 1 → ⊥
        far m = omega (arith, e, m, at_most V' (omega (arith, its.variable)), own_key, few_values V', its.variable)

    pub least_is : k ≡ size (domain P V') * 32 + V'
    least_is =
        let most : k ≤ size (domain P V') * 32 + V' = rw own_key at (at_most V' (omega (arith, its.variable))) in
        ⊎_elim (λ (z : k ≡ 2047). absurd (omega (arith, few_values V', its.variable))) (λ w. omega (arith, below_own w.0 w.1 w.2))
        least.some

  -- The values past the n variables are none, and without those of V they are those of the others.
  past_none : (j : ℕ) → total (n + j) (λ i. size (domain P i)) ≡ total n (λ i. size (domain P i))
  unfolding total
  past_none zero = ap (λ (k : ℕ). total k (λ i. size (domain P i))) (add-zero n)
  past_none (suc j) =
      let up : n + suc j ≡ suc (n + j) = omega arith in
      rw (up, past_none j, reg.shape.past (n + j) (omega arith), size_of_none) (omega arith)

  pub values_are : (V' : ℕ) → V' < n → total 32 (λ i. size (domain P i)) ≡ values_in (others V') n P + size (domain P V')
  unfolding values_in total others
  values_are V' h = (let end : n + (32 - n) ≡ 32 = omega arith in rw end at (past_none (32 - n))) ∙ without_one n h
    where
      at : ℕ → ℕ
      at i = cond (others V' i) (size (domain P i)) 0

      all_others : (m : ℕ) → m ≤ V' → total m (λ i. size (domain P i)) ≡ total m at
      all_others zero l = refl
      all_others (suc m) l = rw (all_others m (omega arith), ne_eqb m V' (λ z. omega arith)) refl

      without_one : (m : ℕ) → V' < m → total m (λ i. size (domain P i)) ≡ total m at + size (domain P V')
      without_one zero l = absurd (omega arith)
      without_one (suc m) l = elim (ℕ_discrete m V') [
        | yes s ↦ rw (all_others m (omega arith), s, eq-eqb V' V' refl) (omega arith)
        | no s ↦ rw (without_one m (omega arith), ne_eqb m V' s) (omega arith)
      ]
