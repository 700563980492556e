-- A test at every number below n, and at some: what a loop over them finds, and what the answer says.
-- Assumes nothing.
use mathlib.Core.Path.{◌≡◌, refl, sym, ap, ◌∙◌}
use mathlib.Core.Bool.{Bool, true, false, ◌&&◌, ◌||◌}
use Prim.Native.Nat.{ℕ, zero, suc, ◌<◌, ◌+◌}
use native.Mathlib.Omega.{arith}
use Rattle.problem.specs.Lists.{every, some}
use native.Mathlib.Nat.{not-suc-le-zero}
use native.Mathlib.Numerals.{add-one}
use mathlib.Core.Logic.{◌⊎◌, inl, inr, ⊎_elim}
use Rattle.problem.proofs.Products.{last}

-- what is worked out alike of functions that agree below n
pub every_same : (f g : ℕ → Bool) (n : ℕ) → ((i : ℕ) → i < n → f i ≡ g i) → every n f ≡ every n g
unfolding every
every_same f g zero h = refl
every_same f g (suc n) h = rw (every_same f g n (λ i l. h i (omega arith)), h n (omega arith))

pub true_false : true ≡ false → ⊥
true_false e = let z : ◌≡◌ {A = ℕ} 0 1 = cc in omega arith

pub and_left : (a b : Bool) → (a && b) ≡ true → a ≡ true
and_left true b e = refl
and_left false b e = e

pub and_right : (a b : Bool) → (a && b) ≡ true → b ≡ true
and_right true b e = e
and_right false b e = absurd (true_false (sym e))

pub and_both : (a b : Bool) → a ≡ true → b ≡ true → (a && b) ≡ true
and_both a b p q = rw p q

pub or_left : (a b : Bool) → (a || b) ≡ false → a ≡ false
or_left true b e = e
or_left false b e = refl

pub or_right : (a b : Bool) → (a || b) ≡ false → b ≡ false
or_right true b e = absurd (true_false e)
or_right false b e = e

pub or_cases : (a b : Bool) → (a || b) ≡ true → (a ≡ true) ⊎ (b ≡ true)
or_cases true b e = inl refl
or_cases false b e = inr e

module _ (f : ℕ → Bool) where
  pub some_more : (i : ℕ) → some i f ≡ false → f i ≡ false → some (i + 1) f ≡ false
  unfolding some
  some_more i e h = rw (add-one, e) h

  pub every_more : (i : ℕ) → every i f ≡ true → f i ≡ true → every (i + 1) f ≡ true
  unfolding every
  every_more i e h = rw (add-one, e) h

  pub some_at : (n i : ℕ) → i < n → f i ≡ true → some n f ≡ true
  unfolding some
  some_at zero i h e = absurd (not-suc-le-zero h)
  some_at (suc n) i h e = ⊎_elim (λ s. at_last (some n f) (ap f (sym s) ∙ e)) (λ l. rw (some_at n i l e)) (last h)
    where
      at_last : (b : Bool) → f n ≡ true → (b || f n) ≡ true
      at_last true x = refl
      at_last false x = x

  pub every_at : (n i : ℕ) → i < n → every n f ≡ true → f i ≡ true
  unfolding every
  every_at zero i h e = absurd (not-suc-le-zero h)
  every_at (suc n) i h e =
      ⊎_elim (λ s. ap f s ∙ and_right (every n f) (f n) e) (λ l. every_at n i l (and_left (every n f) (f n) e)) (last h)

  pub some_none : (n i : ℕ) → i < n → some n f ≡ false → f i ≡ false
  unfolding some
  some_none zero i h e = absurd (not-suc-le-zero h)
  some_none (suc n) i h e =
      ⊎_elim (λ s. ap f s ∙ or_right (some n f) (f n) e) (λ l. some_none n i l (or_left (some n f) (f n) e)) (last h)

  pub every_not : (n i : ℕ) → i < n → f i ≡ false → every n f ≡ false
  every_not n i h e = go (every n f) refl
    where
      go : (b : Bool) → every n f ≡ b → b ≡ false
      go true x = absurd (true_false (sym (every_at n i h x) ∙ e))
      go false x = refl

  pub some_found : (n : ℕ) → some n f ≡ true → (i : ℕ) × (i < n) × (f i ≡ true)
  unfolding some
  some_found zero e = absurd (true_false (sym e))
  some_found (suc n) e =
      ⊎_elim (λ x. let r = some_found n x in (r.0, omega arith, r.2)) (λ x. (n, omega arith, x)) (or_cases (some n f) (f n) e)

  pub every_all : (n : ℕ) → ((i : ℕ) → i < n → f i ≡ true) → every n f ≡ true
  unfolding every
  every_all zero h = refl
  every_all (suc n) h = rw (every_all n (λ i l. h i (omega arith))) (h n (omega arith))

  pub some_all_not : (n : ℕ) → ((i : ℕ) → i < n → f i ≡ false) → some n f ≡ false
  unfolding some
  some_all_not zero h = refl
  some_all_not (suc n) h = rw (some_all_not n (λ i l. h i (omega arith))) (h n (omega arith))

pub some_same : (f g : ℕ → Bool) (n : ℕ) → ((i : ℕ) → i < n → f i ≡ g i) → some n f ≡ some n g
unfolding some
some_same f g zero h = refl
some_same f g (suc n) h = rw (some_same f g n (λ i l. h i (omega arith)), h n (omega arith))

-- two tests are the same where each passes if the other does
pub same_test : (a b : Bool) → (a ≡ true → b ≡ true) → (b ≡ true → a ≡ true) → a ≡ b
same_test true b h k = sym (h refl)
same_test false true h k = k refl
same_test false false h k = refl

-- by cases of a test
pub either : {A : Type 0} (b : Bool) → (b ≡ true → A) → (b ≡ false → A) → A
either true f g = f refl
either false f g = g refl
