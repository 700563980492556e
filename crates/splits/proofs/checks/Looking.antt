-- Looking at the members of a list up to the first that passes a test, as a loop does. Assumes nothing.
use mathlib.Core.Path.{◌≡◌, refl, sym, ap, ◌∙◌}
use mathlib.Core.Bool.{Bool, true, false, cond, ◌&&◌}
use mathlib.Core.List.{List, [], ◌∷◌, ◌++◌, append_assoc, append-nil}
use Prim.Native.Nat.{ℕ, zero, suc, ◌+◌, ◌<◌}
use native.Mathlib.Nat.{not-suc-le-zero, le_of_suc-le-suc, eq-or-lt_of_le, zero-add, add-zero}
use native.Mathlib.Numerals.{add-one}
use native.Mathlib.Omega.{arith}
use mathlib.Core.Logic.{⊎_elim}
use lib.ListN.{length, length-append}
use Rattle.problem.specs.Lists.{some, below, keep}
use Rattle.splits.specs.Checks.{looked_at}
use Rattle.problem.proofs.Tests.{or_left, or_right}

pub keep_append : {A : Type 0} (f : A → Bool) (xs ys : List A) → keep f (xs ++ ys) ≡ keep f xs ++ keep f ys
unfolding keep
keep_append f [] ys = refl
keep_append f (x ∷ xs) ys = go (f x) (keep_append f xs ys)
  where
    go : (b : Bool) → keep f (xs ++ ys) ≡ keep f xs ++ keep f ys
        → cond b (x ∷ keep f (xs ++ ys)) (keep f (xs ++ ys)) ≡ cond b (x ∷ keep f xs) (keep f xs) ++ keep f ys
    go true e = ap (λ l. x ∷ l) e
    go false e = e

-- the numbers below n: those below i, then i, then the rest
pub below_split : (n i : ℕ) → i < n → (rest : List ℕ) × (below n ≡ below i ++ (i ∷ rest))
unfolding below
below_split zero i h = absurd (not-suc-le-zero h)
below_split (suc n) i h =
    ⊎_elim (λ e. ([], rw e))
    (λ l. let r = below_split n i l in (r.0 ++ (n ∷ []), ap (λ t. t ++ (n ∷ [])) r.1 ∙ append_assoc (below i) (i ∷ r.0) (n ∷ [])))
    (eq-or-lt_of_le (le_of_suc-le-suc h))

module _ (p f : ℕ → Bool) where
  -- those below i that p keeps, and what follows: while none that p keeps passes f, each is looked at
  pub passed : (i : ℕ) → some i (λ k. p k && f k) ≡ false → (t : List ℕ)
      → looked_at f (keep p (below i) ++ t) ≡ length (keep p (below i)) + looked_at f t
  unfolding some below keep looked_at
  passed zero e t = sym (zero-add (looked_at f t))
  passed (suc i) e t =
      rw (keep_append p (below i) (i ∷ []), append_assoc, passed i (or_left (some i (λ k. p k && f k)) (p i && f i) e), length-append)
      (go (p i) (or_right (some i (λ k. p k && f k)) (p i && f i) e))
    where
      go : (b : Bool) → (b && f i) ≡ false
          → length (keep p (below i)) + looked_at f (cond b (i ∷ []) [] ++ t) ≡ length (keep p (below i)) + length (cond b (i ∷ []) []) + looked_at f t
      go true h = rw h (omega arith)
      go false h = omega arith

  pub counted_more : (i : ℕ) → p i ≡ true → length (keep p (below (i + 1))) ≡ length (keep p (below i)) + 1
  unfolding below keep
  counted_more i e = rw (add-one, keep_append p (below i) (i ∷ []), length-append, e) refl

  pub counted_same : (i : ℕ) → p i ≡ false → length (keep p (below (i + 1))) ≡ length (keep p (below i))
  unfolding below keep
  counted_same i e = rw (add-one, keep_append p (below i) (i ∷ []), length-append, e) (omega arith)

  pub looked_all : (i : ℕ) → some i (λ k. p k && f k) ≡ false → length (keep p (below i)) ≡ looked_at f (keep p (below i))
  unfolding looked_at
  looked_all i e = sym (ap (looked_at f) (sym (append-nil (keep p (below i)))) ∙ passed i e [] ∙ add-zero (length (keep p (below i))))

  pub looked_stop : (n i : ℕ) → i < n → some i (λ k. p k && f k) ≡ false → p i ≡ true → f i ≡ true
      → length (keep p (below i)) + 1 ≡ looked_at f (keep p (below n))
  unfolding looked_at keep
  looked_stop n i h e k l = let s = below_split n i h in rw (s.1, keep_append p (below i) (i ∷ s.0), k, passed i e, l)
