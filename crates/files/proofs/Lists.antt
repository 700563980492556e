-- The variables after one.
-- Assumes nothing.
use mathlib.Core.Path.{◌≡◌, refl, sym, ap, ◌∙◌}
use mathlib.Core.List.{List, [], ◌∷◌, ◌++◌, map, map-append}
use Prim.Native.Nat.{ℕ, zero, suc, ◌+◌, ◌-◌, ◌<◌}
use native.Mathlib.Omega.{arith}
use native.Mathlib.Decide.{dec_lt}
use lib.Dec.{ltb}
use borrow.Author.Tests.{lt-ltb, le-ltb}
use Rattle.problem.specs.Lists.{below, keep}
use Rattle.splits.proofs.checks.Looking.{keep_append}
use Rattle.files.specs.Content.{after}

-- The variables after i.
pub after_is : (n i : ℕ) → after n i ≡ map (λ k. suc i + k) (below (n - suc i))
unfolding after below keep
after_is zero i = let e : 0 - suc i ≡ 0 = omega arith in rw e refl
after_is (suc n) i =
    keep_append (λ j. ltb i j) (below n) (n ∷ []) ∙ ap (λ (l : List ℕ). l ++ keep (λ j. ltb i j) (n ∷ [])) (after_is n i) ∙ go (dec_lt i n)
  where
    next : ℕ → ℕ
    next k = suc i + k

    go : Dec (i < n) → map next (below (n - suc i)) ++ keep (λ j. ltb i j) (n ∷ []) ≡ map next (below (suc n - suc i))
    go (yes l) =
        let one : suc n - suc i ≡ suc (n - suc i) = omega arith in
        let end : n ≡ next (n - suc i) = omega arith in
        rw (one, lt-ltb i n l)
        (ap (λ (x : ℕ). map next (below (n - suc i)) ++ (x ∷ [])) end ∙ sym (map-append next (below (n - suc i)) ((n - suc i) ∷ [])))
    go (no l) =
        let a : n - suc i ≡ 0 = omega arith in
        let b : suc n - suc i ≡ 0 = omega arith in
        rw (a, b, le-ltb i n (omega arith)) refl
