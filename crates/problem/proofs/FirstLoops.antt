-- A loop of the code that stops with `false` at the first number that fails a test works out the test at every number.
-- Assumes nothing.
use mathlib.Core.Path.{◌≡◌, refl, sym, ap, ◌∙◌}
use mathlib.Core.Bool.{Bool, true, false, not, ◌&&◌, and-true}
use Prim.Native.Nat.{ℕ, zero, suc, ◌+◌, ◌≤◌, ◌<◌}
use native.Mathlib.Nat.{le_antisymm, zero-add}
use native.Mathlib.Omega.{arith}
use borrow.Author.Tests.{not-true, not-false}
use Rattle.std.specs.List.{list_all, range_with_len}
use Rattle.problem.specs.Lists.{every}
use Rattle.problem.proofs.Tests.{every_more, every_not}

and_regrouped : (a b c : Bool) → (a && (b && c)) ≡ ((a && b) && c)
and_regrouped true b c = refl
and_regrouped false b c = refl

module _ (f : ℕ → Bool) where
  -- before the first turn
  pub every_start : every 0 f ≡ true
  unfolding every
  every_start = refl

  -- a turn that finds a failure
  pub every_stop : (n i : ℕ) (b : Bool) → i < n → b ≡ f i → not b ≡ true → false ≡ every n f
  every_stop n i b h e y = sym (every_not f n i h (sym e ∙ not-true b y))

  -- a turn that finds none
  pub every_turn : (i : ℕ) (b : Bool) → every i f ≡ true → b ≡ f i → not b ≡ false → every (i + 1) f ≡ true
  every_turn i b inv e y = every_more f i inv (sym e ∙ not-false b y)

  -- after the last
  pub every_end : (n i : ℕ) → i ≤ n → n ≤ i → every i f ≡ true → true ≡ every n f
  every_end n i h k inv = sym inv ∙ ap (λ (x : ℕ). every x f) (le_antisymm h k)

  -- `all` over a range
  one_more : (a n : ℕ) → list_all f (range_with_len a (suc n)) ≡ (list_all f (range_with_len a n) && f (a + n))
  one_more a zero = let e : a + 0 ≡ a = omega arith in rw (e, and-true) refl
  one_more a (suc n) = let e : a + 1 + n ≡ a + suc n = omega arith in rw (one_more (a + 1) n, e) (and_regrouped (f a) (list_all f (range_with_len (a + 1) n)) (f (a + suc n)))

  pub every_range : (n : ℕ) → list_all f (range_with_len 0 n) ≡ every n f
  unfolding every
  every_range zero = refl
  every_range (suc n) = one_more 0 n ∙ ap (λ (b : Bool). b && f (0 + n)) (every_range n) ∙ ap (λ (k : ℕ). every n f && f k) (zero-add n)
