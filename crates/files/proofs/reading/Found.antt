-- The tests of 15 on sizes, put together from what the code finds.
-- Assumes nothing.
use mathlib.Core.Path.{◌≡◌, refl, sym, ap, ◌∙◌}
use mathlib.Core.Bool.{Bool, true, false, not}
use mathlib.Core.List.{List}
use Prim.Native.Nat.{ℕ, ◌+◌, ◌-◌, ◌*◌, ◌/◌, ◌<◌}
use lib.ListN.{length}
use lib.Dec.{eqb, leb}
use borrow.Author.Tests.{eq-eqb, ne_eqb}
use Rattle.problem.specs.Lists.{every}
use Rattle.problem.specs.Tests.FirstChecks.{refusal_of_numbers}
use Rattle.problem.proofs.FirstLoops.{every_stop, every_turn}
use Rattle.blocks.specs.Blocks.{blocks_for}
use Rattle.blocks.specs.Reading.{content_word}
use Rattle.files.specs.Loops.Said.{numbers_in, zero_in, filled}

-- ---- the numbers

module _ (n d m r : ℕ) (is-r : r ≡ refusal_of_numbers n d) where
  -- They are refused.
  pub numbers_bad : (r ≡ 0 → ⊥) → false ≡ numbers_in n d m
  unfolding numbers_in
  numbers_bad f = rw (ne_eqb (refusal_of_numbers n d) 0 (λ e. f (is-r ∙ e))) refl

  -- They are not: the subproblems decide.
  pub numbers_good : r ≡ 0 → leb m 512 ≡ numbers_in n d m
  unfolding numbers_in
  numbers_good h = rw (eq-eqb (refusal_of_numbers n d) 0 (sym is-r ∙ h)) refl

-- ---- 15: zeros after the words

module _ (file : List ℕ) (from : ℕ) where
  zero_is : (k w : ℕ) → w ≡ content_word file (from + k) → eqb w 0 ≡ zero_in file from k
  unfolding zero_in
  zero_is k w e = rw e refl

  -- A word that is not zero.
  pub zero_stop : (words k w : ℕ) → k < words → w ≡ content_word file (from + k) → (w ≡ 0 → ⊥) → false ≡ every words (zero_in file from)
  zero_stop words k w h e f = every_stop (zero_in file from) words k (eqb w 0) h (zero_is k w e) (ap not (ne_eqb w 0 f))

  -- One zero more.
  pub zero_turn : (k w : ℕ) → every k (zero_in file from) ≡ true → w ≡ content_word file (from + k) → w ≡ 0 → every (k + 1) (zero_in file from) ≡ true
  zero_turn k w inv e z = every_turn (zero_in file from) k (eqb w 0) inv (zero_is k w e) (ap not (eq-eqb w 0 z))

module _ (file : List ℕ) (words : ℕ) where
  pub filled_not : (length file / 512 ≡ (words + 252) / 253 → ⊥) → false ≡ filled file words
  unfolding filled blocks_for
  filled_not f = simp (ne_eqb (length file / 512) ((words + 252) / 253) f)

  -- They fill so many blocks: the zeros decide.
  pub filled_zeros : (r : Bool) → length file / 512 ≡ (words + 252) / 253 → r ≡ every (length file / 512 * 253 - words) (zero_in file words)
      → r ≡ filled file words
  unfolding filled blocks_for
  filled_zeros r e h = simp (eq-eqb (length file / 512) ((words + 252) / 253) e) h
