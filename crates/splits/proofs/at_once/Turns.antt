-- The loops over all 32 masks, a turn at a time.
-- Assumes nothing.
use mathlib.Core.Path.{◌≡◌, refl, sym}
use mathlib.Core.Bool.{Bool, true, false, not, cond, ◌||◌}
use mathlib.Core.List.{List}
use Prim.Native.Nat.{ℕ, ◌+◌}
use native.Mathlib.Omega.{arith}
use native.Mathlib.Numerals.{add-one}
use lib.ListN.{get_or, set}
use lib.Bits.{bit_or, or_zero_r}
use lib.Dec.{eqb}
use borrow.Author.Tests.{ne_eqb}
use Rattle.problem.specs.Masks.{minus}
use Rattle.problem.specs.Lists.{some}
use Rattle.problem.proofs.mask.Masks.{bit_le, bit-bit_or, bit_single_same, member_some}
use Rattle.problem.proofs.Changed.{changed_more, changed_next}
use Rattle.splits.specs.AtOnce.{outside_to}

-- A number joined with 1.
or_one : (x : ℕ) → bit_or x 1 ≡ 0 → ⊥
or_one x = member_some (bit_or x 1) 0 (rw (bit-bit_or, bit_single_same 0) (omega (arith, bit_le x 0)))

-- One test more, joined as 1 or 0.
pub some_turn : (f : ℕ → Bool) (i x m : ℕ) → not (eqb x 0) ≡ some i f → m ≡ cond (f i) 1 0 → not (eqb (bit_or x m) 0) ≡ some (i + 1) f
unfolding some
some_turn f i x m e h = rw (add-one, ← e, h) (go (f i))
  where
    go : (b : Bool) → not (eqb (bit_or x (cond b 1 0)) 0) ≡ (not (eqb x 0) || b)
    go true = rw (ne_eqb (bit_or x 1) 0 (or_one x)) (sym (or_true (not (eqb x 0))))
      where
        or_true : (a : Bool) → (a || true) ≡ true
        or_true true = refl
        or_true false = refl
    go false = rw (or_zero_r x) (or_false (not (eqb x 0)))
      where
        or_false : (a : Bool) → a ≡ (a || false)
        or_false true = refl
        or_false false = refl

-- One mask more left outside.
pub outside_more : (l row m : List ℕ) (i x : ℕ) → m ≡ outside_to l row i → x ≡ minus (get_or m i 0) (get_or row i 0) → set m i x ≡ outside_to l row (i + 1)
unfolding outside_to
outside_more l row m i x e f =
    rw (f, e, add-one, changed_next i (λ j m. minus m (get_or row j 0)) l) (changed_more i (λ j m. minus m (get_or row j 0)) l)
