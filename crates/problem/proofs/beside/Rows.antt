-- The row of a value of a variable, as the loop makes it.
-- Assumes nothing.
use mathlib.Core.Path.{◌≡◌, refl, sym, ◌∙◌}
use mathlib.Core.List.{List}
use Prim.Native.Nat.{ℕ, ◌+◌, ◌≤◌, ◌<◌}
use native.Mathlib.Omega.{arith}
use native.Mathlib.Decide.{ℕ_discrete, dec_lt}
use lib.ListN.{length, get_or, set, replicate, length-set, get_or-replicate}
use lib.Seq.{ext_get_or, get_or-set_same, get_or-set_other}
use Rattle.problem.specs.Problem.{Table}
use Rattle.problem.specs.Beside.{RowOf}
use Rattle.problem.specs.Ranges.{inside}
use Rattle.problem.specs.Promises.{RowOne}
use Rattle.problem.proofs.Tests.{either}

-- A row of which the first j masks are made, but for V's own; past them it has all bits.
pub record Begun (allowed : Table) (V' v j : ℕ) (row : List ℕ) : Type 0 where
  pub long : length row ≡ 32
  pub each : (i : ℕ) → i < j → (i ≡ V' → ⊥) → get_or row i 0 ≡ allowed V' i v
  pub past : (i : ℕ) → j ≤ i → i < 32 → get_or row i 0 ≡ 65535

module _ (allowed : Table) (V' v : ℕ) where
  -- At the start none is.
  pub begun_none : Begun allowed V' v 0 (replicate 32 65535)
  begun_none = record { long = refl; each = λ i l f. absurd (omega arith); past = λ i l k. get_or-replicate 32 i 65535 0 k }

  -- One more.
  pub begun_more : (row : List ℕ) (j a : ℕ) → Begun allowed V' v j row → j < 32 → ((V' ≡ j → ⊥) → a ≡ allowed V' j v)
      → Begun allowed V' v (j + 1) (set row j a)
  begun_more row j a b h e = record {
    long = length-set row j a ∙ b.long;
    each = λ i l f. elim (ℕ_discrete i j) [
      | yes s ↦ rw s (get_or-set_same row j a 0 (omega (arith, b.long)) ∙ e (λ q. f (s ∙ sym q)))
      | no s ↦ get_or-set_other row j i a 0 s ∙ b.each i (omega arith) f
    ];
    past = λ i l k. get_or-set_other row j i a 0 (λ s. absurd (omega arith)) ∙ b.past i (omega arith) k;
  }

-- Two rows of one value are one.
row_same : (n : ℕ) (allowed : Table) (V' v : ℕ) (r s : List ℕ) → RowOf n allowed V' v r → RowOf n allowed V' v s → r ≡ s
row_same n allowed V' v r s h k = ext_get_or 0 r s (h.long ∙ sym k.long) at
  where
    at : (i : ℕ) → i < length r → get_or r i 0 ≡ get_or s i 0
    at i l = elim (ℕ_discrete i V') [
      | yes e ↦ rw e (h.own ∙ sym k.own)
      | no f ↦ elim (dec_lt i n) [
        | yes b ↦ h.other i b f ∙ sym (k.other i b f)
        | no g ↦
            let few : i < 32 = omega (arith, h.long) in
            h.past i (omega arith) few ∙ sym (k.past i (omega arith) few)
      ]
    ]

pub one_row : RowOne
one_row n d t V' v r s h k = either (inside n d t V' v) (λ e. row_same _ _ _ _ r s (h.within e) (k.within e)) (λ e. h.outside e ∙ sym (k.outside e))
