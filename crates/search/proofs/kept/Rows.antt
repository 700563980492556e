-- The row of a value of a variable, as it is made or found, and the rows that are kept.
-- Assumes nothing.
use mathlib.Core.Path.{◌≡◌, refl, ap, sym, ◌∙◌, subst}
use mathlib.Core.Logic.{inl, inr, ⊎_elim}
use mathlib.Core.List.{List, []}
use Prim.Native.Nat.{ℕ, ◌+◌, ◌-◌, ◌*◌, ◌/◌, ◌%◌, ◌^◌, ◌≤◌, ◌<◌, min}
use native.Mathlib.Omega.{arith}
use native.Mathlib.Nat.{one-mul, mod-eq_of_lt, mul-le-mul_right}
use native.Mathlib.Decide.{ℕ_discrete}
use lib.ListN.{get_or, set, replicate, length-set, length-replicate, get_or-replicate}
use lib.Seq.{get_or-set_same, get_or-set_other}
use Rattle.std.proofs.lemmas.Nat.{div-mul-add}
use Rattle.problem.specs.Masks.{single}
use Rattle.problem.specs.Problem.{table_of}
use Rattle.problem.specs.Beside.{RowOf}
use Rattle.problem.specs.Ranges.{Inside}
use Rattle.problem.proofs.mask.Masks.{bit_single_same, single_lt, single_member, member_some}
use Rattle.search.specs.Loops.Lanes.{RowOrNone, Rows, RowAt, RowPut}
use Rattle.problem.proofs.Copies.{zeros_at}

module _ (width n d : ℕ) (t : List ℕ) (rows : List (List ℕ)) (V' at : ℕ) (all : Rows width n d t rows) (inside : at < 32 * width) (own : at / width ≡ V') where
  -- A place of V among rows that are kept.
  pub row_at : RowAt n d t V' at rows
  row_at = record {
    inside = omega (arith, all.long);
    kept = subst (λ (i : ℕ). RowOrNone n d t i (get_or rows at [])) own (all.each at inside);
  }

  -- A row of V put there leaves rows that are kept.
  pub row_more : (after : List (List ℕ)) (v : ℕ) (row : List ℕ) → RowOf n (table_of n d t) V' v row → RowPut at row rows after → Rows width n d t after
  row_more after v row made put = record {
    long = put.same ∙ all.long;
    each = λ k h. elim (ℕ_discrete k at) [
      | yes s ↦ inr (v, rw (s, own, put.there) made)
      | no s ↦ rw (put.others k s) (all.each k h)
    ];
  }

-- The place of value v of V, of so many for each: the last is that of all values from there on.
pub place_of : (width n d : ℕ) (t : List ℕ) (V' v w : ℕ) → 0 < width → Inside n d t V' v → w ≡ min v (width - 1)
    → (V' * width + w < 32 * width) × ((V' * width + w) / width ≡ V')
place_of width n d t V' v w some inside its =
    let small : w < width = omega arith in
    let before : V' + 1 ≤ 32 = omega (arith, inside.a_variable, inside.fit.few) in
    (omega (arith, mul-le-mul_right width before), div-mul-add V' width w small)

-- Of 16 for each every value has one.
pub its_place : (n d : ℕ) (t : List ℕ) (V' v : ℕ) → Inside n d t V' v → (V' * 16 + v < 32 * 16) × ((V' * 16 + v) / 16 ≡ V')
its_place n d t V' v inside = place_of 16 n d t V' v v (omega arith) inside (omega (arith, inside.a_value, inside.fit.small))

-- The row of v of V is what stands at a place, and the rows are as before but for that.
abbrev pub Rowed : ℕ → ℕ → List ℕ → ℕ → ℕ → ℕ → List (List ℕ) → List (List ℕ) → Type 0
Rowed n d t V' v at before after = RowOf n (table_of n d t) V' v (get_or after at []) × RowPut at (get_or after at []) before after

module _ (n d : ℕ) (t : List ℕ) (V' v at : ℕ) (rows : List (List ℕ)) (kept : RowAt n d t V' at rows) where
  -- One that has v alone for its variable is there.
  pub row_there : v < d → d ≤ 16 → get_or (get_or rows at []) V' 0 ≡ 1 * 2 ^ v % 2 ^ 16 → Rowed n d t V' v at rows rows
  row_there a_value small shifted =
      let e : get_or (get_or rows at []) V' 0 ≡ single v = shifted ∙ simp one-mul (mod-eq_of_lt (single_lt 16 v (omega arith))) in (
        ⊎_elim (λ z. absurd (member_some (single v) v (bit_single_same v) (sym e ∙ z)))
            (λ w. let same : w.0 ≡ v = single_member v w.0 (rw (← e, w.1.own) (bit_single_same w.0)) in subst
            (λ (a : ℕ). RowOf n (table_of n d t) V' a (get_or rows at [])) same w.1)
            kept.kept,
        record { same = refl; there = refl; others = λ k s. refl },
      )

  -- Another is put there.
  pub row_put : (row : List ℕ) → RowOf n (table_of n d t) V' v row → Rowed n d t V' v at rows (set rows at row)
  row_put row made = (
    rw (get_or-set_same rows at row [] kept.inside) made,
    record { same = length-set rows at row; there = refl; others = λ k s. get_or-set_other rows at k row [] s },
  )

-- The row of v of V put in its place leaves rows that are kept.
pub rows_more : (width n d : ℕ) (t : List ℕ) (rows : List (List ℕ)) (V' v w : ℕ) → Rows width n d t rows → 0 < width → Inside n d t V' v → w ≡ min v (width - 1)
    → (row : List ℕ) → RowOf n (table_of n d t) V' v row → Rows width n d t (set rows (V' * width + w) row)
rows_more width n d t rows V' v w all some inside its row made =
    let at = V' * width + w in
    let (within, own) = place_of width n d t V' v w some inside its in
    let put = row_put n d t V' v at rows (row_at width n d t rows V' at all within own) row made in
    row_more width n d t rows V' at all within own (set rows at row) v _ put.0 put.1

-- At the start no row has anything.
pub rows_none : (width n d : ℕ) (t : List ℕ) → Rows width n d t (replicate (32 * width) (replicate {A = ℕ} 32 0))
rows_none width n d t = record {
  long = length-replicate (32 * width) (replicate {A = ℕ} 32 0);
  each =
      λ k h. inl
      (ap (λ (row : List ℕ). get_or row (k / width) 0) (get_or-replicate (32 * width) k (replicate {A = ℕ} 32 0) [] h) ∙ zeros_at 32 (k / width));
}
