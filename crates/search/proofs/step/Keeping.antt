-- A further piece of kinds 3 and 5 in which its own variable keeps no value is empty.
-- Assumes nothing.
use mathlib.Core.Path.{◌≡◌, refl, sym, ap, ap₂, ◌∙◌}
use mathlib.Core.Logic.{◌⊎◌, ⊎_elim}
use mathlib.Core.Bool.{true, false, cond}
use mathlib.Core.List.{List}
use Prim.Native.Nat.{ℕ, ◌+◌, ◌-◌, ◌≤◌, ◌<◌}
use native.Mathlib.Omega.{arith}
use native.Mathlib.Nat.{le_refl}
use native.Mathlib.Decide.{ℕ_discrete}
use lib.ListN.{length, get_or, set, length-set}
use lib.Seq.{get_or-set_same, get_or-set_other}
use lib.Dec.{eqb}
use borrow.Author.Tests.{eq-eqb, ne_eqb, eqb-true}
use Rattle.problem.specs.Masks.{minus, common, single}
use Rattle.problem.specs.Problem.{table_of}
use Rattle.splits.specs.Subproblems.{domain, empty}
use Rattle.splits.specs.Requests.{kind_of, variable_of, value_of, target_of}
use Rattle.splits.specs.Splits.{candidates, candidate, inferred, extracted, without, cut, cut_beside, at_targets, disjunct, extract}
use Rattle.splits.specs.Calls.{readable}
use Rattle.problem.specs.Ranges.{Inside, Sized, Place}
use Rattle.splits.specs.declared.subproblem.Subproblem.{Subproblem}
use Rattle.problem.proofs.mask.Masks.{common_none}
use Rattle.splits.proofs.subproblem.Domains.{length_changed, changed_after}
use Rattle.splits.proofs.subproblem.Subproblems.{empty_at}
use Rattle.problem.proofs.tables.Ranges.{inside_true}
use Rattle.splits.proofs.split.ByKind.{few}

-- What a test of what was worked out says.
told : (x dom mask D M : ℕ) → x ≡ minus dom mask → dom ≡ D → mask ≡ M → eqb x 0 ≡ true → eqb (minus D M) 0 ≡ true
told x dom mask D M a p q z = ap (λ (y : ℕ). eqb y 0) (sym (a ∙ ap₂ minus p q)) ∙ z

module _ (n d : ℕ) (t r : List ℕ) (fits : readable n d t r ≡ true) where
  -- Kind 3's words fit.
  pub fits_3 : kind_of r ≡ 3 → Inside n d t (variable_of r) (value_of r)
  unfolding readable
  fits_3 e = inside_true n d t (variable_of r) (value_of r) (rw e at fits)

  pub place_3 : kind_of r ≡ 3 → (j : ℕ) → j < n → Sized n d t × Place n d (variable_of r) j (value_of r)
  place_3 e j h = let i = fits_3 e in (i.fit, record { first = i.a_variable; second = h; third = i.a_value })

  -- The variable of a further piece.
  pub own_variable : (k : ℕ) → k < candidates n r → (kind_of r ≡ 3) ⊎ (kind_of r ≡ 5) → (k ≡ 0 → ⊥) → k - 1 < n
  unfolding candidates
  own_variable k h e f =
      let most : candidates n r ≡ n + 1 = ⊎_elim (λ e. rw e refl) (λ e. rw e refl) e in
      omega arith

  module _ (P : Subproblem) (long : length P.domains ≡ 32) (k : ℕ) (some : k ≡ 0 → ⊥) (own : k - 1 < n) where
    later : eqb k 0 ≡ false
    later = ne_eqb k 0 some

    low : n ≤ 32
    low = few n d t r fits

    -- A domain that is written is the one that is read.
    written : (l : List ℕ) (i x : ℕ) → length l ≡ 32 → i < n → get_or (set l i x) i 0 ≡ x
    written l i x e h = get_or-set_same l i x 0 (omega (arith, low))

    -- Without the values of a mask that has them all.
    none_left : (Q : Subproblem) (mask : ℕ) → length Q.domains ≡ 32 → domain Q (k - 1) ≡ domain P (k - 1)
        → eqb (minus (domain P (k - 1)) mask) 0 ≡ true
        → empty n (without Q (k - 1) mask) ≡ true
    unfolding without
    none_left Q mask e still z =
        sym (empty_at n (without Q (k - 1) mask) (k - 1) own
        (written Q.domains (k - 1) (minus (domain Q (k - 1)) mask) e own ∙ rw still (eqb-true (minus (domain P (k - 1)) mask) 0 z)))

    -- Extraction.
    pub keeps_none_5 : (x dom mask : ℕ) → x ≡ minus dom mask → dom ≡ domain P (k - 1) → mask ≡ target_of r (k - 1) → kind_of r ≡ 5
        → eqb x 0 ≡ true → empty n (candidate n (table_of n d t) P r k) ≡ true
    unfolding candidate extracted extract at_targets
    keeps_none_5 x dom mask a p q e z =
        let front : Subproblem = at_targets P r (k - 1) in
        let still : domain front (k - 1) ≡ domain P (k - 1) = changed_after (k - 1) (λ i m. target_of r i) P.domains (k - 1) (le_refl (k - 1)) in
        rw (e, later)
        (none_left front (target_of r (k - 1)) (length_changed (k - 1) (λ i m. target_of r i) P.domains ∙ long) still (told x dom mask _ _ a p q z))

    -- IDC.
    pub keeps_none_3 : (x dom mask : ℕ) → x ≡ minus dom mask → dom ≡ domain P (k - 1)
        → ((variable_of r ≡ k - 1 → ⊥) → mask ≡ table_of n d t (variable_of r) (k - 1) (value_of r)) → kind_of r ≡ 3
        → eqb x 0 ≡ true → empty n (candidate n (table_of n d t) P r k) ≡ true
    unfolding candidate inferred disjunct cut cut_beside without
    keeps_none_3 x dom mask a p q e z =
        let V' : ℕ = variable_of r in
        let v : ℕ = value_of r in
        elim (ℕ_discrete (k - 1) V') [
          | yes s ↦
              let at : V' < n = (fits_3 e).a_variable in
              rw (e, later, eq-eqb (k - 1) V' s)
              (sym (empty_at n (cut P V' 0) V' at (written P.domains V' (common (domain P V') 0) long at ∙ common_none (domain P V'))))
          | no s ↦
              let f : ℕ → ℕ → ℕ = λ i m. cond (eqb i V') m (common m (table_of n d t V' i v)) in
              let rest : List ℕ = set P.domains V' (minus (domain P V') (single v)) in
              let front : Subproblem = cut_beside (table_of n d t) (without P V' (single v)) V' v (k - 1) in
              let still : domain front (k - 1) ≡ domain P (k - 1) =
              changed_after (k - 1) f rest (k - 1) (le_refl (k - 1)) ∙ get_or-set_other P.domains V' (k - 1) (minus (domain P V') (single v)) 0 s in
              rw (e, later, ne_eqb (k - 1) V' s)
              (none_left front (table_of n d t V' (k - 1) v)
              (length_changed (k - 1) f rest ∙ length-set P.domains V' (minus (domain P V') (single v)) ∙ long) still
              (told x dom mask _ _ a p (q (λ w. s (sym w))) z))
        ]
