-- The pieces of the chooser's request, told by the row of its value: the precluded piece, what is left of V, and the further ones.
-- Assumes nothing.
use mathlib.Core.Path.{◌≡◌, refl, sym, ◌∙◌}
use mathlib.Core.Bool.{Bool, true, false, not, cond, ◌&&◌}
use mathlib.Core.List.{List, [], ◌∷◌, map, Memᴰ}
use Prim.Native.Nat.{ℕ, ◌≤◌, ◌<◌}
use native.Mathlib.Omega.{arith}
use native.Mathlib.Decide.{dec_lt, ℕ_discrete}
use lib.ListN.{length, get_or, set, length-set}
use lib.Seq.{get_or-set_same, get_or-set_other}
use lib.Dec.{eqb}
use borrow.Author.Tests.{eq-eqb, ne_eqb, eqb-true, eqb-false}
use Rattle.problem.specs.Masks.{◌∈◌, single, common, minus, size}
use Rattle.problem.specs.Problem.{Table}
use Rattle.splits.specs.Subproblems.{domain, empty}
use Rattle.problem.specs.Lists.{some, changed, below, keep}
use Rattle.splits.specs.Splits.{filled, without, cut_beside, precluded, disjunct, forward_checking, idc, named, pieces}
use Rattle.problem.specs.Beside.{RowOf}
use Rattle.splits.specs.declared.subproblem.Subproblem.{Subproblem}
use Rattle.problem.proofs.mask.Masks.{minus_self, size_of_none, size_split, size_single, part_common, part_single, single_of}
use Rattle.problem.proofs.Tests.{true_false, same_test, some_at, some_found, some_all_not, and_left, and_right}
use Rattle.splits.proofs.subproblem.Domains.{changed_before, changed_after}
use Rattle.splits.proofs.subproblem.Subproblems.{empty_at, precluded_empty}
use Rattle.problem.proofs.Lists.{each_of}
use Rattle.searches.specs.Chooser.{request}
use Rattle.search.specs.Loops.Kept.{Regular}
use Rattle.splits.specs.AtOnce.{lost, loses}

-- A list of which nothing passes.
keep_none : {A : Type 0} (f : A → Bool) (l : List A) → ((x : A) → Memᴰ x l → f x ≡ false) → keep f l ≡ []
unfolding keep
keep_none f [] h = refl
keep_none f (x ∷ l) h = rw (h x (Memᴰ.head refl)) (keep_none f l (λ y m. h y (Memᴰ.tail m)))

module _ (n d : ℕ) (allowed : Table) (P : Subproblem) (V' v : ℕ) (few : n ≤ 32) (reg : Regular n d P) (a_variable : V' < n)
    (member : v ∈ domain P V') where
  -- V has its value, so it is cut to it by its own mask.
  own_common : common (domain P V') (single v) ≡ single v
  own_common = part_common (single v) (domain P V') (part_single (domain P V') v member)

  single_some : single v ≡ 0 → ⊥
  single_some z = let one : size (single v) ≡ 1 = size_single v in let none : size (single v) ≡ 0 = rw z size_of_none in omega arith

  -- What the cut of all domains leaves of V, of another variable, past the last.
  besides : ℕ → ℕ → ℕ
  besides i m = cond (eqb i V') m (common m (allowed V' i v))

  at_most : (i : ℕ) → i < n → i < length P.domains
  at_most i h = omega (arith, reg.shape.long)

  module _ (row : List ℕ) (its : RowOf n allowed V' v row) where
    -- Whether a domain is lost is whether the precluded piece is empty.
    pub lost_is : loses P.domains row ≡ empty n (precluded n allowed P V' v)
    unfolding loses lost
    lost_is =
        same_test _ _
        (λ e.
        let (i, l, f) = some_found (λ i. not (eqb (domain P i) 0) && eqb (common (domain P i) (get_or row i 0)) 0) 32 e in
        found i (not_zero (eqb (domain P i) 0) (and_left (not (eqb (domain P i) 0)) _ f)) (eqb-true _ 0 (and_right (not (eqb (domain P i) 0)) _ f)))
        (λ e.
        let (i, l, f) = some_found (λ i. not (eqb i V') && eqb (common (domain P i) (allowed V' i v)) 0) n e in
        some_at (λ i. not (eqb (domain P i) 0) && eqb (common (domain P i) (get_or row i 0)) 0) 32 i (omega arith)
        (rw (ne_eqb (domain P i) 0 (reg.filled i l), its.other i l (eqb-false i V' (not_zero (eqb i V') (and_left (not (eqb i V')) _ f))))
        (and_right (not (eqb i V')) _ f)))
        ∙ precluded_empty n allowed P V' v reg.shape.long a_variable few
      where
        not_zero : (b : Bool) → not b ≡ true → b ≡ false
        not_zero true e = absurd (true_false (sym e))
        not_zero false e = refl

        found : (i : ℕ) → eqb (domain P i) 0 ≡ false → common (domain P i) (get_or row i 0) ≡ 0
            → some n (λ i. not (eqb i V') && eqb (common (domain P i) (allowed V' i v)) 0) ≡ true
        found i e z = elim (dec_lt i n) [
          | yes l ↦ elim (ℕ_discrete i V') [
            | yes s ↦ absurd (single_some (sym own_common ∙ rw (s, its.own) at z))
            | no s ↦ some_at (λ i. not (eqb i V') && eqb (common (domain P i) (allowed V' i v)) 0) n i l
                (rw (ne_eqb i V' s, ← its.other i l s) (eq-eqb (common (domain P i) (get_or row i 0)) 0 z))
          ]
          | no l ↦ absurd (eqb-false (domain P i) 0 e (reg.shape.past i (omega arith)))
        ]

  -- What is left of V without v.
  left : get_or (without P V' (single v)).domains V' 0 ≡ minus (domain P V') (single v)
  unfolding without
  left = get_or-set_same P.domains V' (minus (domain P V') (single v)) 0 (at_most V' a_variable)

  -- Nothing, if v is its only value.
  nothing : size (domain P V') ≡ 1 → get_or (without P V' (single v)).domains V' 0 ≡ 0
  nothing one = left ∙ rw (single_of (domain P V') v one member) (minus_self (single v))

  pub rest_empty : size (domain P V') ≡ 1 → empty n (without P V' (single v)) ≡ true
  rest_empty one = sym (empty_at n (without P V' (single v)) V' a_variable (nothing one))

  -- Something, if it is not.
  pub some_left : (size (domain P V') ≡ 1 → ⊥) → minus (domain P V') (single v) ≡ 0 → ⊥
  some_left more z =
      let parts = size_split (domain P V') (single v) in
      let one : size (common (domain P V') (single v)) ≡ 1 = rw own_common (size_single v) in
      let none : size (minus (domain P V') (single v)) ≡ 0 = rw z size_of_none in
      more (omega arith)

  pub rest_full : (size (domain P V') ≡ 1 → ⊥) → empty n (without P V' (single v)) ≡ false
  unfolding empty without
  rest_full more =
      some_all_not (λ i. eqb (domain (without P V' (single v)) i) 0) n (λ i l. ne_eqb (domain (without P V' (single v)) i) 0 (at i l))
    where
      at : (i : ℕ) → i < n → domain (without P V' (single v)) i ≡ 0 → ⊥
      at i l = elim (ℕ_discrete i V') [
        | yes s ↦ λ z. some_left more (sym left ∙ rw s at z)
        | no s ↦ λ z. reg.filled i l (sym (get_or-set_other P.domains V' i (minus (domain P V') (single v)) 0 s) ∙ z)
      ]

  -- If v is V's only value every further piece is empty.
  further_empty : size (domain P V') ≡ 1 → (j : ℕ) → (j ≡ V' → ⊥) → empty n (disjunct allowed P V' v j) ≡ true
  unfolding disjunct without cut_beside besides
  further_empty one j s =
      let less : List ℕ = set P.domains V' (minus (domain P V') (single v)) in
      let cut : List ℕ = changed j besides less in
      let still : get_or cut V' 0 ≡ 0 = elim (dec_lt V' j) [
        | yes l ↦
            changed_before j besides less V' l (omega (arith, length-set P.domains V' (minus (domain P V') (single v)), at_most V' a_variable)) ∙
            rw (eq-eqb V' V' refl) (nothing one)
        | no l ↦ changed_after j besides less V' (omega arith) ∙ nothing one
      ] in
      sym (empty_at n (disjunct allowed P V' v j) V' a_variable
      (get_or-set_other cut j V' (minus (get_or cut j 0) (allowed V' j v)) 0 (λ e. s (sym e)) ∙ still))

  -- ---- the pieces

  -- Kind 2, where the precluded piece is empty.
  pub two_none : empty n (precluded n allowed P V' v) ≡ true → size (domain P V') ≡ 1 → pieces n allowed P (request 2 V' v) ≡ []
  unfolding pieces filled named keep forward_checking
  two_none e one = rw (e, rest_empty one) refl

  pub two_rest : empty n (precluded n allowed P V' v) ≡ true → (size (domain P V') ≡ 1 → ⊥)
      → pieces n allowed P (request 2 V' v) ≡ without P V' (single v) ∷ []
  unfolding pieces filled named keep forward_checking
  two_rest e more = rw (e, rest_full more) refl

  -- Kind 3, where v is V's only value.
  pub three_one : empty n (precluded n allowed P V' v) ≡ false → size (domain P V') ≡ 1
      → pieces n allowed P (request 3 V' v) ≡ precluded n allowed P V' v ∷ []
  unfolding pieces filled named keep idc
  three_one e one =
      rw (
        e,
        keep_none (λ Q. not (empty n Q)) (map (disjunct allowed P V' v) (keep (λ j. not (eqb j V')) (below n)))
            (each_of (λ Q. not (empty n Q) ≡ false) (disjunct allowed P V' v) (λ j. not (eqb j V')) n
            (λ j l t. rw (further_empty one j (λ s. true_false (sym t ∙ rw (eq-eqb j V' s) refl))) refl)),
      )
      refl
