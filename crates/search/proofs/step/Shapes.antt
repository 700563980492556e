-- The pieces of an accepted request have the shape that a slot holds, and none of their domains is empty.
-- Assumes nothing.
use mathlib.Core.Path.{◌≡◌, refl, ◌∙◌}
use mathlib.Core.Logic.{⊎_elim}
use mathlib.Core.Bool.{Bool, true, false, cond}
use mathlib.Core.List.{List, Memᴰ, [], ◌∷◌}
use Prim.Native.Nat.{ℕ, zero, suc, ◌+◌, ◌-◌, ◌^◌, ◌≤◌, ◌<◌}
use native.Mathlib.Omega.{arith}
use native.Mathlib.Nat.{le_trans, le_refl}
use native.Mathlib.Decide.{ℕ_discrete}
use lib.ListN.{length, length-set}
use lib.Seq.{get_or-set_same, get_or-set_other}
use lib.Bits.{or_lt}
use lib.Dec.{eqb}
use borrow.Author.Tests.{eqb-false}
use Rattle.problem.specs.Masks.{Part, single, common, smaller_half}
use Rattle.problem.specs.Problem.{Table, table_of}
use Rattle.splits.specs.Subproblems.{domain, empty}
use Rattle.splits.specs.Requests.{kind_of, variable_of, value_of, target_of}
use Rattle.splits.specs.Splits.{pieces, candidates, candidate, backtracked, checked, inferred, halved, extracted, instantiate, without, cut, cut_beside, at_targets, precluded, disjunct, extract, forbidden}
use Rattle.splits.specs.Tests.Refusals.{refusal_of}
use Rattle.splits.specs.declared.subproblem.Subproblem.{Subproblem}
use Rattle.problem.proofs.mask.Masks.{common_part, minus_part, part_lt, single_lt}
use Rattle.splits.proofs.subproblem.Domains.{Within, length_changed, within_changed, within_set}
use Rattle.problem.proofs.Tests.{some_none}
use Rattle.splits.proofs.split.ByKind.{kinds}
use Rattle.problem.specs.Ranges.{Sized}
use Rattle.search.specs.Agenda.{Shape}
use Rattle.search.specs.Loops.Kept.{Regular}
use Rattle.search.proofs.step.Candidates.{one, firsts, pieces_are}
use Rattle.search.proofs.step.Accepting.{its_variable, its_value, its_target, a_kind, accepted_reads}

module _ (n d : ℕ) (few : n ≤ 32) (P : Subproblem) (s : Shape n d P) where
  -- Domains that lie within those of P.
  less : (Q : Subproblem) → Q.marked ≡ P.marked → length Q.domains ≡ length P.domains → Within Q.domains P.domains → Shape n d Q
  less Q m l w = record {
    long = l ∙ s.long;
    masks = λ i. part_lt d (domain Q i) (domain P i) (w i) (s.masks i);
    past = λ i h.
        let none : domain P i < 2 ^ 0 = rw (s.past i h) (omega arith) in
        let small : domain Q i < 2 ^ 0 = part_lt 0 (domain Q i) (domain P i) (w i) none in
        omega arith;
    marks = rw m s.marks;
  }

  -- A domain without some values, or cut.
  shape_without : (i m : ℕ) → Shape n d (without P i m)
  unfolding without
  shape_without i m = less (without P i m) refl (length-set P.domains i _) (within_set P.domains i _ (minus_part (domain P i) m))

  shape_cut : (i m : ℕ) → Shape n d (cut P i m)
  unfolding cut
  shape_cut i m = less (cut P i m) refl (length-set P.domains i _) (within_set P.domains i _ (common_part (domain P i) m))

  -- Domains cut beside a value.
  shape_beside : (allowed : Table) (V' v j : ℕ) → Shape n d (cut_beside allowed P V' v j)
  unfolding cut_beside
  shape_beside allowed V' v j =
      less (cut_beside allowed P V' v j) refl (length_changed j _ P.domains)
      (within_changed j (λ i m. cond (eqb i V') m (common m (allowed V' i v))) P.domains (λ i h. either (eqb i V') i))
    where
      either : (b : Bool) (i : ℕ) → Part (cond b (domain P i) (common (domain P i) (allowed V' i v))) (domain P i)
      either true i v m = m
      either false i v m = common_part (domain P i) (allowed V' i _) v m

  -- Domains at their targets.
  shape_targets : (r : List ℕ) (j : ℕ) → j ≤ n → ((i : ℕ) → i < n → Part (target_of r i) (domain P i)) → Shape n d (at_targets P r j)
  unfolding at_targets
  shape_targets r j h parts =
      less (at_targets P r j) refl (length_changed j _ P.domains)
      (within_changed j (λ i m. target_of r i) P.domains (λ i l. parts i (le_trans l h)))

  -- A variable instantiated.
  shape_instantiate : (V' v : ℕ) → V' < n → v < d → Shape n d (instantiate P V' v)
  unfolding instantiate
  shape_instantiate V' v h k = record {
    long = length-set P.domains V' (single v) ∙ s.long;
    masks = λ i. elim (ℕ_discrete i V') [
      | yes e ↦ rw (e, get_or-set_same P.domains V' (single v) 0 (rw s.long (le_trans h few))) (single_lt d v k)
      | no e ↦ rw (get_or-set_other P.domains V' i (single v) 0 e) (s.masks i)
    ];
    past = λ i l. let other : i ≡ V' → ⊥ = λ e. omega arith in get_or-set_other P.domains V' i (single v) 0 other ∙ s.past i l;
    marks = or_lt 32 P.marked (single V') s.marks (single_lt 32 V' (le_trans h few));
  }

module _ (n d : ℕ) (few : n ≤ 32) (P : Subproblem) (s : Shape n d P) (allowed : Table) where
  -- The precluded piece.
  shape_precluded : (V' v : ℕ) → V' < n → v < d → Shape n d (precluded n allowed P V' v)
  unfolding precluded
  shape_precluded V' v = shape_instantiate n d few (cut_beside allowed P V' v n) (shape_beside n d few P s allowed V' v n) V' v

  -- A further piece of IDC.
  shape_disjunct : (V' v j : ℕ) → Shape n d (disjunct allowed P V' v j)
  unfolding disjunct
  shape_disjunct V' v j =
      shape_without n d few _ (shape_beside n d few (without P V' (single v)) (shape_without n d few P s V' (single v)) allowed V' v j) j
      (allowed V' j v)

  -- A further piece of extraction.
  shape_extract : (r : List ℕ) (j : ℕ) → j ≤ n → ((i : ℕ) → i < n → Part (target_of r i) (domain P i)) → Shape n d (extract P r j)
  unfolding extract
  shape_extract r j h parts = shape_without n d few (at_targets P r j) (shape_targets n d few P s r j h parts) j (target_of r j)

-- What was gathered is a candidate that is not empty.
member_one : (n : ℕ) (R Q : Subproblem) → Memᴰ Q (one n R) → (Q ≡ R) × (empty n Q ≡ false)
unfolding one
member_one n R Q m = go (empty n R) refl m
  where
    go : (b : Bool) → empty n R ≡ b → Memᴰ Q (cond b [] (R ∷ [])) → (Q ≡ R) × (empty n Q ≡ false)
    go true e m = absurd (mathlib.Core.List.Memᴰ.not-nil m)
    go false e m = let same : Q ≡ R = mathlib.Core.List.Memᴰ.eq_of_singleton m in (same, rw same e)

-- So of all that were gathered.
member_firsts : (n : ℕ) (f : ℕ → Subproblem) (m : ℕ) (Q : Subproblem) → Memᴰ Q (firsts n f m)
    → (k : ℕ) × (k < m) × (Q ≡ f k) × (empty n Q ≡ false)
unfolding firsts
member_firsts n f zero Q i = absurd (mathlib.Core.List.Memᴰ.not-nil i)
member_firsts n f (suc m) Q i =
    ⊎_elim (λ (l : Memᴰ Q (firsts n f m)). let (k, h, e, g) = member_firsts n f m Q l in (k, omega arith, e, g))
    (λ (l : Memᴰ Q (one n (f m))). let (e, g) = member_one n (f m) Q l in (m, le_refl (suc m), e, g)) (mathlib.Core.List.Memᴰ.append_cases (firsts n f m) i)

-- No domain of what is not empty is.
pub not_empty : (n : ℕ) (Q : Subproblem) → empty n Q ≡ false → (i : ℕ) → i < n → domain Q i ≡ 0 → ⊥
unfolding empty
not_empty n Q e i h = eqb-false (domain Q i) 0 (some_none (λ k. eqb (domain Q k) 0) n i h e)

-- One of two, whichever it is.
pick : (C : Subproblem → Type 0) (b : Bool) (Q R : Subproblem) → C Q → C R → C (cond b Q R)
pick C true Q R q r = q
pick C false Q R q r = r

module _ (n d : ℕ) (t : List ℕ) (P : Subproblem) (r : List ℕ) (fit : Sized n d t) (s : Shape n d P) (accepted : refusal_of n d P r ≡ 0) where
  -- Whether the candidate has the shape.
  Shaped : ℕ → Type 0
  Shaped k = Shape n d (candidate n (table_of n d t) P r k)

  -- V without some values.
  rest : (m : ℕ) → Shape n d (without P (variable_of r) m)
  rest m = shape_without n d fit.few P s (variable_of r) m

  -- The precluded piece of an accepted request.
  first : (kind : ℕ) → kind_of r ≡ kind → kind ≤ 3 → Shape n d (precluded n (table_of n d t) P (variable_of r) (value_of r))
  first kind e l =
      shape_precluded n d fit.few P s (table_of n d t) (variable_of r) (value_of r) (its_variable n d P r accepted kind e (omega arith))
      (its_value n d P r accepted kind e l)

  -- Kind by kind.
  of_1 : (k : ℕ) → kind_of r ≡ 1 → Shaped k
  unfolding Shaped candidate backtracked
  of_1 k e =
      rw e (pick (Shape n d) (eqb k 0) _ _ (pick (Shape n d) (forbidden n (table_of n d t) P (variable_of r) (value_of r)) _ _
      (shape_cut n d fit.few P s (variable_of r) 0)
      (shape_instantiate n d fit.few P s (variable_of r) (value_of r) (its_variable n d P r accepted 1 e (omega arith)) (its_value n d P r accepted 1 e (omega arith))))
      (rest (single (value_of r))))

  of_2 : (k : ℕ) → kind_of r ≡ 2 → Shaped k
  unfolding Shaped candidate checked
  of_2 k e = rw e (pick (Shape n d) (eqb k 0) _ _ (first 2 e (omega arith)) (rest (single (value_of r))))

  of_3 : (k : ℕ) → kind_of r ≡ 3 → Shaped k
  unfolding Shaped candidate inferred
  of_3 k e =
      rw e (pick (Shape n d) (eqb k 0) _ _ (first 3 e (omega arith)) (pick (Shape n d) (eqb (k - 1) (variable_of r)) _ _
      (shape_cut n d fit.few P s (variable_of r) 0) (shape_disjunct n d fit.few P s (table_of n d t) (variable_of r) (value_of r) (k - 1))))

  of_4 : (k : ℕ) → kind_of r ≡ 4 → Shaped k
  unfolding Shaped candidate halved
  of_4 k e =
      rw e (pick (Shape n d) (eqb k 0) _ _ (shape_cut n d fit.few P s (variable_of r) (smaller_half (domain P (variable_of r))))
      (rest (smaller_half (domain P (variable_of r)))))

  of_5 : (k : ℕ) → k < candidates n r → kind_of r ≡ 5 → Shaped k
  unfolding Shaped candidate extracted candidates
  of_5 k h e =
      let few : k < n + 1 = rw e at h in
      let parts : (i : ℕ) → i < n → Part (target_of r i) (domain P i) = its_target n d P r accepted e in
      rw e (pick (Shape n d) (eqb k 0) _ _ (shape_targets n d fit.few P s r n (le_refl n) parts)
      (shape_extract n d fit.few P s (table_of n d t) r (k - 1) (omega arith) parts))

  -- Every candidate has the shape.
  candidate_shape : (k : ℕ) → k < candidates n r → Shape n d (candidate n (table_of n d t) P r k)
  unfolding Shaped
  candidate_shape k h =
      kinds (λ kind. kind_of r ≡ kind → Shaped k) (of_1 k) (of_2 k) (of_3 k) (of_4 k) (of_5 k h)
      (λ kind o e. absurd (a_kind n d P r accepted kind e o)) (kind_of r) refl

  -- So has every piece, and no domain of it is empty.
  pub pieces_regular : (Q : Subproblem) → Memᴰ Q (pieces n (table_of n d t) P r) → Regular n d Q
  pieces_regular Q m =
      let (k, l, e, f) = member_firsts n (candidate n (table_of n d t) P r) (candidates n r) Q
      (rw (pieces_are n d t P r (accepted_reads n d P r accepted t fit) s.long) at m) in
      record { shape = rw e (candidate_shape k l); filled = not_empty n Q f }
