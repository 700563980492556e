-- Every domain cut to its own mask, a turn of the loop at a time, and what the row of a value makes: the precluded piece.
-- Assumes nothing.
use mathlib.Core.Path.{◌≡◌, refl, sym, ap, ◌∙◌}
use mathlib.Core.Bool.{cond}
use mathlib.Core.List.{List}
use Prim.Native.Nat.{ℕ, suc, ◌+◌, ◌*◌, ◌%◌, ◌^◌, ◌≤◌, ◌<◌}
use native.Mathlib.Omega.{arith}
use native.Mathlib.Nat.{one-mul, mod-eq_of_lt}
use native.Mathlib.Numerals.{add-one}
use native.Mathlib.Decide.{dec_lt, ℕ_discrete}
use lib.ListN.{length, get_or, set, length-set}
use lib.Seq.{set-get_or, get_or-set_same, get_or-set_other, ext_get_or}
use lib.Bits.{bit_or}
use lib.Dec.{ltb, eqb}
use borrow.Author.Tests.{lt-ltb, eq-eqb, ne_eqb}
use Rattle.problem.specs.Masks.{single, common}
use Rattle.problem.specs.Problem.{Table}
use Rattle.splits.specs.Subproblems.{domain}
use Rattle.problem.specs.Lists.{changed}
use Rattle.splits.specs.Splits.{instantiate, cut_each, cut_beside, precluded, precluded_by}
use Rattle.problem.specs.Beside.{RowOf}
use Rattle.splits.specs.declared.subproblem.Subproblem.{Subproblem}
use Rattle.splits.specs.Loops.Kinds.{cut_before}
use Rattle.problem.proofs.mask.Masks.{single_lt, all_common}
use Rattle.problem.proofs.Changed.{changed_more, changed_next}
use Rattle.splits.proofs.subproblem.Domains.{length_changed, changed_before, changed_after, changed_same}

-- Each of the first i domains cut to its own mask; one more.
unfoldable pub cut_to : Subproblem → List ℕ → ℕ → Subproblem
cut_to P masks i = record { domains = changed i (λ j m. common m (get_or masks j 0)) P.domains; marked = P.marked }

pub cut_none : (P : Subproblem) (masks : List ℕ) → P ≡ cut_to P masks 0
unfolding cut_to changed
cut_none P masks = refl

pub cut_more : (P : Subproblem) (masks : List ℕ) (Q : Subproblem) (i : ℕ) → Q ≡ cut_to P masks i
    → record { domains = set Q.domains i (common (domain Q i) (get_or masks i 0)); marked = Q.marked } ≡ cut_to P masks (i + 1)
unfolding cut_to
cut_more P masks Q i e =
    let more = changed_more i (λ j m. common m (get_or masks j 0)) P.domains in
    rw (e, add-one, changed_next i (λ j m. common m (get_or masks j 0)) P.domains) (λ t. record { domains = more t; marked = P.marked })

pub cut_all : (P : Subproblem) (masks : List ℕ) → cut_to P masks 32 ≡ cut_each P masks
unfolding cut_to cut_each
cut_all P masks = refl

-- What the code stores: V's mask of the row, and its mark.
pub marked_by : (P Q : Subproblem) (V' : ℕ) (row : List ℕ) → V' < 32 → Q ≡ cut_each P row
    → record { domains = set Q.domains V' (get_or row V' 0); marked = bit_or Q.marked (1 * 2 ^ V' % 2 ^ 32) } ≡ cond (ltb V' 32) (precluded_by P V' row) P
unfolding precluded_by cut_each
marked_by P Q V' row h e =
    let bit : 1 * 2 ^ V' % 2 ^ 32 ≡ single V' = simp one-mul (mod-eq_of_lt (single_lt 32 V' h)) in
    rw (lt-ltb V' 32 h, e) (λ t. record {
      domains = set (changed 32 (λ i m. common m (get_or row i 0)) P.domains) V' (get_or row V' 0);
      marked = bit_or P.marked (bit t);
    })

-- The variables before i cut, except V: one more, or V passed over.
module _ (P : Subproblem) (V' : ℕ) (row : List ℕ) where
  masked : ℕ → ℕ → ℕ
  masked i m = cond (eqb i V') m (common m (get_or row i 0))

  pub before_none : P ≡ cut_before P V' row 0
  unfolding cut_before changed
  before_none = refl

  pub before_next : (Q : Subproblem) (i : ℕ) → Q ≡ cut_before P V' row i → (i ≡ V' → ⊥)
      → record { domains = set Q.domains i (common (domain Q i) (get_or row i 0)); marked = Q.marked } ≡ cut_before P V' row (i + 1)
  unfolding cut_before masked
  before_next Q i e h =
      let other : masked i (domain P i) ≡ common (domain P i) (get_or row i 0) = simp (ne_eqb i V' h) in
      let more = changed_more i masked P.domains in
      rw (e, add-one, changed_next, ← other) (λ t. record { domains = more t; marked = P.marked })

  pub before_skip : (Q : Subproblem) (i : ℕ) → Q ≡ cut_before P V' row i → i ≡ V' → Q ≡ cut_before P V' row (i + 1)
  unfolding cut_before masked
  before_skip Q i e h =
      let same : masked i (domain P i) ≡ domain P i = simp (eq-eqb i V' h) in
      let kept : changed i masked P.domains ≡ changed (suc i) masked P.domains =
      sym (set-get_or (changed i masked P.domains) i 0)
      ∙ ap (set (changed i masked P.domains) i) (changed_next i masked P.domains ∙ sym same)
      ∙ changed_more i masked P.domains in
      rw (e, add-one) (λ t. record { domains = kept t; marked = P.marked })

-- By the row of v, a value of V.
module _ (n : ℕ) (allowed : Table) (V' v : ℕ) (row : List ℕ) (few : n ≤ 32) (its : RowOf n allowed V' v row) where
  besides : ℕ → ℕ → ℕ
  besides i m = cond (eqb i V') m (common m (allowed V' i v))

  -- before j, where j is no more than n, it cuts to what is allowed beside v
  pub before_beside : (P : Subproblem) (j : ℕ) → j ≤ n → cut_before P V' row j ≡ cut_beside allowed P V' v j
  unfolding cut_before cut_beside
  before_beside P j h = λ t. record { domains = changed_same j _ _ P.domains each t; marked = P.marked }
    where
      each : (i m : ℕ) → i < j → cond (eqb i V') m (common m (get_or row i 0)) ≡ cond (eqb i V') m (common m (allowed V' i v))
      each i m l = elim (ℕ_discrete i V') [
        | yes s ↦ rw (eq-eqb i V' s) refl
        | no s ↦ rw (its.other i (omega arith) s) refl
      ]

  -- the precluded piece
  module _ (P : Subproblem) (long : length P.domains ≡ 32) (small : (i : ℕ) → i < 32 → domain P i < 65536) (a_variable : V' < n) where
    cut_long : length (changed n besides P.domains) ≡ 32
    cut_long = length_changed n besides P.domains ∙ long

    whole : ℕ → ℕ → ℕ
    whole j m = common m (get_or row j 0)

    whole_long : length (changed 32 whole P.domains) ≡ 32
    whole_long = length_changed 32 whole P.domains ∙ long

    at : (i : ℕ) → i < 32
        → get_or (set (changed 32 whole P.domains) V' (get_or row V' 0)) i 0 ≡ get_or (set (changed n besides P.domains) V' (single v)) i 0
    unfolding besides whole
    at i l = elim (ℕ_discrete i V') [
      | yes s ↦ rw (
        s,
        its.own,
        get_or-set_same (changed 32 whole P.domains) V' (single v) 0 (omega (arith, whole_long)),
        get_or-set_same (changed n besides P.domains) V' (single v) 0 (omega (arith, cut_long)),
      ) refl
      | no s ↦ rw (
        get_or-set_other (changed 32 whole P.domains) V' i (get_or row V' 0) 0 s,
        get_or-set_other (changed n besides P.domains) V' i (single v) 0 s,
        changed_before 32 whole P.domains i l (omega (arith, long)),
      ) (elim (dec_lt i n) [
        | yes k ↦ rw (its.other i k s, changed_before n besides P.domains i k (omega (arith, long)), ne_eqb i V' s) refl
        | no k ↦ rw (changed_after n besides P.domains i (omega arith), its.past i (omega arith) l) (all_common 16 (domain P i) (small i l))
      ])
    ]

    all : set (changed 32 whole P.domains) V' (get_or row V' 0) ≡ set (changed n besides P.domains) V' (single v)
    all =
        let a : length (set (changed 32 whole P.domains) V' (get_or row V' 0)) ≡ 32 = length-set (changed 32 whole P.domains) V' (get_or row V' 0) ∙ whole_long in
        let b : length (set (changed n besides P.domains) V' (single v)) ≡ 32 = length-set (changed n besides P.domains) V' (single v) ∙ cut_long in
        ext_get_or 0 _ _ (a ∙ sym b) (λ i l. at i (omega (arith, a)))

    pub row_made : precluded_by P V' row ≡ precluded n allowed P V' v
    unfolding precluded_by cut_each precluded instantiate cut_beside besides whole
    row_made = λ t. record { domains = all t; marked = bit_or P.marked (single V') }
