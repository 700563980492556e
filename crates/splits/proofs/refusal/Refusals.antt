-- Refusals 7 to 10: what the code's loops and tests find, which number the tests give, and which words of a request they read.
-- Assumes nothing.
use mathlib.Core.Path.{◌≡◌, refl, sym, ap, ap₂, ◌∙◌}
use mathlib.Core.Bool.{Bool, true, false, not, cond, ◌&&◌, ◌||◌, and-true, and-false, or-false, or-true, or-not_self}
use mathlib.Core.Logic.Iff
use mathlib.Core.Logic.{◌↔◌, ◌⊎◌, inl, inr, ⊎_elim}
use mathlib.Core.List.{List, [], ◌∷◌, ◌++◌, map, map-append}
use Prim.Native.Nat.{ℕ, zero, suc, ◌+◌, ◌≤◌, ◌<◌}
use native.Mathlib.Nat.{lt_of_not-le}
use native.Mathlib.Decide.{ℕ_discrete}
use native.Mathlib.Numerals.{add-one}
use native.Mathlib.Omega.{arith}
use lib.ListN.{length}
use lib.Dec.{eqb, leb, ltb}
use borrow.Author.Tests.{lt-ltb, le-ltb, le-leb, lt-leb, ne_eqb, eq-eqb, ltb-true, leb-true, eqb-true, eqb-false, not-true}
use Rattle.problem.specs.Masks.{bit, ◌∈◌, Part, minus, size}
use Rattle.problem.specs.Problem.{Table}
use Rattle.splits.specs.Subproblems.{domain, empty}
use Rattle.problem.specs.Lists.{some, every, changed, below, keep}
use Rattle.splits.specs.Requests.{kind_of, variable_of, value_of, target_of}
use Rattle.splits.specs.Splits.{at_targets, without, extract, backtracking, forward_checking, idc, halving, extraction, by_kind, named, pieces}
use Rattle.splits.specs.Checks.{tried, values_in, others, checks}
use Rattle.problem.specs.Refusing.{FirstOf}
use Rattle.splits.specs.Refusals.{Accepted, Deserves7, Deserves8, Deserves9, Deserves10, refusals}
use Rattle.splits.specs.Tests.Refusals.{bad, some_bad, all_same, refused_7, refused_8, refused_9, refused_10, refusal_of}
use Rattle.splits.specs.Promises.{Agree}
use Rattle.splits.specs.Loops.Kinds.{deserves9, refusal_of_variable}
use Rattle.splits.specs.declared.subproblem.Subproblem.{Subproblem}
use Rattle.problem.proofs.mask.Masks.{bit_le, common_none, part_minus, minus_part_of}
use Rattle.splits.proofs.split.ByKind.{kinds, no_kind}
use Rattle.problem.proofs.Tests.{true_false, and_left, and_right, or_cases, some_more, some_at, some_found, some_same, every_at, every_all, every_same}
use Rattle.problem.proofs.Refusing.{first_by}
use Rattle.splits.proofs.checks.Looking.{keep_append}
use Rattle.splits.proofs.subproblem.Subproblems.{domain_out}

-- ---- the loops over the targets

-- beside an empty domain every target is bad
bad_none : (t : ℕ) → bad t 0 ≡ true
unfolding bad minus
bad_none t = let e : minus t 0 ≡ t = omega (arith, common_none t) in rw e (or-not_self (eqb t 0))

module _ (n : ℕ) (P : Subproblem) (r : List ℕ) where
  -- past the 32 domains the domains are empty
  pub ten_past : length P.domains ≡ 32 → 32 < n → ◌≡◌ {A = ℕ} 10 (cond (some_bad n P r || all_same n P r) 10 0)
  unfolding some_bad
  ten_past e h =
      rw (some_at (λ i. bad (target_of r i) (domain P i)) n 32 h (rw (← domain_out P 32 e (omega arith)) (bad_none (target_of r 32))))

  -- a bad target ends the loop
  pub ten_at : (i t m : ℕ) (b : Bool) → i < n → t ≡ target_of r i → m ≡ domain P i → b ≡ bad t m → b ≡ true
      → ◌≡◌ {A = ℕ} 10 (cond (some_bad n P r || all_same n P r) 10 0)
  unfolding some_bad
  ten_at i t m b h s k e y = rw (some_at (λ j. bad (target_of r j) (domain P j)) n i h (rw (← s, ← k, ← e) y))

module _ (P : Subproblem) (r : List ℕ) where
  -- what the loop knows of the first i targets: none is bad, and whether all are their domains
  pub record Passed (i : ℕ) (same : Bool) : Type 0 where
    pub not_bad : some_bad i P r ≡ false
    pub all : same ≡ all_same i P r

  pub passed_none : Passed 0 true
  unfolding some_bad all_same some every
  passed_none = record { not_bad = refl; all = refl }

  -- one target more that is not bad, and is the domain or is not
  module _ (i t m : ℕ) (b same after : Bool) (so_far : Passed i same) (its_target : t ≡ target_of r i) (its-domain : m ≡ domain P i)
      (tested : b ≡ bad t m) (good : b ≡ false) where
    more_good : some_bad (i + 1) P r ≡ false
    unfolding some_bad
    more_good = some_more (λ j. bad (target_of r j) (domain P j)) i so_far.not_bad (rw (← its_target, ← its-domain, ← tested) good)

    more_same : (s : Bool) → eqb t m ≡ s → (all_same i P r && s) ≡ all_same (i + 1) P r
    unfolding all_same every
    more_same s e = rw (add-one, ← its_target, ← its-domain, e)

    pub passed_same : t ≡ m → after ≡ same → Passed (i + 1) after
    passed_same e k =
        record { not_bad = more_good; all = k ∙ so_far.all ∙ sym (and-true (all_same i P r)) ∙ more_same true (eq-eqb t m e) }

    pub passed_other : (t ≡ m → ⊥) → after ≡ false → Passed (i + 1) after
    passed_other f k =
        record { not_bad = more_good; all = k ∙ sym (and-false (all_same i P r)) ∙ more_same false (ne_eqb t m f) }

  -- and at the end
  pub passed_all : (n i : ℕ) (same : Bool) → Passed i same → i ≡ n → ◌≡◌ {A = ℕ} (cond same 10 0) (cond (some_bad n P r || all_same n P r) 10 0)
  passed_all n i same h e = rw (← e, h.not_bad, ← h.all)

-- ---- the tests in the code's order

-- what `has` finds, turned round
pub lacks : (m v : ℕ) (b : Bool) → b ≡ eqb (bit m v) 1 → eqb (bit m v) 0 ≡ not b
lacks m v true e = ne_eqb (bit m v) 0 (λ z. absurd (omega (arith, eqb-true (bit m v) 1 (sym e))))
lacks m v false e =
    let other : bit m v ≡ 1 → ⊥ = eqb-false (bit m v) 1 (sym e) in
    eq-eqb (bit m v) 0 (omega (arith, bit_le m v))

-- where 8 is not deserved, of a V with domain m
pub past_8 : (n d : ℕ) (P : Subproblem) (k V' v m : ℕ) (b c : Bool) → V' < n → b ≡ eqb (bit P.marked V') 1 → b ≡ false → m ≡ domain P V'
    → c ≡ deserves9 d m k v → cond c 9 0 ≡ refusal_of_variable n d P k V' v
unfolding refusal_of_variable
past_8 n d P k V' v m b c h e f s t = rw (lt-leb n V' h, ← e, f, ← s, ← t)

module _ (n d : ℕ) (P : Subproblem) (r : List ℕ) where
  -- kind 5 can only deserve 10
  pub of_targets : (k : ℕ) → k ≡ kind_of r → k ≡ 5 → cond (some_bad n P r || all_same n P r) 10 0 ≡ refusal_of n d P r
  unfolding refusal_of refused_7 refused_8 refused_9 refused_10
  of_targets k s e = rw (← s, e)

  -- kinds 1 to 4 only 8 or 9, and 4 reads no v
  pub of_variable : (k V' v : ℕ) → k ≡ kind_of r → V' ≡ variable_of r → ((k ≡ 4 → ⊥) → v ≡ value_of r) → 1 ≤ k → k ≤ 4
      → refusal_of_variable n d P k V' v ≡ refusal_of n d P r
  unfolding refusal_of refused_7 refused_8 refused_9 refused_10 refusal_of_variable deserves9
  of_variable k V' v s i j l h = elim (ℕ_discrete k 4) [
    | yes e ↦ rw (← s, ← i, e)
    | no f ↦
        let low : k ≤ 3 = omega arith in
        rw (← s, ← i, ← j f)
        (simp (le-ltb k 1 l, le-ltb 5 k (omega arith), le-leb k 3 low, le-leb k 4 h, ne_eqb k 4 f, ne_eqb k 5 (λ e. absurd (omega arith)), or-false))
  ]

-- ---- what the tests say

-- an order or an equation of numbers
lt_says : (a b : ℕ) → (ltb a b ≡ true) ↔ (a < b)
lt_says a b = (ltb-true a b, lt-ltb a b)

le_says : (a b : ℕ) → (leb a b ≡ true) ↔ (a ≤ b)
le_says a b = (leb-true a b, le-leb a b)

eq_says : (a b : ℕ) → (eqb a b ≡ true) ↔ (a ≡ b)
eq_says a b = (eqb-true a b, eq-eqb a b)

-- the other way round, both, and one of two
module _ {a : Bool} {A : Type 0} (f : (a ≡ true) ↔ A) where
  not_says : (not a ≡ true) ↔ (A → ⊥)
  not_says = (λ e x. true_false (sym (f.1 x) ∙ not-true a e), λ n. go a f n)
    where
      go : (b : Bool) → (b ≡ true) ↔ A → (A → ⊥) → not b ≡ true
      go true g n = absurd (n (g.0 refl))
      go false g n = refl

  and_says : {b : Bool} {B : Type 0} → (b ≡ true) ↔ B → ((a && b) ≡ true) ↔ (A × B)
  and_says {b} g = (λ e. (f.0 (and_left a b e), g.0 (and_right a b e)), λ w. rw (f.1 w.0) (g.1 w.1))

  or_says : {b : Bool} {B : Type 0} → (b ≡ true) ↔ B → ((a || b) ≡ true) ↔ (A ⊎ B)
  or_says {b} g =
      (λ e. ⊎_elim (λ x. inl (f.0 x)) (λ x. inr (g.0 x)) (or_cases a b e), ⊎_elim (λ x. rw (f.1 x)) (λ x. rw (g.1 x) (or-true a)))

-- at some number below n, and at every one
module _ (n : ℕ) (f : ℕ → Bool) (A : ℕ → Type 0) (g : (i : ℕ) → (f i ≡ true) ↔ A i) where
  some_says : (some n f ≡ true) ↔ ((i : ℕ) × (i < n) × A i)
  some_says = (λ e. let w = some_found f n e in (w.0, w.1, (g w.0).0 w.2), λ w. some_at f n w.0 w.1 ((g w.0).1 w.2))

  every_says : (every n f ≡ true) ↔ ((i : ℕ) → i < n → A i)
  every_says = (λ e i h. (g i).0 (every_at f n i h e), λ w. every_all f n (λ i h. (g i).1 (w i h)))

-- a value that is not a member has digit 0
lacks_says : (m v : ℕ) → (eqb (bit m v) 0 ≡ true) ↔ (v ∈ m → ⊥)
lacks_says m v = rw (lacks m v (eqb (bit m v) 1) refl) (not_says (eq_says (bit m v) 1))

-- nothing is left of a part
part_says : (t m : ℕ) → (eqb (minus t m) 0 ≡ true) ↔ Part t m
part_says t m = Iff.trans (eq_says (minus t m) 0) (minus_part_of t m, part_minus t m)

-- a kind from 1 on
up_to : (k m : ℕ) → 1 ≤ k → (leb k m ≡ true) ↔ ((1 ≤ k) × (k ≤ m))
up_to k m l = (λ e. (l, leb-true k m e), λ w. le-leb k m w.1)

-- ---- the first of the four that is deserved

-- each test says what is deserved, 8 and 9 where 7 is not
module _ (n d : ℕ) (P : Subproblem) (r : List ℕ) where
  low : (Deserves7 r → ⊥) → 1 ≤ kind_of r
  low f = lt_of_not-le (λ h. f (inl (omega arith)))

  pub says_7 : (refused_7 r ≡ true) ↔ Deserves7 r
  unfolding refused_7
  says_7 = or_says (lt_says (kind_of r) 1) (lt_says 5 (kind_of r))

  pub says_8 : (Deserves7 r → ⊥) → (refused_8 n P r ≡ true) ↔ Deserves8 n P r
  unfolding refused_8
  says_8 f = and_says (up_to (kind_of r) 4 (low f)) (or_says (le_says n (variable_of r)) (eq_says (bit P.marked (variable_of r)) 1))

  pub says_9 : (Deserves7 r → ⊥) → (refused_9 d P r ≡ true) ↔ Deserves9 d P r
  unfolding refused_9
  says_9 f =
      or_says
      (and_says (up_to (kind_of r) 3 (low f)) (or_says (le_says d (value_of r)) (lacks_says (domain P (variable_of r)) (value_of r))))
      (and_says (eq_says (kind_of r) 4) (eq_says (size (domain P (variable_of r))) 1))

  pub says_10 : (refused_10 n P r ≡ true) ↔ Deserves10 n P r
  unfolding refused_10 some_bad all_same bad
  says_10 =
      and_says (eq_says (kind_of r) 5)
      (or_says
      (some_says n (λ i. bad (target_of r i) (domain P i)) (λ i. (target_of r i ≡ 0) ⊎ (Part (target_of r i) (domain P i) → ⊥))
      (λ i. or_says (eq_says (target_of r i) 0) (not_says (part_says (target_of r i) (domain P i)))))
      (every_says n (λ i. eqb (target_of r i) (domain P i)) (λ i. target_of r i ≡ domain P i) (λ i. eq_says (target_of r i) (domain P i))))

  -- the four tests, one after the other, give the first that is deserved
  pub first_refusal : FirstOf (refusals n d P r) (refusal_of n d P r)
  unfolding refusal_of
  first_refusal =
      first_by (refusals n d P r) (refused_7 r ∷ refused_8 n P r ∷ refused_9 d P r ∷ refused_10 n P r ∷ []) refl
      (says_7, λ f. (says_8 f, λ g. (says_9 f, λ h. (says_10, λ i. tt))))

  -- a kind that is none is refused by 7
  pub is_7 : Deserves7 r → refusal_of n d P r ≡ 7
  is_7 x = first_refusal.0.1 (tt, x)

  pub is_none : (refusal_of n d P r ≡ 0) ↔ Accepted n d P r
  is_none =
      let none = first_refusal.1.1.1.1 in (
        (λ e. let w = none.0 e in record { not_7 = w.0.0.0.1; not_8 = w.0.0.1; not_9 = w.0.1; not_10 = w.1 }),
        (λ a. none.1 ((((tt, a.not_7), a.not_8), a.not_9), a.not_10)),
      )

-- ---- the words that a kind reads

pub changed_same : {A : Type 0} (n : ℕ) (f g : ℕ → A → A) (l : List A) → ((i : ℕ) → i < n → (m : A) → f i m ≡ g i m) → changed n f l ≡ changed n g l
unfolding changed
changed_same zero f g l h = refl
changed_same (suc n) f g [] h = refl
changed_same (suc n) f g (m ∷ ms) h =
    ap₂ (λ x xs. x ∷ xs) (h 0 (omega arith) m) (changed_same n (λ i. f (suc i)) (λ i. g (suc i)) ms (λ i l. h (suc i) (omega arith)))

kept_same : {A : Type 0} (f g : ℕ → A) (p q : ℕ → Bool) (n : ℕ) → ((i : ℕ) → i < n → f i ≡ g i) → ((i : ℕ) → i < n → p i ≡ q i)
    → map f (keep p (below n)) ≡ map g (keep q (below n))
unfolding below keep
kept_same f g p q zero h k = refl
kept_same f g p q (suc n) h k =
    rw (keep_append p (below n) (n ∷ []), keep_append q (below n) (n ∷ []), map-append f, map-append g, k n (omega arith))
    (ap₂ (λ x y. x ++ y) (kept_same f g p q n (λ i l. h i (omega arith)) (λ i l. k i (omega arith))) (last (q n)))
  where
    last : (b : Bool) → map f (cond b (n ∷ []) []) ≡ map g (cond b (n ∷ []) [])
    last true = rw (h n (omega arith))
    last false = refl

-- kind 5 reads the targets of the n variables alone
module _ (n : ℕ) (P : Subproblem) (r s : List ℕ) (h : (i : ℕ) → i < n → target_of r i ≡ target_of s i) where
  targets_same : (j : ℕ) → j ≤ n → at_targets P r j ≡ at_targets P s j
  unfolding at_targets
  targets_same j l =
      let e = changed_same j (λ i m. target_of r i) (λ i m. target_of s i) P.domains (λ i k m. h i (omega arith)) in
      λ t. record { domains = e t; marked = P.marked }

  extraction_same : extraction n P r ≡ extraction n P s
  unfolding extraction extract
  extraction_same =
      ap₂ (λ Q Qs. Q ∷ Qs) (targets_same n (omega arith))
      (kept_same (extract P r) (extract P s) _ _ n
      (λ j l. ap₂ (λ Q m. without Q j m) (targets_same j (omega arith)) (h j l)) (λ j l. ap (λ m. not (eqb m (domain P j))) (h j l)))

  bad_same : ◌≡◌ {A = ℕ} (cond (some_bad n P r || all_same n P r) 10 0) (cond (some_bad n P s || all_same n P s) 10 0)
  unfolding some_bad all_same
  bad_same =
      ap₂ (λ a b. cond (a || b) 10 0) (some_same _ _ n (λ i l. ap (λ m. bad m (domain P i)) (h i l)))
      (every_same _ _ n (λ i l. ap (λ m. eqb m (domain P i)) (h i l)))

-- what is said for each kind of the words that it reads
module _ {A : Type 0} (a b c : ℕ → ℕ → A) (d : ℕ → A) (e : List ℕ → A) (other : A) where
  abbrev by_words : ℕ → List ℕ → A
  by_words k r =
      by_kind k (a (variable_of r) (value_of r)) (b (variable_of r) (value_of r)) (c (variable_of r) (value_of r)) (d (variable_of r)) (e r) other

  words_none : (k : ℕ) (r : List ℕ) → (k < 1) ⊎ (5 < k) → by_words k r ≡ other
  words_none k r =
      no_kind k (a (variable_of r) (value_of r)) (b (variable_of r) (value_of r)) (c (variable_of r) (value_of r)) (d (variable_of r)) (e r) other

  words_same : (n : ℕ) (r s : List ℕ) → Agree n r s → (kind_of r ≡ 5 → e r ≡ e s) → by_words (kind_of r) r ≡ by_words (kind_of s) s
  words_same n r s h t =
      kinds (λ k. kind_of r ≡ k → by_words k r ≡ by_words k s)
      (λ i. ap₂ a (h.variable (omega arith) (omega arith)) (h.value (omega arith) (omega arith)))
      (λ i. ap₂ b (h.variable (omega arith) (omega arith)) (h.value (omega arith) (omega arith)))
      (λ i. ap₂ c (h.variable (omega arith) (omega arith)) (h.value (omega arith) (omega arith)))
      (λ i. ap d (h.variable (omega arith) (omega arith))) t (λ k o i. words_none k r o ∙ sym (words_none k s o)) (kind_of r) refl
      ∙ ap (λ k. by_words k s) h.kind

-- requests that agree on the words that their kind reads
module _ (n : ℕ) (P : Subproblem) (r s : List ℕ) (h : Agree n r s) where
  pub same_pieces : (allowed : Table) → pieces n allowed P r ≡ pieces n allowed P s
  unfolding pieces named
  same_pieces allowed =
      ap (keep (λ Q. not (empty n Q)))
      (words_same (backtracking n allowed P) (forward_checking n allowed P) (idc n allowed P) (halving P) (extraction n P) [] n r s h
      (λ i. extraction_same n P r s (h.targets i)))

  pub same_checks : (allowed : Table) → checks n allowed P r ≡ checks n allowed P s
  unfolding checks
  same_checks allowed =
      words_same (λ V' v. tried (others V') n allowed P V' v) (λ V' v. values_in (others V') n P) (λ V' v. values_in (others V') n P) (λ V'. 0) (λ q. 0)
      0
      n r s h (λ i. refl)

  pub same_refusal : (d : ℕ) → refusal_of n d P r ≡ refusal_of n d P s
  same_refusal d =
      kinds (λ k. kind_of r ≡ k → refusal_of n d P r ≡ refusal_of n d P s) (λ e. four (omega arith) (omega arith))
      (λ e. four (omega arith) (omega arith))
      (λ e. four (omega arith) (omega arith)) (λ e. four (omega arith) (omega arith))
      (λ e. sym (of_targets n d P r (kind_of r) refl e) ∙ bad_same n P r s (h.targets e) ∙ of_targets n d P s (kind_of r) h.kind e)
      (λ k o e. is_7 n d P r (rw e o) ∙ sym (is_7 n d P s (rw (sym h.kind ∙ e) o))) (kind_of r) refl
    where
      four : 1 ≤ kind_of r → kind_of r ≤ 4 → refusal_of n d P r ≡ refusal_of n d P s
      four l m =
          sym (of_variable n d P r (kind_of r) (variable_of r) (value_of r) refl refl (λ f. refl) l m)
          ∙ of_variable n d P s (kind_of r) (variable_of r) (value_of r) h.kind (h.variable l m) (λ f. h.value l (omega arith)) l m

-- ---- one answer
