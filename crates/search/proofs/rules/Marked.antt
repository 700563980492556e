-- The rules for the subproblem in the words of a slot: its domains together, then its instantiated variables one by one.
-- Assumes nothing.
use mathlib.Core.Path.{◌≡◌, refl, sym, ap, ◌∙◌, subst}
use mathlib.Core.Bool.{Bool, true, false, not, cond, ◌&&◌, ◌||◌, and-false, and-true, true≢false}
use mathlib.Core.List.{List}
use Prim.Native.Nat.{ℕ, zero, suc, ◌+◌, ◌-◌, ◌*◌, ◌/◌, ◌%◌, ◌^◌, ◌≤◌, ◌<◌}
use native.Mathlib.Omega.{arith}
use native.Mathlib.Decide.{ℕ_discrete, dec_lt}
use native.Mathlib.Nat.{lt_of_lt_of_le, div-le_self}
use lib.Pow.{pow_mono}
use lib.Bits.{bit_and, bit_or, and_le_r}
use lib.Count.{count_trailing_zeros, trailing_of_zero}
use lib.Dec.{eqb, ltb}
use lib.ListN.{length, get_or, set, take, replicate, length-take, get_or-append}
use lib.Seq.{get_or-take}
use borrow.Author.Tests.{eq-eqb, ne_eqb, eqb-true, ltb-true, lt-ltb, le-ltb}
use Rattle.problem.specs.Masks.{bit, ◌∈◌, Part, single, minus, size, lowest}
use Rattle.problem.specs.Beside.{RowOf}
use Rattle.problem.specs.Problem.{Problem, Table, table_of, problem_of}
use Rattle.splits.specs.Subproblems.{domain}
use Rattle.problem.specs.Lists.{every, joined}
use Rattle.splits.specs.declared.subproblem.Subproblem.{Subproblem}
use Rattle.problem.proofs.mask.Masks.{bit_le, bit_above, not_minus, none_minus, minus_self, minus_part_of, part_antisym, part_single, part_minus, single_of, size_single, lowest_member, trailing_least, trailing_member, shifted}
use Rattle.problem.proofs.Tests.{and_left, and_right, every_at, every_all, same_test, and_both}
use Rattle.search.specs.Agenda.{holding, subproblem_of}
use Rattle.problem.specs.Tests.FirstChecks.{masks_below, symmetric, refusal_of_problem}
use Rattle.search.specs.Tests.FirstChecks.{domain_obeys, values_agree, obeys}
use Rattle.search.specs.Loops.FirstTests.{SlotFits, Next, part_wrong, wrong_in, held_at, beside_at, Held, missing_in, mark_obeys}
use Rattle.problem.proofs.first_checks.Joining.{joined_zero, joined_more, bit_shr}
use Rattle.search.proofs.rules.Obeying.{pair_agrees, is_marked, agrees_same, agrees_first, agrees_second, agrees_both}
use Rattle.problem.proofs.Copies.{zeros_at}

-- ---- one domain

pub wrong_empty : (whole m : ℕ) → m ≡ 0 → 1 ≡ part_wrong whole m
unfolding part_wrong
wrong_empty whole m e = rw e

pub wrong_over : (whole m : ℕ) → whole < 2 ^ 16 → m < 2 ^ 16 → (m ≡ 0 → ⊥) → bit_and m (65535 - whole) ≡ part_wrong whole m
unfolding part_wrong
wrong_over whole m k h f = not_minus 16 m whole h k ∙ rw (ne_eqb m 0 f)

-- nothing is wrong with one that is not empty and is part of the problem's
wrong_none : (whole m : ℕ) → eqb (part_wrong whole m) 0 ≡ (not (eqb m 0) && eqb (minus m whole) 0)
unfolding part_wrong
wrong_none whole m = go (eqb m 0)
  where
    go : (b : Bool) → eqb (cond b 1 (minus m whole)) 0 ≡ (not b && eqb (minus m whole) 0)
    go true = refl
    go false = refl

joined_same : (n : ℕ) (f g : ℕ → ℕ) → ((k : ℕ) → k < n → f k ≡ g k) → joined n f ≡ joined n g
unfolding joined
joined_same zero f g h = refl
joined_same (suc n) f g h = ap (λ (x : ℕ). bit_or x (f n)) (joined_same n f g (λ k l. h k (omega arith))) ∙ ap (bit_or (joined n g)) (h n (omega arith))

-- what is wrong with the first k of as many
pub wrong_front : (n k : ℕ) (domains slot : List ℕ) (r : ℕ) → length domains ≡ n → k ≡ n
    → r ≡ joined (length (take k domains)) (wrong_in (take k domains) (take k slot)) → r ≡ joined (length domains) (wrong_in domains slot)
unfolding wrong_in
wrong_front n k domains slot r e s h =
    let long : length (take k domains) ≡ length domains = simp length-take (omega arith) in
    h ∙ ap (λ (x : ℕ). joined x (wrong_in (take k domains) (take k slot))) long
    ∙ joined_same (length domains) (wrong_in (take k domains) (take k slot)) (wrong_in domains slot) (λ i l.
    ap (λ (m : ℕ). part_wrong m (get_or (take k slot) i 0)) (get_or-take k domains i 0 (omega arith))
    ∙ ap (part_wrong (get_or domains i 0)) (get_or-take k slot i 0 (omega arith)))

-- ---- the words of a slot

pub slot_domain : (n : ℕ) (slot : List ℕ) (i : ℕ) → n ≤ length slot → i < n → get_or slot i 0 ≡ domain (subproblem_of n slot) i
unfolding subproblem_of holding
slot_domain n slot i h l =
    let long : length (take n slot) ≡ n = simp length-take (omega arith) in
    sym (get_or-append (take n slot) (replicate (32 - n) 0) 0 i (omega arith) ∙ get_or-take n slot i 0 l)

-- ---- from mark to mark

-- the next of a set: as many places on as the rest of the set has zeros below its lowest
pub next_found : (set from zeros : ℕ) → set < 2 ^ 32 → zeros ≡ count_trailing_zeros 64 (set / 2 ^ from) → Next set from (from + zeros)
next_found set from zeros fits e = record {
  up = omega arith;
  none = λ k h l. elim (ℕ_discrete (bit set k) 1) [
    | yes s ↦
        let at : from + (k - from) ≡ k = omega arith in
        let member : bit (set / 2 ^ from) (k - from) ≡ 1 = bit_shr set from (k - from) ∙ ap (bit set) at ∙ s in
        absurd (omega (arith, trailing_least 64 (set / 2 ^ from) (k - from) member))
    | no s ↦ omega (arith, bit_le set k)
  ];
  there = λ l. elim (ℕ_discrete (set / 2 ^ from) 0) [
    | yes s ↦ absurd (omega (arith, e ∙ ap (count_trailing_zeros 64) s ∙ trailing_of_zero 64))
    | no s ↦
        let small : set / 2 ^ from < 2 ^ 64 = omega (arith, fits, div-le_self set (2 ^ from)) in
        sym (bit_shr set from zeros) ∙ rw e (trailing_member 64 (set / 2 ^ from) small s)
  ];
}

every_on : (f : ℕ → Bool) (j k : ℕ) → every j f ≡ true → ((x : ℕ) → j ≤ x → x < k → f x ≡ true) → every k f ≡ true
every_on f j k e h = every_all f k (λ x l. elim (dec_lt x j) [ yes m ↦ every_at f j x m e | no m ↦ h x (omega arith) l ])

-- past all of them
pub every_past : (f : ℕ → Bool) (n j : ℕ) → n ≤ j → every j f ≡ true → true ≡ every n f
every_past f n j h e = sym (every_all f n (λ x l. every_at f j x (omega arith) e))

-- ---- an instantiated variable

pub mark_none : (n : ℕ) (allowed : Table) (P : Subproblem) (i : ℕ) → bit P.marked i ≡ 0 → mark_obeys n allowed P i ≡ true
unfolding mark_obeys
mark_none n allowed P i e = simp (eq-eqb (bit P.marked i) 0 e)

-- what it holds, and what the others hold beside it, as the code puts them together
mark_is : (n : ℕ) (allowed : Table) (P : Subproblem) (marked i m : ℕ) (held row : List ℕ) → n ≤ 32 → marked ≡ P.marked → bit marked i ≡ 1
    → Held n P held → RowOf n allowed i (lowest (domain P i)) row → m ≡ joined 32 (missing_in held row) → eqb m 0 ≡ mark_obeys n allowed P i
unfolding mark_obeys missing_in beside_at
mark_is n allowed P marked i m held row few e y its r s =
    rw (s, joined_zero 32 (missing_in held row), is_marked P marked i e y)
    (same_test (every 32 own) (every n all)
    (λ x. every_all all n (λ j l. sym (at j l) ∙ every_at own 32 j (omega arith) x))
    (λ x. every_all own 32 (λ j l. elim (dec_lt j n) [
      | yes k ↦ at j k ∙ every_at all n j k x
      | no k ↦ rw (its.past j (omega arith), none_minus (get_or row j 0)) refl
    ])))
  where
    own : ℕ → Bool
    own j = eqb (minus (get_or held j 0) (get_or row j 0)) 0

    all : ℕ → Bool
    all j = eqb (minus (held_at P j) (beside_at allowed P i j)) 0

    beside : (j : ℕ) → j < n → get_or row j 0 ≡ beside_at allowed P i j
    beside j l = elim (ℕ_discrete j i) [
      | yes k ↦ rw (eq-eqb j i k, k) r.own
      | no k ↦ rw (ne_eqb j i k) (r.other j l k)
    ]

    at : (j : ℕ) → j < n → own j ≡ all j
    at j l = rw (its.each j l, beside j l) refl

pub mark_read : (n d : ℕ) (t slot : List ℕ) (marked i a m : ℕ) (held row : List ℕ) → SlotFits n d t slot marked → i < n → bit marked i ≡ 1
    → Held n (subproblem_of n slot) held → a ≡ lowest (get_or slot i 0) → RowOf n (table_of n d t) i a row → m ≡ joined 32 (missing_in held row)
    → eqb m 0 ≡ mark_obeys n (table_of n d t) (subproblem_of n slot) i
mark_read n d t slot marked i a m held row fits l y its e r s =
    mark_is n (table_of n d t) (subproblem_of n slot) marked i m held row fits.sized.few fits.marks y its
    (subst (λ (x : ℕ). RowOf n (table_of n d t) i x row) (e ∙ ap lowest (slot_domain n slot i (omega (arith, fits.words)) l)) r) s

pub marks_next : (n : ℕ) (allowed : Table) (P : Subproblem) (marked i next : ℕ) → marked ≡ P.marked → every i (mark_obeys n allowed P) ≡ true
    → Next marked i next → every next (mark_obeys n allowed P) ≡ true
marks_next n allowed P marked i next s e h =
    every_on (mark_obeys n allowed P) i next e (λ k l m. mark_none n allowed P k (rw s at (h.none k l m)))

pub missing_more : (held row : List ℕ) (j wrong x : ℕ) → wrong ≡ joined j (missing_in held row) → x ≡ minus (get_or held j 0) (get_or row j 0)
    → bit_or wrong x ≡ joined (j + 1) (missing_in held row)
unfolding missing_in
missing_more held row j wrong x e h = joined_more (λ j. minus (get_or held j 0) (get_or row j 0)) j x wrong e h

-- the domains of the instantiated variables, from mark to mark
pub record HeldTo (n marked : ℕ) (slot : List ℕ) (i : ℕ) (masks : List ℕ) : Type 0 where
  pub long : length masks ≡ 32
  pub each : (j : ℕ) → j < i → j < n → get_or masks j 0 ≡ cond (eqb (bit marked j) 1) (get_or slot j 0) 0
  pub past : (j : ℕ) → i ≤ j → get_or masks j 0 ≡ 0
  pub over : (j : ℕ) → n ≤ j → get_or masks j 0 ≡ 0

module _ (n marked : ℕ) (slot : List ℕ) where
  pub held_start : (next : ℕ) → Next marked 0 next → HeldTo n marked slot next (replicate 32 0)
  held_start next k = record {
    long = refl;
    each = λ j l o. zeros_at 32 j ∙ rw (ne_eqb (bit marked j) 1 (λ z. omega (arith, k.none j (omega arith) l))) refl;
    past = λ j l. zeros_at 32 j;
    over = λ j l. zeros_at 32 j;
  }

  pub held_end : (masks : List ℕ) (i : ℕ) → HeldTo n marked slot i masks → n ≤ i → length slot ≡ n + 2 → marked ≡ (subproblem_of n slot).marked
      → Held n (subproblem_of n slot) masks
  unfolding held_at
  held_end masks i h past long e = record {
    long = h.long;
    each = λ j l. h.each j (omega arith) l ∙ rw (← e, slot_domain n slot j (omega arith) l) refl;
    past = h.over;
  }

-- ---- two variables

-- a part that is not empty of a domain below 2 ^ d has a value below d
record Valued (d m : ℕ) : Type 0 where
  value : lowest m < d
  member : lowest m ∈ m

part_value : (d whole m : ℕ) → d ≤ 16 → whole < 2 ^ d → eqb (part_wrong whole m) 0 ≡ true → Valued d m
unfolding minus
part_value d whole m small h e =
    let right = wrong_none whole m in
    let full : m ≡ 0 → ⊥ = λ z. true≢false (sym (and_left (not (eqb m 0)) (eqb (minus m whole) 0) (sym right ∙ e)) ∙ ap not (eq-eqb m 0 z)) in
    let within : minus m whole ≡ 0 = eqb-true (minus m whole) 0 (and_right (not (eqb m 0)) (eqb (minus m whole) 0) (sym right ∙ e)) in
    let narrow : m < 2 ^ d = omega (arith, and_le_r m whole) in
    let its : lowest m ∈ m = lowest_member m (lt_of_lt_of_le narrow (pow_mono small)) full in
    record {
      value = elim (dec_lt (lowest m) d) [
        | yes l ↦ l
        | no l ↦ absurd (omega (arith, its, bit_above d m (lowest m) narrow (omega arith)))
      ];
      member = its;
    }

domain_below_lem : (n d : ℕ) (domains tables : List ℕ) → masks_below (problem_of n d domains tables) ≡ true → (i : ℕ) → i < n → get_or domains i 0 < 2 ^ d
unfolding masks_below
domain_below_lem n d domains tables e i l =
    ltb-true (get_or domains i 0) (2 ^ d)
    (every_at (λ k. ltb (get_or domains k 0) (2 ^ d)) n i l (and_left (every n (λ k. ltb (get_or domains k 0) (2 ^ d))) _ e))

-- two masks of which all of the first lies within the second
within_of : (m k : ℕ) → eqb (minus m k) 0 ≡ true → Part m k
within_of m k e = minus_part_of m k (eqb-true (minus m k) 0 e)

-- one that lies within its lowest value has one value, and one that has one value is that
one_of : (m : ℕ) → lowest m ∈ m → eqb (minus m (single (lowest m))) 0 ≡ true → size m ≡ 1
one_of m h e = rw (part_antisym m (single (lowest m)) (within_of m (single (lowest m)) e) (part_single m (lowest m) h)) (size_single (lowest m))

-- instantiated variables that agree
module _ (allowed : Table) (P : Subproblem) (i j : ℕ) (f : i ≡ j → ⊥) (h : bit P.marked i ≡ 1) (k : bit P.marked j ≡ 1) where
  agrees_held : lowest (domain P j) ∈ domain P j → eqb (minus (held_at P j) (beside_at allowed P i j)) 0 ≡ true → pair_agrees allowed P i j ≡ true
  unfolding held_at beside_at
  agrees_held m e =
      let read : eqb (minus (domain P j) (allowed i j (lowest (domain P i)))) 0 ≡ true = rw
      (eq-eqb (bit P.marked j) 1 k, ne_eqb j i (λ z. f (sym z))) at e in
      sym
      (agrees_both allowed P i j true P.marked refl h k f
      (sym (eq-eqb _ 1 (within_of (domain P j) (allowed i j (lowest (domain P i))) read (lowest (domain P j)) m))))

  held_agrees : lowest (domain P j) ∈ domain P j → size (domain P j) ≡ 1 → pair_agrees allowed P i j ≡ true
      → eqb (minus (held_at P j) (beside_at allowed P i j)) 0 ≡ true
  unfolding held_at beside_at pair_agrees
  held_agrees m one e =
      let bit_in : lowest (domain P j) ∈ allowed i j (lowest (domain P i)) = eqb-true _ 1
      (rw (ne_eqb i j f, is_marked P P.marked i refl h, is_marked P P.marked j refl k) at e) in
      let only : domain P j ≡ single (lowest (domain P j)) = single_of (domain P j) (lowest (domain P j)) one m in
      let none : minus (domain P j) (allowed i j (lowest (domain P i))) ≡ 0 =
      ap (λ (x : ℕ). minus x (allowed i j (lowest (domain P i)))) only ∙ part_minus (single (lowest (domain P j))) (allowed i j (lowest (domain P i)))
      (part_single _ _ bit_in) in
      rw (eq-eqb (bit P.marked j) 1 k, ne_eqb j i (λ z. f (sym z))) (eq-eqb _ 0 none)

-- what is left where neither 4 nor 5 is deserved
pub problem_parts : (p : Problem) → refusal_of_problem p ≡ 0 → (masks_below p ≡ true) × (symmetric p ≡ true)
unfolding refusal_of_problem
problem_parts p e = go (masks_below p) (symmetric p) e
  where
    go : (a b : Bool) → ◌≡◌ {A = ℕ} (cond a (cond b 0 5) 4) 0 → (a ≡ true) × (b ≡ true)
    go true true h = (refl, refl)
    go true false h = absurd (omega arith)
    go false b h = absurd (omega arith)

-- ---- all of a slot

module _ (n d : ℕ) (domains tables slot : List ℕ) (words : length domains ≡ n) (long : length slot ≡ n + 2) where
  -- the domains are in order where nothing is wrong with them, and the instantiated ones have one value
  slot_parts : (i : ℕ) → i < n → domain_obeys (problem_of n d domains tables) (subproblem_of n slot) i
      ≡ (eqb (wrong_in domains slot i) 0 && (eqb (bit (subproblem_of n slot).marked i) 0 || eqb (size (domain (subproblem_of n slot) i)) 1))
  unfolding domain_obeys wrong_in
  slot_parts i l =
      rw (slot_domain n slot i (omega arith) l, wrong_none)

  -- all that an instantiated variable must be, and all that domains must be beside it
  module _ (w : ℕ) (below : masks_below (problem_of n d domains tables) ≡ true) (small : d ≤ 16) (e : w ≡ joined (length domains) (wrong_in domains slot)) (z : w ≡ 0) where
    abbrev P : Subproblem
    P = subproblem_of n slot

    none : every n (λ i. eqb (wrong_in domains slot i) 0) ≡ true
    none =
        sym (joined_zero n (wrong_in domains slot))
        ∙ eq-eqb (joined n (wrong_in domains slot)) 0 (ap (λ (k : ℕ). joined k (wrong_in domains slot)) (sym words) ∙ sym e ∙ z)

    valued : (i : ℕ) → i < n → Valued d (get_or slot i 0)
    unfolding wrong_in
    valued i l =
        part_value d (get_or domains i 0) (get_or slot i 0) small (domain_below_lem n d domains tables below i l)
        (every_at (λ k. eqb (wrong_in domains slot k) 0) n i l none)

    pub slot_values : (i : ℕ) → i < n → lowest (get_or slot i 0) < d
    slot_values i l = (valued i l).value

    lowest_in : (i : ℕ) → i < n → lowest (domain P i) ∈ domain P i
    lowest_in i l = rw (slot_domain n slot i (omega arith) l) at (valued i l).member

    slot_all : every n (mark_obeys n (table_of n d tables) P)
        ≡ (every n (domain_obeys (problem_of n d domains tables) P) && every n (λ i. every n (values_agree (problem_of n d domains tables) P i)))
    unfolding mark_obeys values_agree pair_agrees wrong_in held_at beside_at
    slot_all =
        same_test (every n marks) (every n whole && every n rows)
        (λ x. and_both (every n whole) (every n rows)
        (every_all whole n
        (λ i l. slot_parts i l ∙ and_both (eqb (wrong_in domains slot i) 0) (sized i) (every_at (λ k. eqb (wrong_in domains slot k) 0) n i l none)
        (is_sized i l (every_at marks n i l x))))
        (every_all rows n (λ i l. every_all (pairs i) n (λ j k. pair_of i j l k (every_at marks n i l x)))))
        (λ x. every_all marks n (λ i l. mark_of i l
        (λ j k. and_right (eqb (wrong_in domains slot j) 0) (sized j)
        (sym (slot_parts j k) ∙ every_at whole n j k (and_left (every n whole) (every n rows) x)))
        (every_at rows n i l (and_right (every n whole) (every n rows) x))))
      where
        t : Table
        t = table_of n d tables

        marks : ℕ → Bool
        marks = mark_obeys n t P

        whole : ℕ → Bool
        whole = domain_obeys (problem_of n d domains tables) P

        pairs : ℕ → ℕ → Bool
        pairs = pair_agrees t P

        rows : ℕ → Bool
        rows i = every n (pairs i)

        sized : ℕ → Bool
        sized i = eqb (bit P.marked i) 0 || eqb (size (domain P i)) 1

        -- what an instantiated variable and every other beside it hold
        beside_all : (i : ℕ) → bit P.marked i ≡ 1 → mark_obeys n t P i ≡ true → (j : ℕ) → j < n
            → eqb (minus (held_at P j) (beside_at t P i j)) 0 ≡ true
        beside_all i h x j k = every_at (λ j. eqb (minus (held_at P j) (beside_at t P i j)) 0) n j k (rw (is_marked P P.marked i refl h) at x)

        is_sized : (i : ℕ) → i < n → mark_obeys n t P i ≡ true → sized i ≡ true
        is_sized i l x = elim (ℕ_discrete (bit P.marked i) 1) [
          | yes h ↦
              rw (is_marked P P.marked i refl h)
              (eq-eqb (size (domain P i)) 1
              (one_of (domain P i) (lowest_in i l) (rw (eq-eqb (bit P.marked i) 1 h, eq-eqb i i refl) at (beside_all i h x i l))))
          | no h ↦ rw (eq-eqb (bit P.marked i) 0 (omega (arith, bit_le P.marked i))) refl
        ]

        pair_of : (i j : ℕ) → i < n → j < n → mark_obeys n t P i ≡ true → pairs i j ≡ true
        pair_of i j l k x = elim (ℕ_discrete i j) [
          | yes s ↦ sym (agrees_same t P i j s)
          | no s ↦ elim (ℕ_discrete (bit P.marked i) 1) [
            | yes h ↦ elim (ℕ_discrete (bit P.marked j) 1) [
              | yes m ↦ agrees_held t P i j s h m (lowest_in j k) (beside_all i h x j k)
              | no m ↦ sym (agrees_second t P i j false (sym (ne_eqb (bit P.marked j) 1 m)) refl)
            ]
            | no h ↦ sym (agrees_first t P i j false (sym (ne_eqb (bit P.marked i) 1 h)) refl)
          ]
        ]

        mark_of : (i : ℕ) → i < n → ((j : ℕ) → j < n → sized j ≡ true) → every n (pairs i) ≡ true → mark_obeys n t P i ≡ true
        mark_of i l o x = elim (ℕ_discrete (bit P.marked i) 1) [
          | no h ↦ mark_none n t P i (omega (arith, bit_le P.marked i))
          | yes h ↦ rw (is_marked P P.marked i refl h) (every_all (λ j. eqb (minus (held_at P j) (beside_at t P i j)) 0) n (λ j k. elim (ℕ_discrete (bit P.marked j) 1) [
            | no m ↦ rw (ne_eqb (bit P.marked j) 1 m, none_minus (beside_at t P i j)) refl
            | yes m ↦
                let one : size (domain P j) ≡ 1 = eqb-true _ 1 (rw (is_marked P P.marked j refl m) at (o j k)) in
                elim (ℕ_discrete i j) [
                  | yes s ↦
                      let only : domain P j ≡ single (lowest (domain P j)) = single_of (domain P j) (lowest (domain P j)) one (lowest_in j k) in
                      rw (eq-eqb (bit P.marked j) 1 m, eq-eqb j i (sym s), s)
                      (eq-eqb _ 0 (ap (λ (x : ℕ). minus x (single (lowest (domain P j)))) only ∙ minus_self (single (lowest (domain P j)))))
                  | no s ↦ held_agrees t P i j s h m (lowest_in j k) one (every_at (pairs i) n j k x)
                ]
          ]))
        ]

  -- something is wrong with the domains
  pub slot_wrong : (w : ℕ) → w ≡ joined (length domains) (wrong_in domains slot) → (w ≡ 0 → ⊥)
      → false ≡ obeys (problem_of n d domains tables) (subproblem_of n slot)
  unfolding obeys
  slot_wrong w e f = rw (go (every n whole) refl)
    where
      whole : ℕ → Bool
      whole = domain_obeys (problem_of n d domains tables) (subproblem_of n slot)

      some : every n (λ i. eqb (wrong_in domains slot i) 0) ≡ false
      some =
          sym (joined_zero n (wrong_in domains slot))
          ∙ ne_eqb (joined n (wrong_in domains slot)) 0 (λ z. f (e ∙ ap (λ (k : ℕ). joined k (wrong_in domains slot)) words ∙ z))

      go : (b : Bool) → every n whole ≡ b → b ≡ false
      go true x =
          sym (every_all (λ i. eqb (wrong_in domains slot i) 0) n (λ i l.
          and_left (eqb (wrong_in domains slot i) 0) (eqb (bit (subproblem_of n slot).marked i) 0 || eqb (size (domain (subproblem_of n slot) i)) 1)
          (sym (slot_parts i l) ∙ every_at whole n i l x))) ∙ some
      go false x = refl

  -- nothing is; the instantiated variables decide
  pub slot_marked : (w : ℕ) (r : Bool) → refusal_of_problem (problem_of n d domains tables) ≡ 0 → d ≤ 16
      → w ≡ joined (length domains) (wrong_in domains slot) → w ≡ 0 → (subproblem_of n slot).marked < 2 ^ n
      → r ≡ every n (mark_obeys n (table_of n d tables) (subproblem_of n slot)) → r ≡ obeys (problem_of n d domains tables) (subproblem_of n slot)
  unfolding obeys
  slot_marked w r q small e z h s =
      let p = problem_parts (problem_of n d domains tables) q in
      simp (lt-ltb (subproblem_of n slot).marked (2 ^ n) h, and-true) (s ∙ slot_all w p.0 small e z)

  -- where a subproblem obeys the rules its instantiated variables do
  pub slot_known : refusal_of_problem (problem_of n d domains tables) ≡ 0 → d ≤ 16 → obeys (problem_of n d domains tables) (subproblem_of n slot) ≡ true
      → every n (mark_obeys n (table_of n d tables) (subproblem_of n slot)) ≡ true
  unfolding obeys
  slot_known q small x =
      let most = and_left (every n whole && every n (λ i. every n (values_agree (problem_of n d domains tables) (subproblem_of n slot) i))) _ x in
      let all = and_left (every n whole) _ most in
      let none : joined (length domains) (wrong_in domains slot) ≡ 0 =
      eqb-true _ 0 (joined_zero (length domains) (wrong_in domains slot) ∙ every_all (λ i. eqb (wrong_in domains slot i) 0) (length domains) (λ i l.
      and_left (eqb (wrong_in domains slot i) 0) (eqb (bit (subproblem_of n slot).marked i) 0 || eqb (size (domain (subproblem_of n slot) i)) 1) (sym (slot_parts i (omega arith)) ∙ every_at whole n i (omega arith) all))) in
      slot_all _ (problem_parts (problem_of n d domains tables) q).0 small refl none ∙ most
    where
      whole : ℕ → Bool
      whole = domain_obeys (problem_of n d domains tables) (subproblem_of n slot)

-- ---- the marks of a slot

module _ (n d : ℕ) (domains tables slot : List ℕ) (marked : ℕ) (few : n ≤ 32) (same : marked ≡ get_or slot n 0 * 65536 + get_or slot (n + 1) 0) where
  pub slot_marks : marked ≡ (subproblem_of n slot).marked
  unfolding subproblem_of holding
  slot_marks = same

  -- none stands at n or above
  pub marks_in : marked < 1 * 2 ^ n % 2 ^ 64 → (subproblem_of n slot).marked < 2 ^ n
  marks_in h = rw (shifted n few, slot_marks) at h

  -- one does
  pub slot_over : 1 * 2 ^ n % 2 ^ 64 ≤ marked → false ≡ obeys (problem_of n d domains tables) (subproblem_of n slot)
  unfolding obeys
  slot_over h = simp (le-ltb (subproblem_of n slot).marked (2 ^ n) (rw (shifted n few, slot_marks) at h), and-false)
