-- Each part of the first checks refuses exactly what deserves its number, and what passes them obeys document 01's rules.
-- Assumes nothing.
use mathlib.Core.Path.{◌≡◌, refl, sym, subst}
use mathlib.Core.Logic.{◌⊎◌, inl, inr, ⊎_elim}
use mathlib.Core.Bool.{Bool, true, false, not, ◌&&◌, ◌||◌, or-true}
use mathlib.Core.List.Memᴰ
use mathlib.Core.List.{List, [], ◌∷◌, Memᴰ}
use Prim.Native.Nat.{ℕ, ◌+◌, ◌-◌, ◌*◌, ◌/◌, ◌%◌, ◌^◌, ◌≤◌, ◌<◌}
use native.Mathlib.Omega.{arith}
use native.Mathlib.Nat.{div-add-mod', lt_of_lt_of_le}
use native.Mathlib.Decide.{ℕ_discrete}
use lib.Arith.{digits_div, digits_mod}
use lib.Pow.{pow_mono}
use lib.ListN.{length, get_or}
use lib.Dec.{eqb, leb, ltb}
use borrow.Author.Tests.{lt-ltb, le-leb, eq-eqb, ne_eqb, eqb-true, eqb-false, leb-true, ltb-true, not-true}
use Rattle.problem.specs.Masks.{bit, ◌∈◌, Part, minus, size, lowest}
use Rattle.problem.specs.Problem.{Problem, Proper}
use Rattle.splits.specs.Subproblems.{domain, Instantiated, Rules}
use Rattle.problem.specs.Lists.{every}
use Rattle.splits.specs.declared.subproblem.Subproblem.{Subproblem}
use Rattle.problem.proofs.mask.Masks.{bit_le, bit_above, bit_lt, minus_part_of, part_minus, part_lt, lowest_member, one_value, bit_outside}
use Rattle.problem.proofs.Tests.{true_false, and_left, and_right, or_cases, every_at, every_all}
use Rattle.search.specs.Agenda.{stack_of, slots_in}
use Rattle.search.specs.FirstChecks.{WholeSlots, WholeRequests, Deserves3, Deserves6}
use Rattle.search.specs.Tests.FirstChecks.{whole_slots, domain_obeys, values_agree, obeys, all_obey, zeros_from}
use Rattle.problem.proofs.Decisions.{Refutes, refutes_iff, refutes_le, refutes_eq, refutes_not, refutes_and, refutes_every}

-- ---- 1, 2 and 3

-- words that are slots are so many times n + 2, and the other way round
pub slots_true : (n words : ℕ) → whole_slots n words ≡ true → WholeSlots n words
unfolding whole_slots
slots_true n words e =
    let whole : Bool = eqb (words % (n + 2)) 0 in
    let some : Bool = leb 1 (slots_in n words) in
    let few : Bool = leb (slots_in n words) 512 in
    let both : (whole && some) ≡ true = and_left (whole && some) few e in
    let none : words % (n + 2) ≡ 0 = eqb-true (words % (n + 2)) 0 (and_left whole some both) in (
      slots_in n words,
      leb-true 1 (slots_in n words) (and_right whole some both),
      leb-true (slots_in n words) 512 (and_right (whole && some) few e),
      omega (arith, div-add-mod' words (n + 2)),
    )

-- so many times n + 2 are whole slots
pub slots_is : (n words : ℕ) → WholeSlots n words → whole_slots n words ≡ true
unfolding whole_slots
slots_is n words w =
    let k : ℕ = w.0 in
    let same : words ≡ k * (n + 2) + 0 = omega (arith, w.3) in
    let count : words / (n + 2) ≡ k = rw same (digits_div k (omega arith)) in
    let left : words % (n + 2) ≡ 0 = rw same (digits_mod k (omega arith)) in
    simp (eq-eqb (words % (n + 2)) 0 left, count, le-leb 1 k w.1, le-leb k 512 w.2)

-- 3: the three lengths
pub refutes_3 : (n d : ℕ) (domains tables agenda : List ℕ)
    → Refutes (eqb (length domains) n && eqb (length tables) (n * n * d) && whole_slots n (length agenda)) (Deserves3 n d domains tables agenda)
refutes_3 n d domains tables agenda =
    refutes_iff (λ x. ⊎_elim (λ y. ⊎_elim inl (λ z. inr (inl z)) y) (λ z. inr (inr z)) x)
    (λ x. ⊎_elim (λ y. inl (inl y)) (λ y. ⊎_elim (λ z. inl (inr z)) inr y) x)
    (refutes_and (eqb (length domains) n && eqb (length tables) (n * n * d)) (whole_slots n (length agenda))
    ((length domains ≡ n → ⊥) ⊎ (length tables ≡ n * n * d → ⊥)) (WholeSlots n (length agenda) → ⊥)
    (refutes_and (eqb (length domains) n) (eqb (length tables) (n * n * d)) (length domains ≡ n → ⊥) (length tables ≡ n * n * d → ⊥)
    (refutes_eq (length domains) n) (refutes_eq (length tables) (n * n * d)))
    (refutes_not (whole_slots n (length agenda)) (WholeSlots n (length agenda)) (slots_true n (length agenda)) (slots_is n (length agenda))))

-- words that leave nothing over are whole requests
pub requests_true : (n words : ℕ) → eqb (words % (n + 3)) 0 ≡ true → WholeRequests n words
requests_true n words e =
    let none : words % (n + 3) ≡ 0 = eqb-true (words % (n + 3)) 0 e in
    (words / (n + 3), omega (arith, div-add-mod' words (n + 3)))

-- and the other way round
requests_is : (n words : ℕ) → WholeRequests n words → eqb (words % (n + 3)) 0 ≡ true
requests_is n words w =
    let same : words ≡ w.0 * (n + 3) + 0 = omega (arith, w.1) in
    eq-eqb (words % (n + 3)) 0 (rw same (digits_mod w.0 (omega arith)))

-- 3, of a run: the list of requests
pub refutes_requests : (n words : ℕ) → Refutes (eqb (words % (n + 3)) 0) (WholeRequests n words → ⊥)
refutes_requests n words = refutes_not (eqb (words % (n + 3)) 0) (WholeRequests n words) (requests_true n words) (requests_is n words)

-- ---- 4

-- ---- 5

-- ---- what passes 1, 2, 4 and 5 is a proper problem

-- ---- whether a subproblem obeys the rules

-- one domain
pub record Sound (p : Problem) (P : Subproblem) (i : ℕ) : Type 0 where
  pub filled : domain P i ≡ 0 → ⊥
  pub part : Part (domain P i) (p.domain i)
  pub one : Instantiated P i → size (domain P i) ≡ 1

-- a domain that passes is sound
domain_true : (p : Problem) (P : Subproblem) (i : ℕ) → domain_obeys p P i ≡ true → Sound p P i
unfolding domain_obeys
domain_true p P i e =
    let some : Bool = not (eqb (domain P i) 0) in
    let part : Bool = eqb (minus (domain P i) (p.domain i)) 0 in
    let one : Bool = eqb (bit P.marked i) 0 || eqb (size (domain P i)) 1 in
    let both : (some && part) ≡ true = and_left (some && part) one e in
    record {
      filled = eqb-false (domain P i) 0 (not-true (eqb (domain P i) 0) (and_left some part both));
      part = minus_part_of (domain P i) (p.domain i) (eqb-true (minus (domain P i) (p.domain i)) 0 (and_right some part both));
      one = λ m. ⊎_elim (λ x. absurd (omega (arith, m, eqb-true (bit P.marked i) 0 x))) (λ x. eqb-true (size (domain P i)) 1 x)
          (or_cases (eqb (bit P.marked i) 0) (eqb (size (domain P i)) 1) (and_right (some && part) one e));
    }

-- a sound one passes
domain_is : (p : Problem) (P : Subproblem) (i : ℕ) → Sound p P i → domain_obeys p P i ≡ true
unfolding domain_obeys
domain_is p P i s =
    simp (ne_eqb (domain P i) 0 s.filled, eq-eqb (minus (domain P i) (p.domain i)) 0 (part_minus (domain P i) (p.domain i) s.part))
    (elim (ℕ_discrete (bit P.marked i) 1) [
      | yes m ↦ simp (eq-eqb (size (domain P i)) 1 (s.one m), or-true)
      | no f ↦ simp (eq-eqb (bit P.marked i) 0 (omega (arith, bit_le P.marked i)))
    ])

-- a value of a sound domain is one of the 16, and of an instantiated one the lowest
value_of : (p : Problem) (P : Subproblem) (i a : ℕ) → Proper p → i < p.n → Sound p P i → Instantiated P i → a ∈ domain P i → lowest (domain P i) ≡ a
value_of p P i a proper h s m k =
    let within : domain P i < 2 ^ p.d = part_lt p.d (domain P i) (p.domain i) s.part (proper.domains i h) in
    let fits : domain P i < 2 ^ 16 = lt_of_lt_of_le within (pow_mono proper.values) in
    one_value (domain P i) (lowest (domain P i)) a (s.one m) (lowest_member (domain P i) fits s.filled) k

-- the lowest value of a sound domain is one of its values
lowest_of_lem : (p : Problem) (P : Subproblem) (i : ℕ) → Proper p → i < p.n → Sound p P i → lowest (domain P i) ∈ domain P i
lowest_of_lem p P i proper h s =
    let within : domain P i < 2 ^ p.d = part_lt p.d (domain P i) (p.domain i) s.part (proper.domains i h) in
    lowest_member (domain P i) (lt_of_lt_of_le within (pow_mono proper.values)) s.filled

-- A subproblem that passes obeys the rules.
pub rules_of : (p : Problem) (P : Subproblem) → Proper p → obeys p P ≡ true → Rules p P
unfolding obeys values_agree
rules_of p P proper e =
    let domains : Bool = every p.n (domain_obeys p P) in
    let values : Bool = every p.n (λ i. every p.n (values_agree p P i)) in
    let marks : Bool = ltb P.marked (2 ^ p.n) in
    let both : (domains && values) ≡ true = and_left (domains && values) marks e in
    let sound : (i : ℕ) → i < p.n → Sound p P i =
    λ i h. domain_true p P i (every_at (domain_obeys p P) p.n i h (and_left domains values both)) in
    let agree : (i j : ℕ) → i < p.n → j < p.n → values_agree p P i j ≡ true =
    λ i j h k. every_at (values_agree p P i) p.n j k (every_at (λ i. every p.n (values_agree p P i)) p.n i h (and_right domains values both))
    in
    let less : P.marked < 2 ^ p.n = ltb-true P.marked (2 ^ p.n) (and_right (domains && values) marks e) in
    record {
      filled = λ i h. (sound i h).filled;
      part = λ i h. (sound i h).part;
      one_value = λ i h. (sound i h).one;
      mutual_values = λ i j a b h k f m l x y.
          rw (sym (value_of p P i a proper h (sound i h) m x), sym (value_of p P j b proper k (sound j k) l y))
          (agreed p P i j f m l (agree i j h k));
      marks = λ i h m. absurd (omega (arith, m, bit_above p.n P.marked i less h));
    }
  where
    agreed : (p : Problem) (P : Subproblem) (i j : ℕ) → (i ≡ j → ⊥) → Instantiated P i → Instantiated P j → values_agree p P i j ≡ true
        → lowest (domain P j) ∈ p.allowed i j (lowest (domain P i))
    agreed p P i j f m l e =
        let first : Bool = eqb (bit P.marked i) 0 in
        let second : Bool = eqb (bit P.marked j) 0 in
        let at : ℕ = bit (p.allowed i j (lowest (domain P i))) (lowest (domain P j)) in
        let no-first : first ≡ false = ne_eqb (bit P.marked i) 0 (λ z. absurd (omega (arith, m))) in
        let no_second : second ≡ false = ne_eqb (bit P.marked j) 0 (λ z. absurd (omega (arith, l))) in
        eqb-true at 1 (simp (ne_eqb i j f, no-first, no_second) at e)

-- A subproblem that obeys the rules passes.
pub obeys_of : (p : Problem) (P : Subproblem) → Proper p → Rules p P → obeys p P ≡ true
unfolding obeys values_agree
obeys_of p P proper r =
    let sound : (i : ℕ) → i < p.n → Sound p P i =
    λ i h. record { filled = r.filled i h; part = r.part i h; one = r.one_value i h } in
    let domains = every_all (domain_obeys p P) p.n (λ i h. domain_is p P i (sound i h)) in
    let values = every_all (λ i. every p.n (values_agree p P i)) p.n (λ i h. every_all (values_agree p P i) p.n (λ j k.
    agrees p P i j (λ f m l. r.mutual_values i j (lowest (domain P i)) (lowest (domain P j)) h k f m l
    (lowest_of_lem p P i proper h (sound i h)) (lowest_of_lem p P j proper k (sound j k))))) in
    let marks : P.marked < 2 ^ p.n = bit_lt p.n P.marked (λ v h. bit_outside P.marked v (r.marks v h)) in
    simp (domains, values, lt-ltb P.marked (2 ^ p.n) marks)
  where
    agrees : (p : Problem) (P : Subproblem) (i j : ℕ)
        → ((i ≡ j → ⊥) → Instantiated P i → Instantiated P j → lowest (domain P j) ∈ p.allowed i j (lowest (domain P i)))
        → values_agree p P i j ≡ true
    agrees p P i j f =
        let at : ℕ = bit (p.allowed i j (lowest (domain P i))) (lowest (domain P j)) in
        elim (ℕ_discrete i j) [
          | yes e ↦ simp (eq-eqb i j e)
          | no x ↦ elim (ℕ_discrete (bit P.marked i) 1) [
            | no y ↦ simp (eq-eqb (bit P.marked i) 0 (bit_outside P.marked i y), or-true)
            | yes m ↦ elim (ℕ_discrete (bit P.marked j) 1) [
              | no y ↦ simp (eq-eqb (bit P.marked j) 0 (bit_outside P.marked j y), or-true)
              | yes l ↦ simp (eq-eqb at 1 (f x m l), or-true)
            ]
          ]
        ]

-- ---- 6

-- a stack that does not obey has a subproblem that breaks the rules
pub refutes_rules : (p : Problem) (S : List Subproblem) → Proper p
    → Refutes (all_obey p S) ((P : Subproblem) × Memᴰ P S × (Rules p P → ⊥))
unfolding all_obey
refutes_rules p [] proper = record { holds = λ e. absurd (true_false e); fails = λ e d. Memᴰ.not-nil d.1 }
refutes_rules p (P ∷ S) proper =
    let Breaks : Type 0 = Rules p P → ⊥ in
    let Later : Type 0 = (Q : Subproblem) × Memᴰ Q S × (Rules p Q → ⊥) in
    refutes_iff {D = Breaks ⊎ Later}
    (λ x. ⊎_elim (λ f. (P, Memᴰ.head refl, f)) (λ r. (r.0, Memᴰ.tail r.1, r.2)) x)
    (λ r. ⊎_elim (λ e. inl (subst (λ (Q : Subproblem). Rules p Q → ⊥) e r.2)) (λ m. inr (r.0, m, r.2)) (Memᴰ.cases_cons r.1))
    (refutes_and (obeys p P) (all_obey p S) Breaks Later
    (refutes_not (obeys p P) (Rules p P) (rules_of p P proper) (obeys_of p P proper)) (refutes_rules p S proper))

-- every subproblem of a stack that obeys has the rules, and the other way round
pub all_rules : (p : Problem) (S : List Subproblem) → Proper p → all_obey p S ≡ true → (P : Subproblem) → Memᴰ P S → Rules p P
unfolding all_obey
all_rules p [] proper e P m = absurd (Memᴰ.not-nil m)
all_rules p (Q ∷ S) proper e P m =
    ⊎_elim (λ s. subst (Rules p) (sym s) (rules_of p Q proper (and_left (obeys p Q) (all_obey p S) e)))
    (λ k. all_rules p S proper (and_right (obeys p Q) (all_obey p S) e) P k) (Memᴰ.cases_cons m)

-- and the other way round
pub all_obey_lem : (p : Problem) (S : List Subproblem) → Proper p → ((P : Subproblem) → Memᴰ P S → Rules p P) → all_obey p S ≡ true
unfolding all_obey
all_obey_lem p [] proper f = refl
all_obey_lem p (Q ∷ S) proper f =
    simp (obeys_of p Q proper (f Q (Memᴰ.head refl)), all_obey_lem p S proper (λ P m. f P (Memᴰ.tail m)))

-- an unused slot that is not zero
abbrev pub Used : List ℕ → ℕ → Type 0
Used agenda from = (k : ℕ) × (from ≤ k) × (k < length agenda) × (get_or agenda k 0 ≡ 0 → ⊥)

-- words that are all zero have none that is not
pub refutes_zeros : (from : ℕ) (agenda : List ℕ) → Refutes (zeros_from from agenda) (Used agenda from)
unfolding zeros_from
refutes_zeros from agenda =
    refutes_iff {D = (k : ℕ) × (k < length agenda - from) × (get_or agenda (from + k) 0 ≡ 0 → ⊥)}
    (λ x. (from + x.0, omega arith, omega (arith, x.1), x.2))
    (λ x. (x.0 - from, omega (arith, x.1, x.2), subst (λ (k : ℕ). get_or agenda k 0 ≡ 0 → ⊥) (omega (arith, x.1)) x.3))
    (refutes_every (λ k. eqb (get_or agenda (from + k) 0) 0) (λ k. get_or agenda (from + k) 0 ≡ 0 → ⊥) (length agenda - from)
    (λ k h. refutes_eq (get_or agenda (from + k) 0) 0))

-- 6, of a proper problem
pub refutes_6 : (p : Problem) (agenda : List ℕ) (steps checks subproblems : ℕ) → Proper p
    → Refutes (leb subproblems (slots_in p.n (length agenda)) && all_obey p (stack_of p.n agenda subproblems)
    && zeros_from (subproblems * (p.n + 2)) agenda && leb checks (496 * steps)) (Deserves6 p agenda steps checks subproblems)
refutes_6 p agenda steps checks subproblems proper =
    let room : Bool = leb subproblems (slots_in p.n (length agenda)) in
    let rules : Bool = all_obey p (stack_of p.n agenda subproblems) in
    let zeros : Bool = zeros_from (subproblems * (p.n + 2)) agenda in
    let limit : Bool = leb checks (496 * steps) in
    let Room : Type 0 = slots_in p.n (length agenda) < subproblems in
    let Breaks : Type 0 = (P : Subproblem) × Memᴰ P (stack_of p.n agenda subproblems) × (Rules p P → ⊥) in
    let Zeros : Type 0 = Used agenda (subproblems * (p.n + 2)) in
    let Limit : Type 0 = 496 * steps < checks in
    refutes_iff {D = ((Room ⊎ Breaks) ⊎ Zeros) ⊎ Limit}
    (λ x. ⊎_elim (λ y. ⊎_elim (λ z. ⊎_elim (λ w. inr (inl w)) inl z) (λ z. inr (inr (inl z))) y) (λ y. inr (inr (inr y))) x)
    (λ x. ⊎_elim (λ y. inl (inl (inr y))) (λ y. ⊎_elim (λ z. inl (inl (inl z))) (λ z. ⊎_elim (λ w. inl (inr w)) inr z) y) x)
    (refutes_and (room && rules && zeros) limit ((Room ⊎ Breaks) ⊎ Zeros) Limit
    (refutes_and (room && rules) zeros (Room ⊎ Breaks) Zeros
    (refutes_and room rules Room Breaks (refutes_le subproblems (slots_in p.n (length agenda)))
    (refutes_rules p (stack_of p.n agenda subproblems) proper))
    (refutes_zeros (subproblems * (p.n + 2)) agenda))
    (refutes_le checks (496 * steps)))
