-- The small cases of the shortcuts: they are proper, and what their solutions are.
-- Assumes nothing.
use mathlib.Core.Path.{◌≡◌, refl, sym, ◌∙◌}
use mathlib.Core.Logic.{inl, inr}
use mathlib.Core.Bool.{cond}
use mathlib.Core.List.{List, [], ◌∷◌}
use Prim.Native.Nat.{ℕ, zero, suc, ◌-◌, ◌^◌, ◌≤◌, ◌<◌}
use native.Mathlib.Omega.{arith}
use native.Mathlib.Nat.{le_refl}
use lib.Pow.{ones_lt}
use native.Mathlib.Decide.{ℕ_discrete}
use lib.ListN.{get_or}
use lib.Dec.{eqb}
use Rattle.problem.specs.Masks.{bit, ◌∈◌, Part, single, minus}
use Rattle.problem.specs.Problem.{Problem, Proper, Consistent}
use Rattle.splits.specs.Subproblems.{domain, Instantiated, Rules}
use Rattle.splits.specs.Refusals.{Deserves7, Deserves8, Deserves9, Deserves10, Accepted}
use Rattle.splits.specs.Requests.{kind_of, variable_of, value_of, target_of}
use Rattle.splitting.specs.Promises.{Splits, Solvable}
use Rattle.splitting.specs.Shortcuts.{unequal, two, two_top, three, three_top, pair, pair_top}
use Rattle.splits.specs.declared.subproblem.Subproblem.{Subproblem}
use Rattle.problem.proofs.mask.Masks.{bit_le, bit_zero, bit_minus, bit_none, bit_single_same, bit_single_other, single_member, size_single, part_single, part_lt, minus_part, all_set}

-- The values other than a are allowed beside it.
bit_unequal : (d a b : ℕ) → b < d → (b ≡ a → ⊥) → bit (minus (2 ^ d - 1) (single a)) b ≡ 1
bit_unequal d a b k h = bit_minus (2 ^ d - 1) (single a) b ∙ omega (arith, all_set d b k, bit_single_other a b h)

-- A value is not allowed beside itself.
bit_equal : (d a : ℕ) → bit (minus (2 ^ d - 1) (single a)) a ≡ 0
bit_equal d a = bit_minus (2 ^ d - 1) (single a) a ∙ omega (arith, bit_single_same a, bit_le (2 ^ d - 1) a)

-- A problem of unequal variables is proper.
pub unequal_proper : (n d : ℕ) (domains : List ℕ) → (1 ≤ n) × (n ≤ 32) → (1 ≤ d) × (d ≤ 16) → ((i : ℕ) → i < n → get_or domains i 0 < 2 ^ d)
    → Proper (unequal n d domains)
unequal_proper n d domains (a, b) (e, f) h = record {
  some_variable = a;
  variables = b;
  some_value = e;
  values = f;
  domains = h;
  masks = λ i j v k l q m. part_lt d (minus (2 ^ d - 1) (single v)) (2 ^ d - 1) (minus_part (2 ^ d - 1) (single v)) (ones_lt d);
  symmetric = λ i j v u k l q m o. elim (ℕ_discrete u v) [ yes z ↦ rw z | no z ↦ bit_unequal d v u o z ∙ sym (bit_unequal d u v m (λ y. z (sym y))) ];
}

-- The values 0, 1, 2 .. are consistent.
pub rising : (n d : ℕ) (domains : List ℕ) → n ≤ d → Consistent n (unequal n d domains).allowed (λ i. i)
rising n d domains h i j k l q = bit_unequal d i j (omega arith) (λ e. q (sym e))

-- The possibility 1, 0, 0 of the two weak pieces that overlap.
pub in_both : (masks : List ℕ) → masks ≡ 6 ∷ 1 ∷ 1 ∷ [] → (i : ℕ) → i < 3 → cond (eqb i 0) 1 0 ∈ get_or masks i 0
unfolding bit
in_both masks e zero h = rw e refl
in_both masks e (suc zero) h = rw e refl
in_both masks e (suc (suc zero)) h = rw e refl
in_both masks e (suc (suc (suc i))) h = absurd (omega arith)

-- Two variables that both have 0 alone are not.
pub both_zero : (n d : ℕ) (domains : List ℕ) (Q : Subproblem) → 2 ≤ n → domain Q 0 ≡ 1 → domain Q 1 ≡ 1 → Solvable (unequal n d domains) Q → ⊥
both_zero n d domains Q h a b (f, s) =
    let x : f 0 ≡ 0 = single_member 0 (f 0) (rw a at (s.possible 0 (omega arith))) in
    let y : f 1 ≡ 0 = single_member 0 (f 1) (rw b at (s.possible 1 (omega arith))) in
    omega (arith, bit_equal d 0, rw (x, y) at (s.consistent 0 1 (omega arith) (omega arith) (λ e. omega arith)))

-- Domains that are not empty, parts of the problem's, with nothing instantiated, obey the rules.
fresh_rules : (p : Problem) (domains : List ℕ) → ((i : ℕ) → i < p.n → get_or domains i 0 ≡ 0 → ⊥)
    → ((i : ℕ) → i < p.n → Part (get_or domains i 0) (p.domain i))
    → Rules p (record { domains = domains; marked = 0 })
fresh_rules p domains filled part = record {
  filled = filled;
  part = part;
  one_value = λ i k o. absurd (none i o);
  mutual_values = λ i j a b k l d o q s t. absurd (none i o);
  marks = λ i k o. none i o;
}
  where
    none : (i : ℕ) → bit 0 i ≡ 1 → ⊥
    none i o = omega (arith, bit_none i)

-- A kind from 1 to 5 is one.
not_7 : (r : List ℕ) → 1 ≤ kind_of r → kind_of r ≤ 5 → Deserves7 r → ⊥
not_7 r l u (inl h) = omega arith
not_7 r l u (inr h) = omega arith

-- A request of kind 3 is accepted if V is a variable not instantiated that has v.
accepted_3 : (n d : ℕ) (P : Subproblem) (r : List ℕ) → kind_of r ≡ 3 → variable_of r < n → (Instantiated P (variable_of r) → ⊥)
    → value_of r < d → value_of r ∈ domain P (variable_of r) → Accepted n d P r
accepted_3 n d P r e k new l m =
    record { not_7 = not_7 r (omega arith) (omega arith); not_8 = not_8; not_9 = not_9; not_10 = λ h. omega (arith, h.0) }
  where
    not_8 : Deserves8 n P r → ⊥
    not_8 (_, inl h) = omega arith
    not_8 (_, inr o) = new o

    not_9 : Deserves9 d P r → ⊥
    not_9 (inl (_, inl h)) = omega arith
    not_9 (inl (_, inr h)) = h m
    not_9 (inr h) = omega (arith, h.0)

-- A request of kind 5 is accepted if each target is a part of the domain with a value, and one differs.
accepted_5 : (n d : ℕ) (P : Subproblem) (r : List ℕ) → kind_of r ≡ 5
    → ((i : ℕ) → i < n → (target_of r i ≡ 0 → ⊥) × Part (target_of r i) (domain P i))
    → (i : ℕ) → i < n → (target_of r i ≡ domain P i → ⊥) → Accepted n d P r
accepted_5 n d P r e targets i k differs =
    record { not_7 = not_7 r (omega arith) (omega arith); not_8 = λ h. omega (arith, h.0.1); not_9 = not_9; not_10 = not_10 }
  where
    not_9 : Deserves9 d P r → ⊥
    not_9 (inl h) = omega (arith, h.0.1)
    not_9 (inr h) = omega (arith, h.0)

    not_10 : Deserves10 n P r → ⊥
    not_10 (_, inl (j, l, inl z)) = (targets j l).0 z
    not_10 (_, inl (j, l, inr h)) = h (targets j l).1
    not_10 (_, inr h) = differs (h i k)

-- The domains of `two`, `three` and `pair` have a value, and none past their d.
two_domains : (i : ℕ) → i < 2 → (1 ≤ domain two_top i) × (domain two_top i < 2 ^ 2)
two_domains zero k = omega arith
two_domains (suc zero) k = omega arith
two_domains (suc (suc i)) k = absurd (omega arith)

three_domains : (i : ℕ) → i < 3 → (1 ≤ domain three_top i) × (domain three_top i < 2 ^ 3)
three_domains zero k = omega arith
three_domains (suc zero) k = omega arith
three_domains (suc (suc zero)) k = omega arith
three_domains (suc (suc (suc i))) k = absurd (omega arith)

pub pair_domains : (i : ℕ) → i < 2 → domain pair_top i ≡ 1
pair_domains zero k = refl
pair_domains (suc zero) k = refl
pair_domains (suc (suc i)) k = absurd (omega arith)

-- `two` is proper.
two_proper : Proper two
two_proper = unequal_proper 2 2 (1 ∷ 3 ∷ []) (omega arith) (omega arith) (λ i k. (two_domains i k).1)

-- Variable 0 of `two` alone is instantiated.
two_rules : Rules two two_top
two_rules = record {
  filled = λ i k z. omega (arith, (two_domains i k).0);
  part = λ i k v m. m;
  one_value = λ i k o. rw (single_member 0 i o) (size_single 0);
  mutual_values = λ i j a b k l d o q s t. absurd (d (single_member 0 i o ∙ sym (single_member 0 j q)));
  marks = λ i k o. omega (arith, single_member 0 i o);
}

-- The requests of the cases are accepted.
pub two_idc : Splits two two_top (3 ∷ 1 ∷ 0 ∷ [])
two_idc = record {
  proper = two_proper;
  rules = two_rules;
  accepted =
      accepted_3 2 2 two_top (3 ∷ 1 ∷ 0 ∷ []) refl (omega arith) (λ o. omega (arith, single_member 0 1 o)) (omega arith) (bit_zero 3);
}

pub two_extraction : Splits two two_top (5 ∷ 0 ∷ 0 ∷ 1 ∷ 2 ∷ [])
two_extraction = record {
  proper = two_proper;
  rules = two_rules;
  accepted =
      accepted_5 2 2 two_top (5 ∷ 0 ∷ 0 ∷ 1 ∷ 2 ∷ []) refl targets 1 (omega arith) (λ e. omega arith);
}
  where
    targets : (i : ℕ) → i < 2 → (target_of (5 ∷ 0 ∷ 0 ∷ 1 ∷ 2 ∷ []) i ≡ 0 → ⊥) × Part (target_of (5 ∷ 0 ∷ 0 ∷ 1 ∷ 2 ∷ []) i) (domain two_top i)
    targets zero k = (λ z. omega arith, λ v m. m)
    targets (suc zero) k = (λ z. omega arith, part_single 3 1 (all_set 2 1 k))
    targets (suc (suc i)) k = absurd (omega arith)

pub three_idc : Splits three three_top (3 ∷ 0 ∷ 0 ∷ [])
three_idc = record {
  proper = unequal_proper 3 3 (7 ∷ 1 ∷ 1 ∷ []) (omega arith) (omega arith) (λ i k. (three_domains i k).1);
  rules = fresh_rules three (7 ∷ 1 ∷ 1 ∷ []) (λ i k z. omega (arith, (three_domains i k).0)) (λ i k v m. m);
  accepted = accepted_3 3 3 three_top (3 ∷ 0 ∷ 0 ∷ []) refl (omega arith) (λ o. omega (arith, bit_none 0)) (omega arith) (bit_zero 7);
}

pub pair_proper : Proper pair
pair_proper = unequal_proper 2 1 (1 ∷ 1 ∷ []) (omega arith) (omega arith) (λ i k. omega (arith, pair_domains i k))

pub pair_rules : Rules pair pair_top
pair_rules = fresh_rules pair (1 ∷ 1 ∷ []) (λ i k z. omega (arith, pair_domains i k)) (λ i k v m. m)

-- `two` has the solution 0, 1.
pub two_solvable : Solvable two two_top
two_solvable = ((λ i. i), record { possible = possible; consistent = rising 2 2 (1 ∷ 3 ∷ []) (le_refl 2) })
  where
    possible : (i : ℕ) → i < 2 → i ∈ domain two_top i
    possible zero k = bit_zero 1
    possible (suc zero) k = all_set 2 1 k
    possible (suc (suc i)) k = absurd (omega arith)
