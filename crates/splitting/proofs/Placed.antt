-- An accepted request: what it grants each kind, its split by cases on the kind, and the pieces placed.
-- Assumes nothing.
use mathlib.Core.Path.{◌≡◌, refl}
use mathlib.Core.Logic.{inl, inr, ⊎_elim}
use mathlib.Core.Bool.{not}
use mathlib.Core.List.{List, [], Memᴰ}
use Prim.Native.Nat.{ℕ, zero, suc, ◌≤◌, ◌<◌, ◌+◌}
use native.Mathlib.Omega.{arith}
use native.Mathlib.Nat.{le_refl}
use native.Mathlib.Decide.{ℕ_discrete}
use lib.Dec.{eqb}
use borrow.Author.Tests.{eqb-true, eqb-false, not-true, not-false}
use Rattle.problem.specs.Masks.{bit, single, minus}
use Rattle.problem.specs.Problem.{Problem}
use Rattle.splits.specs.Subproblems.{domain, empty}
use Rattle.splits.specs.Requests.{kind_of, variable_of, value_of, target_of}
use Rattle.splits.specs.Splits.{backtracking, forward_checking, idc, halving, extraction, without, cut_beside, precluded, by_kind, named, pieces}
use Rattle.splitting.specs.Promises.{Splits}
use Rattle.splits.specs.declared.subproblem.Subproblem.{Subproblem}
use Rattle.splits.proofs.split.ByKind.{five}
use Rattle.problem.proofs.mask.Masks.{minus_part_of, part_minus}
use Rattle.problem.proofs.Products.{last}
use Rattle.problem.proofs.Tests.{some_found, some_none}
use Rattle.problem.proofs.Lists.{sum_keep, member_keep}
use Rattle.splitting.proofs.Weights.{Weight, weigh_none, by_size}
use Rattle.splitting.proofs.Pieces.{Held, Piece}
use Rattle.splitting.proofs.Splitting.{weight, weights, Split}
use Rattle.splitting.proofs.Valued.{Valued, kind_1, kind_2, kind_3, peel_3}
use Rattle.splitting.proofs.Divided.{Divisible, Targeted, kind_4, kind_5}

-- Where not all are equal, two differ.
differ : (n : ℕ) (a b : ℕ → ℕ) → (((i : ℕ) → i < n → a i ≡ b i) → ⊥) → (i : ℕ) × (i < n) × (a i ≡ b i → ⊥)
differ zero a b h = absurd (h (λ i k. absurd (omega arith)))
differ (suc n) a b h = go (ℕ_discrete (a n) (b n)) (differ n a b)
  where
    go : Dec (a n ≡ b n) → ((((i : ℕ) → i < n → a i ≡ b i) → ⊥) → (i : ℕ) × (i < n) × (a i ≡ b i → ⊥))
        → (i : ℕ) × (i < suc n) × (a i ≡ b i → ⊥)
    go (no d) r = (n, le_refl (suc n), d)
    go (yes e) r =
        let (i, k, d) = r (λ same. h (λ i k. ⊎_elim (λ (q : i ≡ n). rw q e) (λ (l : i < n). same i l) (last k))) in
        (i, omega arith, d)

module _ {p : Problem} {P : Subproblem} {r : List ℕ} (s : Splits p P r) where
  -- P obeys the rules, and p is proper.
  pub held : Held p P
  held = record { proper = s.proper; rules = s.rules }

  -- What an accepted request grants, by its kind.
  variable_lt : 1 ≤ kind_of r → kind_of r ≤ 4 → variable_of r < p.n
  variable_lt h k = let q : p.n ≤ variable_of r → ⊥ = λ l. s.accepted.not_8 ((h, k), inl l) in omega arith

  -- Kinds 1 to 3.
  valued : 1 ≤ kind_of r → kind_of r ≤ 3 → Valued p P (variable_of r) (value_of r)
  valued h k = record {
    below = variable_lt h (omega arith);
    new = λ o. s.accepted.not_8 ((h, omega arith), inr o);
    has = elim (ℕ_discrete (bit (domain P (variable_of r)) (value_of r)) 1)
        [ yes m ↦ m | no d ↦ absurd (s.accepted.not_9 (inl ((h, k), inr d))) ];
  }

  -- Kind 4.
  divisible : kind_of r ≡ 4 → Divisible p P (variable_of r)
  divisible e = record {
    below = variable_lt (omega arith) (omega arith);
    new = λ o. s.accepted.not_8 ((omega arith, omega arith), inr o);
    several = λ z. s.accepted.not_9 (inr (e, z));
  }

  -- Kind 5.
  targeted : kind_of r ≡ 5 → Targeted p P r
  targeted e = record {
    some = λ i k z. s.accepted.not_10 (e, inl (i, k, inl z));
    part = λ i k. elim (ℕ_discrete (minus (target_of r i) (domain P i)) 0) [
      | yes z ↦ minus_part_of (target_of r i) (domain P i) z
      | no d ↦ absurd (s.accepted.not_10 (e, inl (i, k, inr (λ h. d (part_minus (target_of r i) (domain P i) h)))))
    ];
    differs = differ p.n (target_of r) (domain P) (λ h. s.accepted.not_10 (e, inr h));
  }

  -- The pieces that an accepted request names are a split: one case a kind.
  split : Split p P (kind_of r) (named p.n p.allowed P r)
  unfolding named
  split =
      five (λ k. kind_of r ≡ k → Split p P k (by_kind k (backtracking p.n p.allowed P (variable_of r) (value_of r))
      (forward_checking p.n p.allowed P (variable_of r) (value_of r)) (idc p.n p.allowed P (variable_of r) (value_of r))
      (halving P (variable_of r)) (extraction p.n P r) [])) (kind_of r) s.accepted.not_7
      (λ e. kind_1 held (valued (omega arith) (omega arith)))
      (λ e. kind_2 held (valued (omega arith) (omega arith)))
      (λ e. kind_3 held (valued (omega arith) (omega arith)))
      (λ e. kind_4 held (divisible e))
      (λ e. kind_5 held (targeted e)) refl

  -- Each piece placed is a piece, and not empty.
  placed_piece : (Q : Subproblem) → Memᴰ Q (pieces p.n p.allowed P r) → Piece p P Q
  unfolding pieces
  placed_piece Q m = split.each Q (member_keep (λ Q. not (empty p.n Q)) _ m).1

  pub placed_filled : (Q : Subproblem) → Memᴰ Q (pieces p.n p.allowed P r) → (i : ℕ) → i < p.n → domain Q i ≡ 0 → ⊥
  unfolding pieces empty
  placed_filled Q m i k =
      eqb-false (domain Q i) 0 (some_none (λ i. eqb (domain Q i) 0) p.n i k (not-true _ (member_keep (λ Q. not (empty p.n Q)) _ m).0))

  -- The pieces dropped weigh nothing.
  placed_weights : (w : Weight) → weights w p.n (pieces p.n p.allowed P r) ≡ weights w p.n (named p.n p.allowed P r)
  unfolding pieces empty
  placed_weights w =
      sum_keep (weight w p.n) (λ Q. not (empty p.n Q)) (named p.n p.allowed P r)
      (λ Q e.
      let (i, k, t) = some_found (λ i. eqb (domain Q i) 0) p.n (not-false _ e) in
      weigh_none w p.n Q.domains i k (eqb-true (domain Q i) 0 t))

  -- So the pieces placed are a split too.
  pub placed : Split p P (kind_of r) (pieces p.n p.allowed P r)
  placed = record {
    free = split.free;
    each = placed_piece;
    most = λ w. rw (placed_weights w) (split.most w);
    size_sum = rw (placed_weights by_size) split.size_sum;
    fit_sum = λ f h. simp placed_weights (split.fit_sum f h);
  }

  -- What kind 3's peel takes off.
  pub placed_peel : (w : Weight) → kind_of r ≡ 3
      → weights w p.n (pieces p.n p.allowed P r)
      + weight w p.n (without (cut_beside p.allowed P (variable_of r) (value_of r) p.n) (variable_of r) (single (value_of r)))
      ≡ weight w p.n (precluded p.n p.allowed P (variable_of r) (value_of r)) + weight w p.n (without P (variable_of r) (single (value_of r)))
  unfolding named
  placed_peel w e =
      let is : named p.n p.allowed P r ≡ idc p.n p.allowed P (variable_of r) (value_of r) = rw e refl in
      rw (placed_weights w, is) (peel_3 held (valued (omega (arith, e)) (omega (arith, e))) w)
