-- Kinds 4 and 5: the splits that divide the domains of P and leave nothing out.
-- Assumes nothing.
use mathlib.Core.Path.{◌≡◌, refl, sym, ap, ◌∙◌}
use mathlib.Core.Bool.{Bool, not}
use mathlib.Core.List.{List}
use Prim.Native.Nat.{ℕ, ◌+◌, ◌/◌, ◌≤◌, ◌<◌}
use native.Mathlib.Omega.{arith}
use lib.Dec.{eqb}
use lib.ListN.{length, set}
use lib.Seq.{get_or-set_same}
use borrow.Author.Tests.{eqb-true, not-false}
use Rattle.problem.specs.Masks.{Part, common, minus, size, smaller_half}
use Rattle.problem.specs.Problem.{Problem}
use Rattle.splits.specs.Subproblems.{domain, Instantiated}
use Rattle.splits.specs.Requests.{target_of}
use Rattle.splits.specs.Splits.{without, cut, at_targets, extract, halving, extraction}
use Rattle.problem.specs.Lists.{sum}
use Rattle.splits.specs.declared.subproblem.Subproblem.{Subproblem}
use Rattle.problem.proofs.mask.Masks.{size_some, size_split, part_common, common_part, minus_part, minus_part_of, part_antisym, half_part, half_size}
use Rattle.problem.proofs.Lists.{sum_below, each_none, each_more, each_of}
use Rattle.splits.proofs.subproblem.Domains.{changed_before, within_changed, within_set, row_here, row_within}
use Rattle.splitting.proofs.Weights.{Weight, weigh_two, weigh_peel}
use Rattle.splitting.proofs.Pieces.{Held, Piece}
use Rattle.splitting.proofs.Splitting.{weight, weights, Split, even, shrunk, long, domain_lt}

-- What an accepted request of kind 4 grants: x is a variable, not instantiated, of more than one value.
pub record Divisible (p : Problem) (P : Subproblem) (x : ℕ) : Type 0 where
  pub below : x < p.n
  pub new : Instantiated P x → ⊥
  pub several : size (domain P x) ≡ 1 → ⊥

module _ {p : Problem} {P : Subproblem} {x : ℕ} (held : Held p P) (at : Divisible p P x) where
  -- The smaller half of V.
  abbrev half : ℕ
  half = smaller_half (domain P x)

  -- V has its place in the list of domains.
  in_x : x < length P.domains
  in_x = omega (arith, long held, at.below)

  -- Both halves are smaller than the domain.
  half_sizes : (size (common (domain P x) half) < size (domain P x)) × (size (minus (domain P x) half) < size (domain P x))
  half_sizes =
      let word = domain_lt held x at.below in
      let upper : size (common (domain P x) half) ≡ (size (domain P x) + 1) / 2 =
      rw (part_common half (domain P x) (half_part 16 (domain P x) word)) (half_size 16 (domain P x) word) in
      omega (arith, at.several, size_split (domain P x) half, size_some (domain P x) (held.rules.filled x at.below))

  -- P with a smaller domain of V is a piece.
  set_piece : (Q : Subproblem) (y : ℕ) → Q.domains ≡ set P.domains x y → Q.marked ≡ P.marked → Part y (domain P x)
      → size y < size (domain P x) → Piece p P Q
  set_piece Q y e m h s =
      shrunk Q x m (λ i. rw e (within_set P.domains x y h i)) at.below (rw (e, get_or-set_same P.domains x y 0 in_x) s)

  -- Kind 4.
  pub kind_4 : Split p P 4 (halving P x)
  unfolding halving cut without sum
  kind_4 =
      even 4 _ (x, at.below, at.new)
      (each_more (Piece p P) _ _ (set_piece _ _ refl refl (common_part _ _) half_sizes.0)
      (each_more (Piece p P) _ _ (set_piece _ _ refl refl (minus_part _ _) half_sizes.1) (each_none (Piece p P))))
      (λ w. omega (arith, weigh_two w p.n P.domains x _ _ at.below in_x (w.split x (domain P x) half)))

-- What an accepted request of kind 5 grants: each target is a part of the domain, not empty, and one differs from it.
pub record Targeted (p : Problem) (P : Subproblem) (r : List ℕ) : Type 0 where
  pub some : (i : ℕ) → i < p.n → target_of r i ≡ 0 → ⊥
  pub part : (i : ℕ) → i < p.n → Part (target_of r i) (domain P i)
  pub differs : (i : ℕ) × (i < p.n) × (target_of r i ≡ domain P i → ⊥)

module _ {p : Problem} {P : Subproblem} {r : List ℕ} (held : Held p P) (to : Targeted p P r) where
  -- What puts a variable at its target, and which targets differ.
  abbrev target : ℕ → ℕ → ℕ
  target i m = target_of r i

  abbrev other : ℕ → Bool
  other j = not (eqb (target_of r j) (domain P j))

  -- A target is its domain cut to it; with what it leaves out it is the domain, and if it differs it is smaller.
  target_cut : (i : ℕ) → i < p.n → target_of r i ≡ common (domain P i) (target_of r i)
  target_cut i k = sym (part_common (target_of r i) (domain P i) (to.part i k))

  target_size : (i : ℕ) → i < p.n → size (target_of r i) + size (minus (domain P i) (target_of r i)) ≡ size (domain P i)
  target_size i k = ap (λ (m : ℕ). size m + size (minus (domain P i) (target_of r i))) (target_cut i k) ∙ size_split (domain P i) (target_of r i)

  target_less : (i : ℕ) → i < p.n → (target_of r i ≡ domain P i → ⊥) → size (target_of r i) < size (domain P i)
  target_less i k d =
      let left : 1 ≤ size (minus (domain P i) (target_of r i)) = size_some _ (λ z. d (part_antisym _ _ (to.part i k) (minus_part_of _ _ z))) in
      omega (arith, target_size i k)

  -- P is the peel by the target: together the pieces weigh what P does.
  target_peel : (w : Weight) → weights w p.n (extraction p.n P r) ≡ weight w p.n P
  unfolding extraction extract at_targets without sum
  target_peel w =
      ap (λ (y : ℕ). weight w p.n (at_targets P r p.n) + y) (sum_below _ (extract P r) other p.n)
      ∙ weigh_peel w p.n other target (target_of r) P.domains (long held) (λ j k e. target_cut j k)
      (λ j k e. eqb-true (target_of r j) (domain P j) (not-false _ e))

  -- The target, and each further piece, has a smaller domain.
  target_piece : Piece p P (at_targets P r p.n)
  unfolding at_targets
  target_piece =
      let (i, k, d) = to.differs in
      shrunk _ i refl (within_changed p.n target P.domains to.part) k
      (rw (changed_before p.n target P.domains i k (omega (arith, long held))) (target_less i k d))

  extract_piece : (j : ℕ) → j < p.n → Piece p P (extract P r j)
  unfolding extract at_targets without
  extract_piece j k =
      shrunk _ j refl (row_within target (target_of r) P.domains j (λ i l. to.part i (omega arith))) k
      (rw (row_here target (target_of r) P.domains j (omega (arith, long held))) (omega (arith, target_size j k, size_some _ (to.some j k))))

  -- Kind 5.
  pub kind_5 : Split p P 5 (extraction p.n P r)
  unfolding extraction
  kind_5 =
      let (i, k, d) = to.differs in
      even 5 _ (i, k, λ o. omega (arith, target_less i k d, held.rules.one_value i k o, size_some _ (to.some i k)))
      (each_more (Piece p P) _ _ target_piece (each_of (Piece p P) (extract P r) other p.n (λ j l e. extract_piece j l))) target_peel
