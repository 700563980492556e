-- What follows of any split into pieces that are not empty: the six promises.
-- Assumes nothing.
use mathlib.Core.Path.{◌≡◌, sym, ◌∙◌}
use mathlib.Core.Logic.{inl, inr, ⊎_elim}
use mathlib.Core.List.{List, Memᴰ}
use Prim.Native.Nat.{ℕ, ◌≤◌, ◌<◌}
use native.Mathlib.Omega.{arith}
use lib.ListN.{get_or}
use native.Mathlib.Nat.{le_of_eq}
use Rattle.problem.specs.Problem.{Problem, Consistent, possibilities}
use Rattle.splits.specs.Subproblems.{domain, size_of}
use Rattle.splitting.specs.Measure.{unmarked, measure}
use Rattle.splitting.specs.Promises.{Solvable, SoundAt, CoverAt, ExactAt, ApartAt, ObeysAt, SizesAt, FallsAt}
use Rattle.splits.specs.declared.subproblem.Subproblem.{Subproblem}
use Rattle.problem.proofs.mask.Masks.{bit_le}
use Rattle.problem.proofs.Lists.{sum_some, sum_one, sum_member}
use Rattle.splitting.proofs.Weights.{weigh, fits, fits_le, fits_one, one_fits}
use Rattle.splitting.proofs.Pieces.{Held, filled_size, free_unmarked, piece_sound, piece_marks, piece_rules, piece_unmarked, piece_less}
use Rattle.splitting.proofs.Splitting.{weight, weights, SizeSum, FitSum, Split}
use Rattle.splitting.proofs.Measures.{measure_falls}

module _ {p : Problem} {P : Subproblem} {kind : ℕ} {l : List Subproblem} (split : Split p P kind l) where
  -- A piece that some consistent g fits has a solution.
  found : (g : ℕ → ℕ) → Consistent p.n p.allowed g → 1 ≤ weights (fits g) p.n l → (Q : Subproblem) × Memᴰ Q l × Solvable p Q
  found g c h =
      let (Q, m, k) = sum_some _ l h in
      (Q, m, (g, record { possible = one_fits g p.n Q.domains k; consistent = c }))

  -- Cover: f or, in kind 3, another lies in a piece.
  pub covers : CoverAt p P kind l
  covers (f, h) = go (split.fit_sum f h)
    where
      go : FitSum p P kind l f → (Q : Subproblem) × Memᴰ Q l × Solvable p Q
      go (inl e) = found f h.consistent (le_of_eq (sym e))
      go (inr (_, (g, c, k))) = found g c k

  -- Where the sum is 1, one piece fits and no other.
  pub exactly : ExactAt p P kind l
  exactly d f h =
      let e : weights (fits f) p.n l ≡ 1 = ⊎_elim (λ x. x) (λ x. absurd (d x.0)) (split.fit_sum f h) in
      let (k, i, fit, only) = sum_one _ l P e in (
        k,
        i,
        record { possible = one_fits f p.n _ (le_of_eq (sym fit)); consistent = h.consistent },
        λ j a q. only j a (fits_one f p.n _ q.possible),
      )

  -- Where a possibility lies in two pieces, they are one.
  pub apart : ApartAt p P kind l
  apart f j k a b here there =
      let one : weight (fits f) p.n (get_or l j P) ≡ 1 = fits_one f p.n (get_or l j P).domains here in
      let other : weight (fits f) p.n (get_or l k P) ≡ 1 = fits_one f p.n (get_or l k P).domains there in
      let some : weight (fits f) p.n (get_or l j P) ≤ weights (fits f) p.n l = sum_member (weight (fits f) p.n) l P j a in
      let few : weights (fits f) p.n l ≤ weight (fits f) p.n P = split.most (fits f) in
      let most : weight (fits f) p.n P ≤ 1 = fits_le f p.n P.domains in
      let all : weights (fits f) p.n l ≡ 1 = omega (arith, one, some, few, most) in
      let (i, at, fit, only) = sum_one (weight (fits f) p.n) l P all in
      only j a one ∙ sym (only k b other)

  -- Sizes.
  pub sums : SizesAt p P kind l
  unfolding possibilities weigh
  sums = go split.size_sum
    where
      go : SizeSum p P kind l → SizesAt p P kind l
      go (inl e) = (le_of_eq e, λ k. e)
      go (inr (k, h)) = (h, λ e. absurd (⊎_elim (λ (q : kind ≡ 4). omega arith) (λ (q : kind ≡ 5). omega arith) e))

  module _ (held : Held p P) where
    -- Sound: each piece is part of P.
    pub sounds : SoundAt p P kind l
    sounds Q m = piece_sound held (split.each Q m)

    module _ (filled : (Q : Subproblem) → Memᴰ Q l → (i : ℕ) → i < p.n → domain Q i ≡ 0 → ⊥) where
      -- The rules, piece by piece.
      pub keeps : ObeysAt p P kind l
      keeps Q m =
          (piece_rules held (split.each Q m) (filled Q m), λ i o. omega (arith, piece_marks held (split.each Q m) i, bit_le Q.marked i))

      -- Falls.
      pub descends : FallsAt p P kind l
      unfolding measure
      descends =
          let (i, k, new) = split.free in
          measure_falls (size_of p.n) (unmarked p.n) (size_of p.n P) (unmarked p.n P) l
          (λ Q m. (filled_size p.n Q (filled Q m), piece_unmarked held (split.each Q m))) (λ Q m. piece_less held (split.each Q m))
          sums.0 (filled_size p.n P held.rules.filled) (free_unmarked p.n P i k new)
