-- What the splits of all kinds have in common, and what a subproblem on the agenda grants them.
-- Assumes nothing.
use mathlib.Core.Path.{◌≡◌, ◌∙◌}
use mathlib.Core.Logic.{◌⊎◌, inl}
use mathlib.Core.List.{List, Memᴰ}
use Prim.Native.Nat.{ℕ, ◌^◌, ◌≤◌, ◌<◌}
use native.Mathlib.Omega.{arith}
use native.Mathlib.Nat.{le_of_eq, le_refl, lt_of_lt_of_le}
use native.Mathlib.Decide.{dec_le}
use lib.Pow.{pow_mono}
use lib.ListN.{length, get_or-eq_default}
use Rattle.problem.specs.Masks.{◌∈◌, size, lowest}
use Rattle.problem.specs.Problem.{Problem, Consistent}
use Rattle.splits.specs.Subproblems.{domain, Instantiated, SolutionOf}
use Rattle.problem.specs.Lists.{sum}
use Rattle.splits.specs.declared.subproblem.Subproblem.{Subproblem}
use Rattle.problem.proofs.mask.Masks.{one_value, trailing_member, part_lt}
use Rattle.splits.proofs.subproblem.Domains.{Within}
use Rattle.splitting.proofs.Weights.{Weight, weigh, by_size, fits, fits_one}
use Rattle.splitting.proofs.Pieces.{Held, Piece}

-- The weight of a subproblem, and of a list of pieces.
abbrev pub weight : Weight → ℕ → Subproblem → ℕ
weight w n Q = weigh w n Q.domains

abbrev pub weights : Weight → ℕ → List Subproblem → ℕ
weights w n l = sum (weight w n) l

-- The sizes of the pieces are P's; kinds 1 to 3 may leave possibilities out.
abbrev pub SizeSum : Problem → Subproblem → ℕ → List Subproblem → Type 0
SizeSum p P kind l =
    (weights by_size p.n l ≡ weight by_size p.n P)
    ⊎ ((kind ≤ 3) × (weights by_size p.n l ≤ weight by_size p.n P))

-- A solution f of P lies in one piece; kind 3 may leave it out where a piece has another.
abbrev pub FitSum : Problem → Subproblem → ℕ → List Subproblem → (ℕ → ℕ) → Type 0
FitSum p P kind l f =
    (weights (fits f) p.n l ≡ 1)
    ⊎ ((kind ≡ 3) × ((g : ℕ → ℕ) × Consistent p.n p.allowed g × (1 ≤ weights (fits g) p.n l)))

-- A split of P, which has a variable not instantiated, by a kind into the pieces of a list.
pub record Split (p : Problem) (P : Subproblem) (kind : ℕ) (l : List Subproblem) : Type 0 where
  pub free : (i : ℕ) × (i < p.n) × (Instantiated P i → ⊥)
  pub each : (Q : Subproblem) → Memᴰ Q l → Piece p P Q
  pub most : (w : Weight) → weights w p.n l ≤ weight w p.n P
  pub size_sum : SizeSum p P kind l
  pub fit_sum : (f : ℕ → ℕ) → SolutionOf p P f → FitSum p P kind l f

-- A solution fits P.
pub fits_whole : (p : Problem) (P : Subproblem) (f : ℕ → ℕ) → SolutionOf p P f → weight (fits f) p.n P ≡ 1
fits_whole p P f s = fits_one f p.n P.domains s.possible

module _ {p : Problem} {P : Subproblem} where
  -- A split in which every weight of the pieces is P's.
  pub even : (kind : ℕ) (l : List Subproblem) → (i : ℕ) × (i < p.n) × (Instantiated P i → ⊥)
      → ((Q : Subproblem) → Memᴰ Q l → Piece p P Q)
      → ((w : Weight) → weights w p.n l ≡ weight w p.n P) → Split p P kind l
  even kind l free each same =
      record {
        free = free;
        each = each;
        most = λ w. le_of_eq (same w);
        size_sum = inl (same by_size);
        fit_sum = λ f s. inl (same (fits f) ∙ fits_whole p P f s);
      }

  -- A piece that marks nothing and has a smaller domain.
  pub shrunk : (Q : Subproblem) (i : ℕ) → Q.marked ≡ P.marked → Within Q.domains P.domains → i < p.n
      → size (domain Q i) < size (domain P i) → Piece p P Q
  shrunk Q i m h k s = record { part = λ j l. h j; way = inl (record { marks = m; at = i; below = k; smaller = s }) }

module _ {p : Problem} {P : Subproblem} (held : Held p P) where
  -- There is a domain for each variable.
  pub long : p.n ≤ length P.domains
  long = elim (dec_le p.n (length P.domains)) [
    | yes h ↦ h
    | no h ↦ absurd (held.rules.filled (length P.domains) (omega arith) (get_or-eq_default P.domains 0 (le_refl (length P.domains))))
  ]

  -- A domain is a word of 16 bits.
  pub domain_lt : (i : ℕ) → i < p.n → domain P i < 2 ^ 16
  domain_lt i k =
      lt_of_lt_of_le (part_lt p.d (domain P i) (p.domain i) (held.rules.part i k) (held.proper.domains i k))
      (pow_mono held.proper.values)

  -- The lowest value of a domain is a member, and of an instantiated variable the only one.
  pub lowest_in : (i : ℕ) → i < p.n → lowest (domain P i) ∈ domain P i
  lowest_in i k = trailing_member 16 (domain P i) (domain_lt i k) (held.rules.filled i k)

  pub lowest_only : (i a : ℕ) → i < p.n → Instantiated P i → a ∈ domain P i → lowest (domain P i) ≡ a
  lowest_only i a k h m = one_value (domain P i) (lowest (domain P i)) a (held.rules.one_value i k h) (lowest_in i k) m
