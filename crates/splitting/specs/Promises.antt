-- What a split keeps, of any proper problem, any subproblem P on the agenda and any accepted request.
use Rattle.std.specs.Prelude.{◌≡◌, ◌⊎◌, ℕ, ◌+◌, ◌≤◌, ◌<◌, length, get_or}
use mathlib.Core.List.{List, [], ◌∷◌, Memᴰ}
use Rattle.problem.specs.Masks.{single, size}
use Rattle.problem.specs.Problem.{Problem, Proper, Possibility}
use Rattle.splits.specs.Subproblems.{domain, Instantiated, Rules, SolutionOf, size_of}
use Rattle.splits.specs.Requests.{kind_of, variable_of, value_of}
use Rattle.splits.specs.Splits.{without, cut_beside, precluded, pieces}
use Rattle.splits.specs.Checks.{checks}
use Rattle.splits.specs.Refusals.{Accepted}
use Rattle.problem.specs.Lists.{sum}
use Rattle.splitting.specs.Measure.{measure}
use Rattle.splitting.specs.Shortcuts.{skipping, weak, untargeted, two, two_top, three, three_top, pair, pair_top}
use Rattle.splits.specs.declared.subproblem.Subproblem.{Subproblem}

-- The request r, accepted, splits P, a subproblem that obeys the rules, of the proper problem p.
pub record Splits (p : Problem) (P : Subproblem) (r : List ℕ) : Type 0 where
  pub proper : Proper p
  pub rules : Rules p P
  pub accepted : Accepted p.n p.d P r

-- Of any such p, P and r, something said of p, P, the kind and the pieces placed.
abbrev pub Always : (Problem → Subproblem → ℕ → List Subproblem → Type 0) → Type 0
Always Said = (p : Problem) (P : Subproblem) (r : List ℕ) → Splits p P r → Said p P (kind_of r) (pieces p.n p.allowed P r)

-- P has a solution.
abbrev pub Solvable : Problem → Subproblem → Type 0
Solvable p P = (f : ℕ → ℕ) × SolutionOf p P f

-- A solution of a piece is a solution of P.
abbrev pub SoundAt : Problem → Subproblem → ℕ → List Subproblem → Type 0
SoundAt p P kind l = (Q : Subproblem) → Memᴰ Q l → (f : ℕ → ℕ) → SolutionOf p Q f → SolutionOf p P f

-- If P has a solution, some piece has one.
abbrev pub CoverAt : Problem → Subproblem → ℕ → List Subproblem → Type 0
CoverAt p P kind l = Solvable p P → (Q : Subproblem) × Memᴰ Q l × Solvable p Q

-- Kinds 1, 2, 4 and 5: a solution of P is a solution of exactly one piece, by its place among them.
abbrev pub ExactAt : Problem → Subproblem → ℕ → List Subproblem → Type 0
ExactAt p P kind l =
    (kind ≡ 3 → ⊥) → (f : ℕ → ℕ) → SolutionOf p P f
    → (k : ℕ) × (k < length l) × SolutionOf p (get_or l k P) f
    × ((j : ℕ) → j < length l → SolutionOf p (get_or l j P) f → j ≡ k)

-- Each piece obeys the rules for subproblems, and what P has instantiated it has instantiated.
abbrev pub ObeysAt : Problem → Subproblem → ℕ → List Subproblem → Type 0
ObeysAt p P kind l =
    (Q : Subproblem) → Memᴰ Q l → Rules p Q × ((i : ℕ) → Instantiated P i → Instantiated Q i)

-- The sizes of the pieces sum to at most P's; of kinds 4 and 5 to exactly P's.
abbrev pub SizesAt : Problem → Subproblem → ℕ → List Subproblem → Type 0
SizesAt p P kind l =
    (sum (size_of p.n) l ≤ size_of p.n P)
    × ((kind ≡ 4) ⊎ (kind ≡ 5) → sum (size_of p.n) l ≡ size_of p.n P)

-- No possibility lies in two pieces.
abbrev pub ApartAt : Problem → Subproblem → ℕ → List Subproblem → Type 0
ApartAt p P kind l =
    (f : ℕ → ℕ) (j k : ℕ) → j < length l → k < length l → Possibility p.n (domain (get_or l j P)) f → Possibility p.n (domain (get_or l k P)) f → j ≡ k

-- The measures of the pieces, with 1 for the step, sum to at most P's: the step limit rests on it.
abbrev pub FallsAt : Problem → Subproblem → ℕ → List Subproblem → Type 0
FallsAt p P kind l = sum (measure p.n) l + 1 ≤ measure p.n P

-- The seven promises of an accepted split.
abbrev pub Sound : Type 0
Sound = Always SoundAt

abbrev pub Cover : Type 0
Cover = Always CoverAt

abbrev pub Exact : Type 0
Exact = Always ExactAt

abbrev pub Obeys : Type 0
Obeys = Always ObeysAt

abbrev pub Sizes : Type 0
Sizes = Always SizesAt

abbrev pub Apart : Type 0
Apart = Always ApartAt

abbrev pub Falls : Type 0
Falls = Always FallsAt

-- Kind 3: of "V without v" the further pieces leave out just the part whose other domains are all cut to the values allowed beside v, the
-- consistent subproblem of 000.
abbrev pub Peel : Type 0
Peel =
    (p : Problem) (P : Subproblem) (r : List ℕ) → Splits p P r → kind_of r ≡ 3 →
    let V' : ℕ = variable_of r in
    let v : ℕ = value_of r in
    sum (size_of p.n) (pieces p.n p.allowed P r) + size_of p.n (without (cut_beside p.allowed P V' v p.n) V' (single v))
    ≡ size_of p.n (precluded p.n p.allowed P V' v) + size_of p.n (without P V' (single v))

-- A subproblem on the agenda with every variable instantiated has a solution.
abbrev pub Solved : Type 0
Solved = (p : Problem) (P : Subproblem) → Proper p → Rules p P → ((i : ℕ) → i < p.n → Instantiated P i) → Solvable p P

-- The checks of one accepted request are at most 496.
abbrev pub AtMost496 : Type 0
AtMost496 =
    (p : Problem) (P : Subproblem) (r : List ℕ) → Splits p P r → checks p.n p.allowed P r ≤ 496

-- Skipping instantiated variables in kind 3's further pieces leaves nothing of `two`, split around V 1, v 0, which has a solution.
abbrev pub SkippingLoses : Type 0
SkippingLoses =
    let r : List ℕ = 3 ∷ 1 ∷ 0 ∷ [] in
    Splits two two_top r × Solvable two two_top × (skipping two two_top r ≡ []) × (CoverAt two two_top 3 (skipping two two_top r) → ⊥)

-- The weak IDC pieces overlap: a possibility of `three`, split around V 0, v 0, lies in two of them; they have more than P, and the measure does
-- not fall.
abbrev pub WeakOverlaps : Type 0
WeakOverlaps =
    let r : List ℕ = 3 ∷ 0 ∷ 0 ∷ [] in
    let l : List Subproblem = weak three three_top r in
    Splits three three_top r × (ApartAt three three_top 3 l → ⊥) × (SizesAt three three_top 3 l → ⊥) × (FallsAt three three_top 3 l → ⊥)

-- Taking a variable with one value as instantiated calls `pair` solved, which has no solution.
abbrev pub OneValueLies : Type 0
OneValueLies =
    Proper pair × Rules pair pair_top × ((i : ℕ) → i < 2 → size (domain pair_top i) ≡ 1) × (Solvable pair pair_top → ⊥)

-- Dropping the extraction target loses the solution of `two`, extracted at targets {0} and {1}.
abbrev pub DroppingLoses : Type 0
DroppingLoses =
    let r : List ℕ = 5 ∷ 0 ∷ 0 ∷ 1 ∷ 2 ∷ [] in
    Splits two two_top r × (CoverAt two two_top 5 (untargeted two two_top r) → ⊥)
