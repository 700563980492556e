-- Which requests deserve refusals 7 to 10, of n variables, d values and the top subproblem P.
use Rattle.std.specs.Prelude.{◌≡◌, ◌⊎◌, List, [], ◌∷◌, ℕ, ◌≤◌, ◌<◌}
use Rattle.problem.specs.Masks.{◌∈◌, Part, size}
use Rattle.splits.specs.Subproblems.{domain, Instantiated}
use Rattle.problem.specs.Refusing.{Refusals}
use Rattle.splits.specs.Requests.{kind_of, variable_of, value_of, target_of}
use Rattle.splits.specs.declared.subproblem.Subproblem.{Subproblem}

-- 7: kind not 1 to 5.
abbrev pub Deserves7 : List ℕ → Type 0
Deserves7 r = (kind_of r < 1) ⊎ (5 < kind_of r)

-- 8, of kinds 1 to 4: V is none of the n variables, or is instantiated already.
abbrev pub Deserves8 : ℕ → Subproblem → List ℕ → Type 0
Deserves8 n P r = ((1 ≤ kind_of r) × (kind_of r ≤ 4)) × ((n ≤ variable_of r) ⊎ Instantiated P (variable_of r))

-- 9, of kinds 1 to 3: v is none of the d values or none of V's; of kind 4: V has a single value.
abbrev pub Deserves9 : ℕ → Subproblem → List ℕ → Type 0
Deserves9 d P r =
    (((1 ≤ kind_of r) × (kind_of r ≤ 3)) × ((d ≤ value_of r) ⊎ (value_of r ∈ domain P (variable_of r) → ⊥)))
    ⊎ ((kind_of r ≡ 4) × (size (domain P (variable_of r)) ≡ 1))

-- 10, of kind 5: some target has no value or one that P's domain lacks, or no target is another than the domain.
abbrev pub Deserves10 : ℕ → Subproblem → List ℕ → Type 0
Deserves10 n P r =
    (kind_of r ≡ 5)
    × (((i : ℕ) × (i < n) × ((target_of r i ≡ 0) ⊎ (Part (target_of r i) (domain P i) → ⊥)))
    ⊎ ((i : ℕ) → i < n → target_of r i ≡ domain P i))

-- A request is accepted, as far as the splits go, if it deserves none of the four.
pub record Accepted (n d : ℕ) (P : Subproblem) (r : List ℕ) : Type 0 where
  pub not_7 : Deserves7 r → ⊥
  pub not_8 : Deserves8 n P r → ⊥
  pub not_9 : Deserves9 d P r → ⊥
  pub not_10 : Deserves10 n P r → ⊥

-- The four in their order.
abbrev pub refusals : ℕ → ℕ → Subproblem → List ℕ → Refusals
refusals n d P r = (7, Deserves7 r) ∷ (8, Deserves8 n P r) ∷ (9, Deserves9 d P r) ∷ (10, Deserves10 n P r) ∷ []
