-- What masks, tables and the first checks of a problem promise.
use Rattle.std.specs.Prelude.{◌≡◌, ℕ, ◌+◌, ◌/◌, ◌^◌, ◌<◌, ◌↔◌, List, [], ◌∷◌, length}
use Rattle.problem.specs.Masks.{◌∈◌, Part, size, lowest_of, smaller_half_of, LowestIn, all_values}
use Rattle.problem.specs.Problem.{Problem, problem_of}
use Rattle.problem.specs.Calls.{Count, Lowest, Only, Has, SmallerHalf, Within, Allowed, Row, BitsOf, RefusalOfNumbers, SizesRefusal, RefusalOf}
use Rattle.std.specs.Prelude.{Result}
use Rattle.problem.specs.declared.refusal.Refusal.{Refusal}
use Rattle.problem.specs.declared.verdict.Verdict.{Verdict}
use Rattle.problem.specs.Refused.{number_of, told, OneTold}
use Rattle.problem.specs.Verdicts.{number_of as verdict_number}
use Rattle.problem.specs.Answers.{One}
use Rattle.problem.specs.Matrix.{Turned}
use Rattle.problem.specs.FirstChecks.{Deserves1, Deserves2, Deserves3Problem, Deserves4, Deserves5}
use Rattle.problem.specs.Refusing.{Refusals, FirstOf}
use Rattle.problem.specs.Tests.FirstChecks.{refusal_of_numbers, refusal_of_problem, problem_sizes, problem_refusal}

-- Where every mask has all d bits set, all values are allowed.
abbrev pub NoConstraint : Type 0
NoConstraint =
    (p : Problem) (i j : ℕ) → ((a : ℕ) → a < p.d → p.allowed i j a ≡ all_values p.d)
    → (a b : ℕ) → a < p.d → b < p.d → b ∈ p.allowed i j a

-- The lowest value of a mask that is not empty is a member, and no member is below it.
abbrev pub LowestValue : Type 0
LowestValue = (w m : ℕ) → m < 2 ^ w → (m ≡ 0 → ⊥) → LowestIn m (lowest_of w m)

-- The smaller half of k values is ⌈k / 2⌉ of them, each smaller than each of the rest.
abbrev pub SmallerHalfOf : Type 0
SmallerHalfOf =
    (w m : ℕ) → m < 2 ^ w
    → Part (smaller_half_of w m) m × (size (smaller_half_of w m) ≡ (size m + 1) / 2)
    × ((u v : ℕ) → u ∈ smaller_half_of w m → v ∈ m → (v ∈ smaller_half_of w m → ⊥) → u < v)

-- The count of values in a mask.
abbrev pub CountOne : Type 0
CountOne = (mask : ℕ) → One (Count mask)

-- The lowest value of a mask.
abbrev pub LowestOne : Type 0
LowestOne = (mask : ℕ) → One (Lowest mask)

-- Whether a value is in a mask.
abbrev pub HasOne : Type 0
HasOne = (mask value : ℕ) → One (Has mask value)

-- The smallest ⌈k/2⌉ values of a mask with k values.
abbrev pub SmallerHalfOne : Type 0
SmallerHalfOne = (mask : ℕ) → One (SmallerHalf mask)

-- ---- the first checks of a problem, in the order 1 to 5

abbrev pub sizes_table : ℕ → ℕ → ℕ → ℕ → Refusals
sizes_table n d domains tables = (1, Deserves1 n) ∷ (2, Deserves2 d) ∷ (3, Deserves3Problem n d domains tables) ∷ []

abbrev pub SizesRefusals : Type 0
SizesRefusals = (n d domains tables : ℕ) → FirstOf (sizes_table n d domains tables) (problem_sizes n d domains tables)

abbrev pub problem_table : ℕ → ℕ → List ℕ → List ℕ → Refusals
problem_table n d domains tables =
    (1, Deserves1 n) ∷ (2, Deserves2 d) ∷ (3, Deserves3Problem n d (length domains) (length tables))
    ∷ (4, Deserves4 (problem_of n d domains tables)) ∷ (5, Deserves5 (problem_of n d domains tables)) ∷ []

abbrev pub ProblemRefusals : Type 0
ProblemRefusals = (n d : ℕ) (domains tables : List ℕ) → FirstOf (problem_table n d domains tables) (problem_refusal n d domains tables)

-- The numbers pass exactly when neither 1 nor 2 is deserved.
abbrev pub NumbersPass : Type 0
NumbersPass = (n d : ℕ) → (refusal_of_numbers n d ≡ 0) ↔ ((Deserves1 n → ⊥) × (Deserves2 d → ⊥))

-- The problem passes exactly when neither 4 nor 5 is deserved.
abbrev pub ProblemPass : Type 0
ProblemPass = (p : Problem) → (refusal_of_problem p ≡ 0) ↔ ((Deserves4 p → ⊥) × (Deserves5 p → ⊥))

-- A number tells which refusal it is, and 0 that there is none: so what speaks of the number leaves one result.
abbrev pub NumberOne : Type 0
NumberOne = (a b : Refusal) → number_of a ≡ number_of b → a ≡ b

-- The number that a refusal goes into, and the number that a verdict does, by `u32::from`.
abbrev pub RefusalFromOne : Type 0
RefusalFromOne = (refusal : Refusal) → One (λ (number : ℕ). number ≡ number_of refusal)

abbrev pub VerdictFromOne : Type 0
VerdictFromOne = (verdict : Verdict) → One (λ (number : ℕ). number ≡ verdict_number verdict)

abbrev pub ToldOne : Type 0
ToldOne = (r s : Result Unit Refusal) → told r ≡ told s → r ≡ s

-- The mask of one value.
abbrev pub OnlyOne : Type 0
OnlyOne = (value : ℕ) → One (Only value)

-- Whether the numbers fit the tables.
abbrev pub WithinOne : Type 0
WithinOne = (n d : ℕ) (tables : List ℕ) (variable value : ℕ) → One (Within n d tables variable value)

-- What is allowed beside a value.
abbrev pub AllowedOne : Type 0
AllowedOne = (n d : ℕ) (tables : List ℕ) (i j a : ℕ) → One (Allowed n d tables i j a)

-- The row of a value.
abbrev pub RowOne : Type 0
RowOne = (n d : ℕ) (tables : List ℕ) (variable value : ℕ) → One (Row n d tables variable value)

-- The bits of all words.
abbrev pub BitsOfOne : Type 0
BitsOfOne = (words : List ℕ) → One (BitsOf words)

-- The first checks of the numbers.
abbrev pub RefusalOfNumbersOne : Type 0
RefusalOfNumbersOne = (n d : ℕ) → OneTold (RefusalOfNumbers n d)

-- The first checks of how many words are lent.
abbrev pub SizesRefusalOne : Type 0
SizesRefusalOne = (n d domains tables : ℕ) → OneTold (SizesRefusal n d domains tables)

-- The first checks of a problem.
abbrev pub RefusalOne : Type 0
RefusalOne = (n d : ℕ) (domains tables : List ℕ) → OneTold (RefusalOf n d domains tables)

-- Rows for columns.
abbrev pub TurnedOne : Type 0
TurnedOne = (rows r s : List ℕ) → Turned rows r → Turned rows s → r ≡ s
