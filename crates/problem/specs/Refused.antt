-- The refusals, and their numbers.
use Rattle.std.specs.Prelude.{ℕ, Result, Ok, Err}
use Rattle.problem.specs.Answers.{One}
use Rattle.problem.specs.declared.refusal.Refusal.{Refusal}
use Rattle.problem.specs.declared.refusal.Refusal.TheVariants.{Variables, Values, Lengths, Masks, OneWay, Search, Kind, Variable, Value, Targets, Steps, Room, Buffer, Blocks, Content}

-- Their numbers in the table of the rules; the promises use them.
abbrev pub number_of : Refusal → ℕ
number_of Variables = 1
number_of Values = 2
number_of Lengths = 3
number_of Masks = 4
number_of OneWay = 5
number_of Search = 6
number_of Kind = 7
number_of Variable = 8
number_of Value = 9
number_of Targets = 10
number_of Steps = 11
number_of Room = 12
number_of Buffer = 13
number_of Blocks = 14
number_of Content = 15

-- The number that a call tells: its refusal's, or 0 for none.
abbrev pub told : {A : Type 0} → Result A Refusal → ℕ
told (Ok r) = 0
told (Err refusal) = number_of refusal

-- What says which number a check tells leaves one number, and one result.
abbrev pub OneTold : (ℕ → Type 0) → Type 0
OneTold S = One S × One (λ (r : Result Unit Refusal). S (told r))
