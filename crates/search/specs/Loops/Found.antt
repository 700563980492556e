-- A step of the chooser: what it finds of a top subproblem, the pieces as the code makes them of that, and where they are put.
use Rattle.std.specs.Prelude.{Result, Ok, Err, ◌≡◌, Bool, true, false, cond, List, [], ◌∷◌, ℕ, ◌-◌, ◌≤◌, ◌<◌, length, get_or, set, eqb, ltb}
use Rattle.problem.specs.declared.refusal.Refusal.{Refusal}
use Rattle.problem.specs.Refused.{number_of}
use Rattle.problem.specs.Masks.{size, lowest}
use Rattle.problem.specs.Problem.{table_of}
use Rattle.problem.specs.Lists.{total}
use Rattle.splits.specs.Subproblems.{domain, empty, all_instantiated}
use Rattle.splits.specs.Splits.{precluded, without, pieces, cut_each, precluded_by}
use Rattle.problem.specs.Beside.{RowOf}
use Rattle.splits.specs.declared.subproblem.Subproblem.{Subproblem}
use Rattle.problem.specs.Ranges.{Sized}
use Rattle.search.specs.Agenda.{slots_in}
use Rattle.searches.specs.Chooser.{fewest, request}
use Rattle.search.specs.Loops.Kept.{Regular}
use Rattle.search.specs.Loops.Choices.{chosen_for}
use Rattle.search.specs.Loops.Steps.{TakesOne, Replaced, Stop}
use Rattle.splits.specs.AtOnce.{outside_to}
use Rattle.search.specs.Loops.Lanes.{BeforeTo}
use Rattle.search.specs.declared.state.State.{State}
use Rattle.search.specs.declared.chooser.Choice.{Choice}
use Rattle.search.specs.declared.chooser.Further.{Further}

-- The value that the choice goes with: the lowest of its variable.
abbrev pub value_in : Subproblem → Choice → ℕ
value_in P c = lowest (domain P c.variable)

-- The variable by the rule, how many values the variable has, the row of the value, and whether the precluded piece is empty.
pub record Found (n d : ℕ) (tables : List ℕ) (P : Subproblem) (c : Choice) : Type 0 where
  pub variable : c.variable ≡ fewest n P
  pub values : c.values ≡ size (domain P c.variable)
  pub row : RowOf n (table_of n d tables) c.variable (value_in P c) c.row
  pub lost : c.lost ≡ empty n (precluded n (table_of n d tables) P c.variable (value_in P c))

-- The piece that is left, or none: where the precluded piece is empty V without its value, else the precluded piece.
unfoldable pub left_by : Subproblem → Choice → List Subproblem
left_by P c =
    cond c.lost (cond (eqb c.values 1) [] (without P c.variable (get_or c.row c.variable 0) ∷ [])) (precluded_by P c.variable c.row ∷ [])

-- More than one piece may be left: the precluded piece is not empty, and V has another value.
unfoldable pub several : Choice → Bool
several c = cond c.lost false (cond (eqb c.values 1) false true)

-- A request of a kind for the variable and the value.
abbrev pub request_by : Subproblem → Choice → ℕ → List ℕ
request_by P c kind = request kind c.variable (value_in P c)

-- A top P that runs, with what is found of it: V is one of the n, and has no more values than all together.
pub record OfTop (n d : ℕ) (tables : List ℕ) (P : Subproblem) (c : Choice) : Type 0 where
  pub fitting : Sized n d tables
  pub regular : Regular n d P
  pub runs : all_instantiated n P ≡ false
  pub found : Found n d tables P c
  pub variable : c.variable < n
  pub values : c.values ≤ total 32 (λ j. size (domain P j))

-- What kind 3's further pieces are made of: V without its value, the row with all values for V, and what each domain has outside its mask of that.
pub record FurtherOf (P : Subproblem) (c : Choice) (f : Further) : Type 0 where
  pub rest : f.rest ≡ without P c.variable (get_or c.row c.variable 0)
  pub row : f.row ≡ set c.row c.variable 65535
  pub out : f.out ≡ outside_to f.rest.domains f.row 32

-- The further piece of variable j.
abbrev pub FurtherPiece : Further → ℕ → Subproblem → Type 0
FurtherPiece f j Q = (masks : List ℕ) × BeforeTo f.row j 32 masks × (Q ≡ without (cut_each f.rest masks) j (get_or f.row j 0))

-- What came of placing pieces: a refusal's number, or 0, and the number of subproblems.
pub record Left : Type 0 where
  pub refusal : ℕ
  pub subproblems : ℕ

abbrev pub left : Result ℕ Refusal → Left
left (Ok subproblems) = record { refusal = 0; subproblems = subproblems }
left (Err refusal) = record { refusal = number_of refusal; subproblems = 0 }

-- The pieces of the request that the rule chooses in the place of the top, if they have room.
pub record Puts (n d : ℕ) (tables : List ℕ) (P : Subproblem) (below : ℕ) (before after : List ℕ) (r : Left) : Type 0 where
  pub refusal : r.refusal
      ≡ cond (ltb (slots_in n (length before) - below) (length (pieces n (table_of n d tables) P (chosen_for n d tables P (slots_in n (length before) - below))))) 12 0
  pub placed : r.refusal ≡ 0
      → Replaced n (pieces n (table_of n d tables) P (chosen_for n d tables P (slots_in n (length before) - below))) below before after r.subproblems
  pub kept : (r.refusal ≡ 0 → ⊥) → after ≡ before

-- One request taken, the one that the rule chooses.
abbrev pub TakesChosen : ℕ → ℕ → List ℕ → Subproblem → List ℕ → List ℕ → State → Stop → Type 0
TakesChosen n d tables P before after s r =
    TakesOne n d tables before after (chosen_for n d tables P (slots_in n (length before) - (s.subproblems - 1))) s r
