-- A request around a value, as the code has it.
use Rattle.std.specs.Prelude.{◌≡◌, Bool, false, List, ℕ, Option, MatchOption}
use Rattle.problem.specs.Problem.{Table, table_of}
use Rattle.problem.specs.Ranges.{inside}
use Rattle.splits.specs.Splits.{forbidden}
use Rattle.splits.specs.Checks.{tried, others}
use Rattle.splits.specs.Requests.{variable_of, value_of}
use Rattle.splits.specs.declared.around.Around.{Around}
use Rattle.splits.specs.declared.subproblem.Subproblem.{Subproblem}

-- What the tables allow.
abbrev pub allowed : Around → Table
allowed a = table_of a.n a.d a.tables.now

-- Of what is handed in, and of the variable and the value that the request names.
pub record Taken (P : Subproblem) (n d : ℕ) (tables r : List ℕ) (a : Around) : Type 0 where
  pub top : a.top ≡ P
  pub variables : a.n ≡ n
  pub values : a.d ≡ d
  pub words : a.tables.now ≡ tables
  pub variable : a.variable ≡ variable_of r
  pub value : a.value ≡ value_of r

-- None where the words do not fit.
abbrev pub Found : Subproblem → ℕ → ℕ → List ℕ → List ℕ → Option Around → Type 0
Found P n d tables r found = MatchOption found (inside n d tables (variable_of r) (value_of r) ≡ false) (λ a. Taken P n d tables r a)

-- What kind 1 finds on its way: the count and whether it met a conflict.
pub record LookedAt (a : Around) (count : ℕ) (conflict : Bool) : Type 0 where
  pub counted : count ≡ tried (others a.variable) a.n (allowed a) a.top a.variable a.value
  pub met : conflict ≡ forbidden a.n (allowed a) a.top a.variable a.value
