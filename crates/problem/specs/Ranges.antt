-- What a function that reads the tables needs of its numbers: for the private functions of this layer and the next, which ask for it. What `sized`
-- and `inside` of Calls test, as propositions.
use Rattle.std.specs.Prelude.{◌≡◌, List, ℕ, ◌*◌, ◌≤◌, ◌<◌, length, Bool, ◌&&◌, eqb, leb, ltb}

pub record Sized (n d : ℕ) (tables : List ℕ) : Type 0 where
  pub few : n ≤ 32
  pub small : d ≤ 16
  pub words : length tables ≡ n * n * d

pub record Inside (n d : ℕ) (tables : List ℕ) (variable value : ℕ) : Type 0 where
  pub fit : Sized n d tables
  pub a_variable : variable < n
  pub a_value : value < d

-- A place of the table: variables i and j, value a.
pub record Place (n d i j a : ℕ) : Type 0 where
  pub first : i < n
  pub second : j < n
  pub third : a < d

-- n is at most 32, d at most 16, and the tables are n × n × d words.
unfoldable pub sized : ℕ → ℕ → List ℕ → Bool
sized n d tables = leb n 32 && leb d 16 && eqb (length tables) (n * n * d)

-- The same, V is one of the n variables and v one of the d values.
unfoldable pub inside : ℕ → ℕ → List ℕ → ℕ → ℕ → Bool
inside n d tables V' v = ltb V' n && ltb v d && sized n d tables

-- What refusals 1, 2 and 3 leave of the problem's words.
pub record Fitting (n d : ℕ) (domains tables : List ℕ) : Type 0 where
  pub sized : Sized n d tables
  pub words : length domains ≡ n
