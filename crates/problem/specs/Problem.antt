-- The problem: n variables, d values, a domain for each variable, and what each two variables allow.
use Rattle.std.specs.Prelude.{◌≡◌, cond, List, ℕ, ◌+◌, ◌*◌, ◌^◌, ◌≤◌, ◌<◌, get_or, length, ltb}
use Rattle.problem.specs.Masks.{bit, ◌∈◌, size}
use Rattle.problem.specs.Lists.{product}

-- What is allowed: `allowed i j a` is the mask of the values of j allowed beside value a of i.
abbrev pub Table : Type 0
Table = ℕ → ℕ → ℕ → ℕ

-- The table that n × n × d words hold: the mask for i, j and a is word (i × n + j) × d + a; beside what is none of the d values nothing is
-- allowed.
unfoldable pub table_of : ℕ → ℕ → List ℕ → Table
table_of n d words i j a = cond (ltb a d) (get_or words ((i * n + j) * d + a) 0) 0

-- Two tables allow the same at every place of two different variables.
abbrev pub AllowSame : ℕ → ℕ → Table → Table → Type 0
AllowSame n d f g = (i j a : ℕ) → i < n → j < n → (i ≡ j → ⊥) → a < d → f i j a ≡ g i j a

pub record Problem : Type 0 where
  pub n : ℕ
  pub d : ℕ
  pub domain : ℕ → ℕ
  pub allowed : Table

-- The problems that document 01 allows. What stands for a variable with itself is nowhere looked at.
pub record Proper (p : Problem) : Type 0 where
  pub some_variable : 1 ≤ p.n
  pub variables : p.n ≤ 32
  pub some_value : 1 ≤ p.d
  pub values : p.d ≤ 16
  pub domains : (i : ℕ) → i < p.n → p.domain i < 2 ^ p.d
  pub masks : (i j a : ℕ) → i < p.n → j < p.n → (i ≡ j → ⊥) → a < p.d → p.allowed i j a < 2 ^ p.d
  pub symmetric : (i j a b : ℕ) → i < p.n → j < p.n → (i ≡ j → ⊥) → a < p.d → b < p.d → bit (p.allowed i j a) b ≡ bit (p.allowed j i b) a

-- A possibility f gives each of n variables a value of its domain.
abbrev pub Possibility : ℕ → (ℕ → ℕ) → (ℕ → ℕ) → Type 0
Possibility n domain f = (i : ℕ) → i < n → f i ∈ domain i

-- Every two of the n variables hold allowed values.
abbrev pub Consistent : ℕ → Table → (ℕ → ℕ) → Type 0
Consistent n allowed f = (i j : ℕ) → i < n → j < n → (i ≡ j → ⊥) → f j ∈ allowed i j (f i)

-- A solution: a possibility whose values are allowed, each two of them.
pub record Solution (n : ℕ) (allowed : Table) (domain f : ℕ → ℕ) : Type 0 where
  pub possible : Possibility n domain f
  pub consistent : Consistent n allowed f

-- The number of possibilities of n domains: the product of their sizes.
unfoldable pub possibilities : ℕ → (ℕ → ℕ) → ℕ
possibilities n domain = product n (λ i. size (domain i))

-- Tables of as many words that agree wherever two different variables meet.
pub record AgreeApart (n d : ℕ) (tables others : List ℕ) : Type 0 where
  pub words : length tables ≡ length others
  pub masks : AllowSame n d (table_of n d tables) (table_of n d others)

-- Words of 16 bits.
abbrev pub Words : List ℕ → Type 0
Words l = (k : ℕ) → get_or l k 0 < 65536

-- The problem that the words say.
abbrev pub problem_of : ℕ → ℕ → List ℕ → List ℕ → Problem
problem_of n d domains tables = record { n = n; d = d; domain = λ i. get_or domains i 0; allowed = table_of n d tables }
