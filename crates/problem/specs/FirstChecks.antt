-- The first checks of a problem: which numbers and words deserve refusals 1 to 5.
use Rattle.std.specs.Prelude.{◌≡◌, ◌⊎◌, ℕ, ◌≤◌, ◌<◌, ◌*◌}
use Rattle.problem.specs.Masks.{◌∈◌}
use Rattle.problem.specs.Problem.{Problem}

-- 1: n not 1 to 32.
abbrev pub Deserves1 : ℕ → Type 0
Deserves1 n = (n < 1) ⊎ (32 < n)

-- 2: d not 1 to 16.
abbrev pub Deserves2 : ℕ → Type 0
Deserves2 d = (d < 1) ⊎ (16 < d)

-- 3, of a problem alone: so many words are not its n domains, or not its n × n × d masks.
abbrev pub Deserves3Problem : ℕ → ℕ → ℕ → ℕ → Type 0
Deserves3Problem n d domains tables = (domains ≡ n → ⊥) ⊎ (tables ≡ n * n * d → ⊥)

-- A mask has a bit at d or above.
abbrev pub Over : ℕ → ℕ → Type 0
Over d m = (v : ℕ) × (d ≤ v) × (v ∈ m)

-- 4: some domain, or a mask of two different variables, has a bit that is d or higher.
abbrev pub Deserves4 : Problem → Type 0
Deserves4 p =
    ((i : ℕ) × (i < p.n) × Over p.d (p.domain i))
    ⊎ ((i : ℕ) × (j : ℕ) × (a : ℕ) × (i < p.n) × (j < p.n) × (i ≡ j → ⊥) × (a < p.d) × Over p.d (p.allowed i j a))

-- 5: a pair is allowed one way only.
abbrev pub Deserves5 : Problem → Type 0
Deserves5 p =
    (i : ℕ) × (j : ℕ) × (a : ℕ) × (b : ℕ) × (i < p.n) × (j < p.n) × (i ≡ j → ⊥) × (a < p.d) × (b < p.d)
    × (b ∈ p.allowed i j a) × (a ∈ p.allowed j i b → ⊥)
