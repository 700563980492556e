-- Words for lists and for numbers below a bound: tests, sums, places, parts.
use Rattle.std.specs.Prelude.{List, [], ◌∷◌, ◌++◌, ℕ, ◌+◌, zero, suc, ◌*◌, length, take, drop, get_or, Bool, cond, true, false, ◌&&◌, ◌||◌}
use Rattle.std.specs.Int.Bits.{bit_or}

-- The sum of g over a list.
unfoldable pub sum : {A : Type 0} → (A → ℕ) → List A → ℕ
sum g [] = 0
sum g (x ∷ xs) = g x + sum g xs

-- The product of f 0 .. f (n - 1).
unfoldable pub product : ℕ → (ℕ → ℕ) → ℕ
product zero f = 1
product (suc n) f = product n f * f n

-- The sum of f 0 .. f (n - 1).
unfoldable pub total : ℕ → (ℕ → ℕ) → ℕ
total zero f = 0
total (suc n) f = total n f + f n

-- The words with `part` written from `at` on.
unfoldable pub splice : List ℕ → ℕ → List ℕ → List ℕ
splice words at part = take at words ++ (part ++ drop (at + length part) words)

-- The list with each of its first n entries changed by f, of its place and itself.
unfoldable pub changed : {A : Type 0} → ℕ → (ℕ → A → A) → List A → List A
changed zero f l = l
changed (suc n) f [] = []
changed (suc n) f (m ∷ ms) = f 0 m ∷ changed n (λ i. f (suc i)) ms

-- The numbers below n in rising order; those of a list that pass a test.
unfoldable pub below : ℕ → List ℕ
below zero = []
below (suc n) = below n ++ (n ∷ [])

unfoldable pub keep : {A : Type 0} → (A → Bool) → List A → List A
keep f [] = []
keep f (x ∷ xs) = cond (f x) (x ∷ keep f xs) (keep f xs)

-- A test at every number below n, and at some.
unfoldable pub every : ℕ → (ℕ → Bool) → Bool
every zero f = true
every (suc n) f = every n f && f n

unfoldable pub some : ℕ → (ℕ → Bool) → Bool
some zero f = false
some (suc n) f = some n f || f n

-- All bits of f 0 .. f (n - 1) together.
unfoldable pub joined : ℕ → (ℕ → ℕ) → ℕ
joined zero f = 0
joined (suc n) f = bit_or (joined n f) (f n)

-- Word a of some.
unfoldable pub row_in : List ℕ → ℕ → ℕ
row_in rows a = get_or rows a 0
