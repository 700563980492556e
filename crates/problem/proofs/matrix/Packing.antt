-- A matrix made word by word, a word of four rows, and the rows made one by one. Assumes nothing.
use mathlib.Core.Path.{◌≡◌, refl}
use mathlib.Core.List.{List, ◌∷◌, ◌++◌}
use Prim.Native.Nat.{ℕ}
use Rattle.problem.specs.Loops.Matrices.{word_at, four_of}
use Rattle.problem.specs.declared.matrix.Matrix.{Matrix}

-- four words are the matrix whose words they are
pub words_are : (a b c d : ℕ) (m : Matrix) → a ≡ m.first → b ≡ m.second → c ≡ m.third → d ≡ m.fourth
    → ◌≡◌ {A = Matrix} (record { first = a; second = b; third = c; fourth = d }) m
words_are a b c d m e f g h = rw (e, f, g, h) refl

-- four rows of a word, then the rest
pub rows_are : (a b c d x : ℕ) (l k : List ℕ) → a ≡ word_at x 0 → b ≡ word_at x 16 → c ≡ word_at x 32 → d ≡ word_at x 48 → l ≡ k
    → (a ∷ b ∷ c ∷ d ∷ l) ≡ four_of x ++ k
unfolding four_of
rows_are a b c d x l k e f g h i = rw (e, f, g, h, i) refl
