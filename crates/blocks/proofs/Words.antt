-- Words in bytes, the high byte first: what is written is read back, and what is read is written back.
-- Assumes nothing.
use mathlib.Core.Path.{◌≡◌, refl, ap, ap₂, ◌∙◌}
use mathlib.Core.List.{List, [], ◌∷◌, ◌++◌, map, map-append, append_assoc}
use Prim.Native.Nat.{ℕ, zero, suc, ◌+◌, ◌*◌, ◌/◌, ◌%◌, ◌≤◌, ◌<◌}
use native.Mathlib.Omega.{arith}
use native.Mathlib.Numerals.{add-one}
use lib.ListN.{length, get_or, take}
use lib.Seq.{take-suc}
use Rattle.problem.specs.Lists.{below}
use Rattle.blocks.specs.Blocks.{file_bytes, word_at}

-- Two bytes a word.
pub bytes_length : (ws : List ℕ) → length (file_bytes ws) ≡ 2 * length ws
unfolding file_bytes
bytes_length [] = refl
bytes_length (w ∷ ws) = omega (arith, bytes_length ws)

-- The bytes of two lists.
pub bytes_append : (l m : List ℕ) → file_bytes (l ++ m) ≡ file_bytes l ++ file_bytes m
unfolding file_bytes
bytes_append [] m = refl
bytes_append (w ∷ l) m = rw (bytes_append l m) refl

-- What is written is read back, and past the end 0.
pub word_read : (ws : List ℕ) (k : ℕ) → word_at (file_bytes ws) k ≡ get_or ws k 0
unfolding file_bytes word_at
word_read [] k = refl
word_read (w ∷ ws) zero = omega arith
word_read (w ∷ ws) (suc k) =
    let high : 2 * suc k ≡ suc (suc (2 * k)) = omega arith in
    let low : 2 * suc k + 1 ≡ suc (suc (2 * k + 1)) = omega arith in
    rw (low, high) (word_read ws k)

-- A byte is below 256; of words below 65536 the bytes are.
pub bytes_small : (ws : List ℕ) → ((k : ℕ) → get_or ws k 0 < 65536) → (i : ℕ) → get_or (file_bytes ws) i 0 < 256
unfolding file_bytes
bytes_small [] h i = omega arith
bytes_small (w ∷ ws) h zero = omega (arith, h 0)
bytes_small (w ∷ ws) h (suc zero) = omega arith
bytes_small (w ∷ ws) h (suc (suc i)) = bytes_small ws (λ k. h (suc k)) i

-- Two bytes make a word.
pub word_small : (b : List ℕ) → ((i : ℕ) → get_or b i 0 < 256) → (k : ℕ) → word_at b k < 65536
unfolding word_at
word_small b h k = omega (arith, h (2 * k), h (2 * k + 1))

-- The bytes of a word read.
high : (b : List ℕ) → ((i : ℕ) → get_or b i 0 < 256) → (m : ℕ) → word_at b m / 256 ≡ get_or b (2 * m) 0
unfolding word_at
high b h m = omega (arith, h (2 * m + 1))

low : (b : List ℕ) → ((i : ℕ) → get_or b i 0 < 256) → (m : ℕ) → word_at b m % 256 ≡ get_or b (suc (2 * m)) 0
unfolding word_at
low b h m = rw (← add-one (2 * m)) (omega (arith, h (2 * m + 1)))

-- What is read is written back.
pub bytes_read : (b : List ℕ) → ((i : ℕ) → get_or b i 0 < 256) → (m : ℕ) → 2 * m ≤ length b → file_bytes (map (word_at b) (below m)) ≡ take (2 * m) b
unfolding file_bytes below
bytes_read b h zero l = refl
bytes_read b h (suc m) l =
    let two : 2 * suc m ≡ suc (suc (2 * m)) = omega arith in
    ap file_bytes (map-append (word_at b) (below m) (m ∷ [])) ∙ bytes_append (map (word_at b) (below m)) (word_at b m ∷ [])
    ∙ rw (bytes_read b h m (omega arith), two, take-suc b (suc (2 * m)) 0 (omega arith), take-suc b (2 * m) 0 (omega arith))
    (rw append_assoc (ap₂ (λ (x y : ℕ). take (2 * m) b ++ (x ∷ y ∷ [])) (high b h m) (low b h m)))
