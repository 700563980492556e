-- Words in bytes: how many there are, what stands where, and that each says the other.
-- Assumes nothing.
use mathlib.Core.Path.{◌≡◌, refl, sym, ap, ap₂, ◌∙◌}
use mathlib.Core.List.{List, [], ◌∷◌, ◌++◌, append-nil}
use Prim.Native.Nat.{ℕ, zero, suc, ◌+◌, ◌-◌, ◌*◌, ◌/◌, ◌%◌, ◌^◌, ◌≤◌, ◌<◌, min}
use native.Mathlib.Omega.{arith}
use native.Mathlib.Nat.{lt_of_not-le}
use native.Mathlib.Decide.{dec_lt}
use lib.ListN.{length, get_or, take, drop, set, length-take, take-append-drop}
use lib.Seq.{take-length, take_all, drop-drop, drop-length, length-take-le}
use Rattle.problem.proofs.Copies.{copy_more}
use Rattle.word_bytes.specs.Bytes.{Whole, words_of, bytes_of}
use Rattle.word_bytes.specs.Calls.{Writes}

-- ---- how many

pub words_length : (b : List ℕ) → length (words_of b) ≡ length b / 2
unfolding words_of
words_length [] = omega arith
words_length (x ∷ []) = omega arith
words_length (x ∷ y ∷ b) = omega (arith, words_length b)

pub bytes_length : (w : List ℕ) → length (bytes_of w) ≡ 2 * length w
unfolding bytes_of
bytes_length [] = omega arith
bytes_length (x ∷ w) = omega (arith, bytes_length w)

-- ---- what stands where

pub word_at : (b : List ℕ) (i : ℕ) → 2 * i + 1 < length b → get_or (words_of b) i 0 ≡ get_or b (2 * i) 0 + 256 * get_or b (2 * i + 1) 0
unfolding words_of
word_at [] i h = absurd (omega arith)
word_at (x ∷ []) i h = absurd (omega arith)
word_at (x ∷ y ∷ b) zero h = refl
word_at (x ∷ y ∷ b) (suc i) h =
    let even : 2 * suc i ≡ suc (suc (2 * i)) = omega arith in
    let odd : 2 * suc i + 1 ≡ suc (suc (2 * i + 1)) = omega arith in
    rw (odd, even) (word_at b i (omega arith))

pub low_at : (w : List ℕ) (i : ℕ) → i < length w → get_or (bytes_of w) (2 * i) 0 ≡ get_or w i 0 % 256
unfolding bytes_of
low_at [] i h = absurd (omega arith)
low_at (x ∷ w) zero h = refl
low_at (x ∷ w) (suc i) h = let even : 2 * suc i ≡ suc (suc (2 * i)) = omega arith in rw even (low_at w i (omega arith))

pub high_at : (w : List ℕ) (i : ℕ) → i < length w → get_or (bytes_of w) (2 * i + 1) 0 ≡ get_or w i 0 / 256
unfolding bytes_of
high_at [] i h = absurd (omega arith)
high_at (x ∷ w) zero h = refl
high_at (x ∷ w) (suc i) h = let odd : 2 * suc i + 1 ≡ suc (suc (2 * i + 1)) = omega arith in rw odd (high_at w i (omega arith))

-- Words that bytes say have 16 bits.
pub words_small : (b : List ℕ) → ((i : ℕ) → get_or b i 0 < 256) → (i : ℕ) → get_or (words_of b) i 0 < 2 ^ 16
unfolding words_of
words_small [] h i = omega arith
words_small (x ∷ []) h i = omega arith
words_small (x ∷ y ∷ b) h zero = let l : x < 256 = h 0 in let k : y < 256 = h 1 in omega arith
words_small (x ∷ y ∷ b) h (suc i) = words_small b (λ j. h (suc (suc j))) i

-- The bytes of words of 16 bits are bytes.
pub bytes_small : (w : List ℕ) → ((i : ℕ) → get_or w i 0 < 65536) → (i : ℕ) → get_or (bytes_of w) i 0 < 256
unfolding bytes_of
bytes_small [] h i = omega arith
bytes_small (x ∷ w) h zero = omega arith
bytes_small (x ∷ w) h (suc zero) = let l : x < 65536 = h 0 in omega arith
bytes_small (x ∷ w) h (suc (suc i)) = bytes_small w (λ j. h (suc j)) i

-- ---- there and back

pub words_again : (w : List ℕ) → words_of (bytes_of w) ≡ w
unfolding words_of bytes_of
words_again [] = refl
words_again (x ∷ w) = let e : x % 256 + 256 * (x / 256) ≡ x = omega arith in ap₂ ◌∷◌ e (words_again w)

pub bytes_again : (b : List ℕ) → Whole b → ((i : ℕ) → get_or b i 0 < 256) → bytes_of (words_of b) ≡ b
unfolding words_of bytes_of
bytes_again [] e h = refl
bytes_again (x ∷ []) e h = absurd (omega arith)
bytes_again (x ∷ y ∷ b) e h =
    let l : x < 256 = h 0 in
    let low : (x + 256 * y) % 256 ≡ x = omega arith in
    let high : (x + 256 * y) / 256 ≡ y = omega arith in
    ap₂ ◌∷◌ low (ap₂ ◌∷◌ high (bytes_again b (omega arith) (λ j. h (suc (suc j)))))

-- Two lists of whole words say the words of the first, then those of the second.
pub words_append : (a b : List ℕ) → Whole a → words_of (a ++ b) ≡ words_of a ++ words_of b
unfolding words_of
words_append [] b e = refl
words_append (x ∷ []) b e = absurd (omega arith)
words_append (x ∷ y ∷ a) b e = ap₂ ◌∷◌ refl (words_append a b (omega arith))

-- The words past the first k, and the first k.
pub words_past : (k : ℕ) (b : List ℕ) → words_of (drop (2 * k) b) ≡ drop k (words_of b)
unfolding words_of
words_past zero b = refl
words_past (suc k) [] = let two : 2 * suc k ≡ suc (suc (2 * k)) = omega arith in rw two refl
words_past (suc k) (x ∷ []) = let two : 2 * suc k ≡ suc (suc (2 * k)) = omega arith in rw two refl
words_past (suc k) (x ∷ y ∷ b) = let two : 2 * suc k ≡ suc (suc (2 * k)) = omega arith in rw two (words_past k b)

pub words_front : (k : ℕ) (b : List ℕ) → words_of (take (2 * k) b) ≡ take k (words_of b)
unfolding words_of
words_front zero b = refl
words_front (suc k) [] = let two : 2 * suc k ≡ suc (suc (2 * k)) = omega arith in rw two refl
words_front (suc k) (x ∷ []) = let two : 2 * suc k ≡ suc (suc (2 * k)) = omega arith in rw two refl
words_front (suc k) (x ∷ y ∷ b) =
    let two : 2 * suc k ≡ suc (suc (2 * k)) = omega arith in rw two (ap (λ (l : List ℕ). (x + 256 * y) ∷ l) (words_front k b))

-- The bytes of words are whole words.
pub said_whole : {b : List ℕ} (w : List ℕ) → b ≡ bytes_of w → Whole b
said_whole w e = rw e (omega (arith, bytes_length w))

-- The bytes of two lists of words are those of the first, then those of the second.
pub bytes_append : (v w : List ℕ) → bytes_of (v ++ w) ≡ bytes_of v ++ bytes_of w
unfolding bytes_of
bytes_append [] w = refl
bytes_append (x ∷ v) w = ap (λ (b : List ℕ). (x % 256) ∷ (x / 256) ∷ b) (bytes_append v w)

-- The bytes past those of the first k words.
pub bytes_past : (k : ℕ) (w : List ℕ) → drop (2 * k) (bytes_of w) ≡ bytes_of (drop k w)
unfolding bytes_of
bytes_past zero w = refl
bytes_past (suc k) [] = let two : 2 * suc k ≡ suc (suc (2 * k)) = omega arith in rw two refl
bytes_past (suc k) (x ∷ w) = let two : 2 * suc k ≡ suc (suc (2 * k)) = omega arith in rw two (bytes_past k w)

-- Those of the first k words.
pub bytes_front : (k : ℕ) (w : List ℕ) → take (2 * k) (bytes_of w) ≡ bytes_of (take k w)
unfolding bytes_of
bytes_front zero w = refl
bytes_front (suc k) [] = let two : 2 * suc k ≡ suc (suc (2 * k)) = omega arith in rw two refl
bytes_front (suc k) (x ∷ w) =
    let two : 2 * suc k ≡ suc (suc (2 * k)) = omega arith in rw two (ap (λ (b : List ℕ). (x % 256) ∷ (x / 256) ∷ b) (bytes_front k w))

-- Where words are before j and past k as they were, writing the bytes of those between writes all.
pub middle_said : (j k : ℕ) (b y : List ℕ) → Whole b → ((i : ℕ) → get_or b i 0 < 256) → j ≤ k → take j y ≡ take j (words_of b)
    → drop k y ≡ drop k (words_of b) → take (2 * j) b ++ (bytes_of (take (k - j) (drop j y)) ++ drop (2 * k) b) ≡ bytes_of y
middle_said j k b y w small h e f =
    let again : bytes_of (words_of b) ≡ b = bytes_again b w small in
    let low : take (2 * j) b ≡ bytes_of (take j y) = ap (take (2 * j)) (sym again) ∙ bytes_front j (words_of b) ∙ ap bytes_of (sym e) in
    let high : drop (2 * k) b ≡ bytes_of (drop k y) = ap (drop (2 * k)) (sym again) ∙ bytes_past k (words_of b) ∙ ap bytes_of (sym f) in
    let sum : j + (k - j) ≡ k = omega arith in
    let rest : drop k y ≡ drop (k - j) (drop j y) = ap (λ (i : ℕ). drop i y) (sym sum) ∙ sym (drop-drop (k - j) j y) in
    ap₂ (λ (l m : List ℕ). l ++ (bytes_of (take (k - j) (drop j y)) ++ m)) low (high ∙ ap bytes_of rest)
    ∙ ap (λ (l : List ℕ). bytes_of (take j y) ++ l)
    (sym (bytes_append (take (k - j) (drop j y)) (drop (k - j) (drop j y))) ∙ ap bytes_of (take-append-drop (k - j) (drop j y)))
    ∙ sym (bytes_append (take j y) (drop j y)) ∙ ap bytes_of (take-append-drop j y)

-- ---- the loops

-- A word more.
pub word_more : (b d m : List ℕ) (i x : ℕ) → m ≡ take i (words_of b) ++ drop i d → x ≡ get_or b (2 * i) 0 + 256 * get_or b (2 * i + 1) 0 → i < length b / 2
    → i < length d → set m i x ≡ take (i + 1) (words_of b) ++ drop (i + 1) d
word_more b d m i x e s h k = copy_more (words_of b) d m i x e (s ∙ sym (word_at b i (omega arith))) (omega (arith, words_length b)) k

-- After the last.
pub put_end : (b d m : List ℕ) (i : ℕ) → m ≡ take i (words_of b) ++ drop i d → i ≤ length b / 2 → length b / 2 ≤ i
    → m ≡ words_of b ++ drop (length b / 2) d
put_end b d m i e h l =
    let end : i ≡ length b / 2 = omega arith in
    e ∙ ap (λ (j : ℕ). take j (words_of b) ++ drop j d) end
    ∙ ap (λ (l : List ℕ). l ++ drop (length b / 2) d) (ap (λ (k : ℕ). take k (words_of b)) (sym (words_length b)) ∙ take-length (words_of b))

-- No bytes say no words.
pub none_said : (b : List ℕ) → length b ≡ 0 → [] ≡ words_of b
unfolding words_of
none_said [] e = refl
none_said (x ∷ b) e = absurd (omega arith)

-- The two bytes of a word more.
pub bytes_more : (w d m : List ℕ) (i x y : ℕ) → m ≡ take (2 * i) (bytes_of w) ++ drop (2 * i) d → x ≡ get_or w i 0 % 256 → y ≡ get_or w i 0 / 256
    → i < length w → 2 * i + 1 < length d
    → set (set m (2 * i) x) (2 * i + 1) y ≡ take (2 * (i + 1)) (bytes_of w) ++ drop (2 * (i + 1)) d
bytes_more w d m i x y e s t h k =
    let long : 2 * i + 1 < length (bytes_of w) = omega (arith, bytes_length w) in
    let two : 2 * i + 1 + 1 ≡ 2 * (i + 1) = omega arith in
    let first : set m (2 * i) x ≡ take (2 * i + 1) (bytes_of w) ++ drop (2 * i + 1) d = copy_more (bytes_of w) d m (2 * i) x e (s ∙ sym (low_at w i h))
    (omega arith) (omega arith) in
    copy_more (bytes_of w) d (set m (2 * i) x) (2 * i + 1) y first (t ∙ sym (high_at w i h)) long (omega arith)
    ∙ ap (λ (j : ℕ). take j (bytes_of w) ++ drop j d) two

-- After the last that there is and that there is room for.
pub bytes_end : (w d m : List ℕ) (i count : ℕ) → m ≡ take (2 * i) (bytes_of w) ++ drop (2 * i) d → count ≡ min (length d / 2) (length w) → i ≤ count
    → count ≤ i → m ≡ bytes_of (take (length d / 2) w) ++ drop (2 * length (take (length d / 2) w)) d
bytes_end w d m i count e all below above =
    let h : i ≡ min (length d / 2) (length w) = omega arith in
    let k : ℕ = length d / 2 in
    let long : length (take k w) ≡ i = length-take k w ∙ sym h in
    let same : take i w ≡ take k w = ap (λ (j : ℕ). take j w) h ∙ take_min k w in
    e ∙ ap₂ ◌++◌ (bytes_front i w ∙ ap bytes_of same) (ap (λ (j : ℕ). drop (2 * j) d) (sym long))
  where
    take_min : (k : ℕ) (w : List ℕ) → take (min k (length w)) w ≡ take k w
    take_min k w = elim (dec_lt k (length w)) [
      | yes l ↦ let all : min k (length w) ≡ k = omega arith in ap (λ (j : ℕ). take j w) all
      | no l ↦
          let past : length w ≤ k = omega (arith, lt_of_not-le l) in
          let all : min k (length w) ≡ length w = omega arith in
          ap (λ (j : ℕ). take j w) all ∙ take-length w ∙ sym (take_all k w past)
    ]

-- Whole words of bytes are all written where there are words for them.
pub writes_front : (w b b' : List ℕ) → Whole b → length b ≤ 2 * length w → Writes w b b' → b' ≡ bytes_of (take (length b / 2) w)
writes_front w b b' even few h =
    let long : length (take (length b / 2) w) ≡ length b / 2 = length-take-le (length b / 2) w (omega arith) in
    let all : 2 * length (take (length b / 2) w) ≡ length b = omega arith in
    h ∙ ap (λ (l : List ℕ). bytes_of (take (length b / 2) w) ++ l) (ap (λ (j : ℕ). drop j b) all ∙ drop-length b) ∙ append-nil _
