-- RFC 1071: the sum of at most 255 words, its carries folded in twice, is their ones' complement sum; the check is a word.
-- Assumes nothing.
use mathlib.Core.Path.{◌≡◌, refl, sym, ap, ◌∙◌}
use mathlib.Core.List.{List, [], ◌∷◌, ◌++◌, map, map-append}
use Prim.Native.Nat.{ℕ, zero, suc, ◌+◌, ◌*◌, ◌/◌, ◌%◌, ◌≤◌, ◌<◌}
use native.Mathlib.Omega.{arith}
use native.Mathlib.Decide.{ℕ_discrete, dec_lt}
use lib.ListN.{length, get_or, get_or-eq_default}
use Rattle.problem.specs.Lists.{total, below, sum}
use Rattle.blocks.specs.Blocks.{carried, ones_sum, check_of}
use Rattle.blocks.proofs.Lists.{map_length, map_at}

-- x is t with its carries folded in: t modulo 65535, and 65535 in the place of 0 unless t is 0.
pub record Folds (t x : ℕ) : Type 0 where
  pub word : x < 65536
  pub carries : ℕ
  pub same : t ≡ carries * 65535 + x
  pub none : x ≡ 0 → t ≡ 0

-- There is only one.
pub folds_one : (t x y : ℕ) → Folds t x → Folds t y → x ≡ y
folds_one t x y f g = go (ℕ_discrete x 0) (ℕ_discrete y 0)
  where
    some : (a b q r : ℕ) → (a ≡ 0 → ⊥) → (b ≡ 0 → ⊥) → a < 65536 → b < 65536 → q * 65535 + a ≡ r * 65535 + b → a ≡ b
    some a b q r u v h k e = omega arith

    go : Dec (x ≡ 0) → Dec (y ≡ 0) → x ≡ y
    go (yes e) d = let z : t ≡ 0 = f.none e in omega (arith, g.same)
    go (no u) (yes e) = let z : t ≡ 0 = g.none e in omega (arith, f.same)
    go (no u) (no v) = some x y f.carries g.carries u v f.word g.word (sym f.same ∙ g.same)

-- The sum of words.
abbrev pub plain : List ℕ → ℕ
plain ws = sum (λ w. w) ws

-- The ones' complement sum folds it.
pub ones_folds : (ws : List ℕ) → ((k : ℕ) → get_or ws k 0 < 65536) → Folds (plain ws) (ones_sum ws)
unfolding sum ones_sum carried
ones_folds [] h = record { word = omega arith; carries = 0; same = refl; none = λ e. refl }
ones_folds (w ∷ ws) h =
    let f = ones_folds ws (λ k. h (suc k)) in
    let l : w < 65536 = h 0 in
    record {
      word = omega (arith, f.word);
      carries = f.carries + (w + ones_sum ws) / 65536;
      same = omega (arith, f.same, f.word);
      none = λ e. let z : plain ws ≡ 0 = f.none (omega (arith, f.word)) in omega (arith, f.word);
    }

-- Two folds are enough for a sum below 2 ^ 32.
pub twice_folds : (t y z : ℕ) → t < 4294967296 → y ≡ t % 65536 + t / 65536 → z ≡ y % 65536 + y / 65536 → Folds t z
twice_folds t y z h e k = record {
  word = omega arith;
  carries = t / 65536 + y / 65536;
  same = omega arith;
  none = λ n. omega arith;
}

-- The sum of at most so many words is at most so many times the largest.
pub plain_le : (ws : List ℕ) → ((k : ℕ) → get_or ws k 0 < 65536) → plain ws ≤ length ws * 65535
unfolding sum
plain_le [] h = omega arith
plain_le (w ∷ ws) h = omega (arith, plain_le ws (λ k. h (suc k)), h 0)

-- So folding the sum twice gives the ones' complement sum.
pub twice_is : (ws : List ℕ) (t y z : ℕ) → ((k : ℕ) → get_or ws k 0 < 65536) → length ws ≤ 65535 → t ≡ plain ws
    → y ≡ t % 65536 + t / 65536 → z ≡ y % 65536 + y / 65536 → z ≡ ones_sum ws
twice_is ws t y z h l e f g =
    folds_one t z (ones_sum ws) (twice_folds t y z (omega (arith, plain_le ws h)) f g) (rw e (ones_folds ws h))

-- The check is a word.
pub check_word : (ws : List ℕ) → check_of ws < 65536
unfolding check_of
check_word ws = omega arith

-- Of words it is the complement of their sum.
pub check_complement : (ws : List ℕ) → ((k : ℕ) → get_or ws k 0 < 65536) → ones_sum ws + check_of ws ≡ 65535
unfolding check_of
check_complement ws h = omega (arith, (ones_folds ws h).word)

-- The sum of words that are listed by their places, as a loop adds them up.
plain_append : (l m : List ℕ) → plain (l ++ m) ≡ plain l + plain m
unfolding sum
plain_append [] m = omega arith
plain_append (x ∷ l) m = omega (arith, plain_append l m)

-- Added up one after the other.
pub plain_total : (f : ℕ → ℕ) (n : ℕ) → plain (map f (below n)) ≡ total n f
unfolding below total sum
plain_total f zero = refl
plain_total f (suc n) = ap plain (map-append f (below n) (n ∷ [])) ∙ plain_append (map f (below n)) (f n ∷ []) ∙ omega (arith, plain_total f n)

-- So a loop that adds up m words and folds twice finds the ones' complement sum of the list of them.
pub total_is : (f : ℕ → ℕ) (m t y z : ℕ) → ((k : ℕ) → f k < 65536) → m ≤ 65535 → t ≡ total m f → y ≡ t % 65536 + t / 65536 → z ≡ y % 65536 + y / 65536
    → z ≡ ones_sum (map f (below m))
total_is f m t y z h l e a b =
    twice_is (map f (below m)) t y z small (rw (map_length f m) l) (e ∙ sym (plain_total f m)) a b
  where
    small : (k : ℕ) → get_or (map f (below m)) k 0 < 65536
    small k = elim (dec_lt k m) [
      | yes q ↦ rw (map_at f m k 0 q) (h k)
      | no q ↦ rw (get_or-eq_default (map f (below m)) 0 {n = k} (omega (arith, map_length f m))) (omega arith)
    ]
