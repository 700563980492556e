-- Bytes that fit as words, and what is made of them.
-- Assumes nothing.
use mathlib.Core.Path.{◌≡◌, refl, sym, ap₂, subst, ◌∙◌}
use mathlib.Core.Bool.{Bool, true, false, ◌&&◌}
use mathlib.Core.List.{List, ◌++◌}
use Prim.Native.Nat.{ℕ, ◌*◌, ◌/◌, ◌%◌, ◌≤◌, ◌<◌}
use native.Mathlib.Omega.{arith}
use lib.ListN.{length, take, drop}
use lib.Seq.{take_at, length-take-le}
use lib.Dec.{eqb, leb, ltb}
use borrow.Author.Tests.{leb-true, ltb-true, lt-ltb, le-leb, eqb-true, eq-eqb}
use Rattle.problem.proofs.Tests.{and_left, and_right}
use Rattle.word_bytes.specs.Bytes.{Whole, words_of, Fits, fits, none_empty, all_fit}
use Rattle.word_bytes.specs.Calls.{Lent, Puts, WordsOf, ThreeOf}
use Rattle.word_bytes.specs.declared.Three.{Three}
use Rattle.word_bytes.proofs.Words.{words_length, none_said}

-- ---- what the tests say

fits_even : (bytes most : ℕ) → fits bytes most ≡ true → bytes % 2 ≡ 0
unfolding fits
fits_even bytes most e = eqb-true (bytes % 2) 0 (and_left (eqb (bytes % 2) 0) (leb (bytes / 2) most) e)

fits_room : (bytes most : ℕ) → fits bytes most ≡ true → bytes / 2 ≤ most
unfolding fits
fits_room bytes most e = leb-true (bytes / 2) most (and_right (eqb (bytes % 2) 0) (leb (bytes / 2) most) e)

pub some_not : (bytes : ℕ) → (bytes ≡ 0 → ⊥) → 0 < bytes
some_not bytes f = omega arith

pub fits_true : (bytes most : ℕ) → fits bytes most ≡ true → 0 < bytes → Fits bytes most
fits_true bytes most e some =
    record { even = fits_even bytes most e; some = some; few = omega (arith, fits_even bytes most e, fits_room bytes most e) }

pub true_fits : (bytes most : ℕ) → bytes % 2 ≡ 0 → bytes ≤ 2 * most → fits bytes most ≡ true
unfolding fits
true_fits bytes most even few = rw (eq-eqb (bytes % 2) 0 even) (le-leb (bytes / 2) most (omega arith))

-- All three fit exactly if each does.
pub all_true : (a b c x y z : ℕ) → all_fit a b c x y z ≡ true → Fits a x × Fits b y × Fits c z
unfolding all_fit none_empty
all_true a b c x y z e =
    let p : Bool = fits a x in
    let q : Bool = fits b y in
    let r : Bool = fits c z in
    let some : Bool = ltb 0 a && ltb 0 b && ltb 0 c in
    let three : (p && q && r) ≡ true = and_left (p && q && r) some e in
    let two : (p && q) ≡ true = and_left (p && q) r three in
    let filled : some ≡ true = and_right (p && q && r) some e in
    let front : (ltb 0 a && ltb 0 b) ≡ true = and_left (ltb 0 a && ltb 0 b) (ltb 0 c) filled in (
      fits_true a x (and_left p q two) (ltb-true 0 a (and_left (ltb 0 a) (ltb 0 b) front)),
      fits_true b y (and_right p q two) (ltb-true 0 b (and_right (ltb 0 a) (ltb 0 b) front)),
      fits_true c z (and_right (p && q) r three) (ltb-true 0 c (and_right (ltb 0 a && ltb 0 b) (ltb 0 c) filled)),
    )

pub true_all : (a b c x y z : ℕ) → Fits a x → Fits b y → Fits c z → all_fit a b c x y z ≡ true
unfolding all_fit none_empty
true_all a b c x y z f g h =
    rw (
      true_fits a x f.even f.few,
      true_fits b y g.even g.few,
      true_fits c z h.even h.few,
      lt-ltb 0 a f.some,
      lt-ltb 0 b g.some,
      lt-ltb 0 c h.some,
    ) refl

-- ---- what is made

-- Where it is not so.
pub puts_none : (so : Bool) (bytes words : List ℕ) → so ≡ false → Puts so bytes words words 0
puts_none so bytes words e = record { left = rw e refl; count = rw e refl; lent = record { long = refl; room = omega arith } }

-- Of no bytes.
pub puts_empty : (so : Bool) (bytes words : List ℕ) → length bytes ≡ 0 → Puts so bytes words words 0
puts_empty true bytes words e =
    let half : 0 ≡ length bytes / 2 = omega arith in
    record { left = ap₂ (λ (l : List ℕ) (k : ℕ). l ++ drop k words) (none_said bytes e) half; count = half; lent = record { long = refl; room = omega arith } }
puts_empty false bytes words e = record { left = refl; count = refl; lent = record { long = refl; room = omega arith } }

-- How many are lent on.
pub count_is : {words left : List ℕ} {k : ℕ} → Lent k words left → k ≡ length (take k left)
count_is {left = left} {k} t = sym (length-take-le k left t.room)

-- Where it is so.
pub puts_so : {so : Bool} {bytes words left : List ℕ} {k : ℕ} → so ≡ true → Puts true bytes words left k → Puts so bytes words left k
puts_so {bytes = bytes} {words} {left} {k} e h = subst (λ (b : Bool). Puts b bytes words left k) (sym e) h

-- The first k words are those that the bytes say.
pub record Said (bytes : List ℕ) (k : ℕ) (words : List ℕ) : Type 0 where
  pub count : k ≡ length bytes / 2
  pub said : take k words ≡ words_of bytes

puts_said : {so : Bool} {bytes words left : List ℕ} {k : ℕ} → so ≡ true → Puts so bytes words left k → Said bytes k left
puts_said {so} {bytes} {words} {left} {k} e h =
    let its : left ≡ words_of bytes ++ drop (length bytes / 2) words = rw e at h.left in
    let count : k ≡ length bytes / 2 = rw e at h.count in
    record {
      count = count;
      said = rw its (take_at (words_of bytes) (drop (length bytes / 2) words) k (words_length bytes ∙ sym count));
    }

-- Where all three fit, each says its words.
pub three_said : {a b c u u' v v' w w' : List ℕ} {r : Three} → Fits (length a) (length u) → Fits (length b) (length v) → Fits (length c) (length w)
    → ThreeOf a b c u u' v v' w w' r
    → Said a r.first u' × Said b r.second v' × Said c r.third w'
three_said {a} {b} {c} {u} {u'} {v} {v'} {w} {w'} {r} f g h t =
    let so = true_all (length a) (length b) (length c) (length u) (length v) (length w) f g h in (
      puts_said so t.of_first,
      puts_said so t.of_second,
      puts_said so t.of_third,
    )

-- Whole words of bytes for which there is room, some or none, say theirs.
pub words_said : {b u u' : List ℕ} {k : ℕ} → Whole b → length b ≤ 2 * length u → WordsOf b u u' k → Said b k u'
words_said {b} {u} even few h = puts_said (true_fits (length b) (length u) even few) h
