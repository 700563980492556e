-- Memory that a loop writes from the front, and memory of which a part is written anew.
-- Assumes nothing.
use mathlib.Core.Path.{◌≡◌, refl, sym, ap, ◌∙◌}
use mathlib.Core.List.{List, [], ◌∷◌, ◌++◌, append_assoc, append-nil}
use Prim.Native.Nat.{ℕ, zero, suc, ◌+◌, ◌-◌, ◌≤◌, ◌<◌}
use native.Mathlib.Omega.{arith}
use native.Mathlib.Numerals.{add-one}
use lib.ListN.{length, get_or, take, drop, set, replicate, length-append, length-take, length-replicate, take-append-drop}
use lib.Seq.{length-take-le, take-suc, drop-cons, append_snoc, set_at, take_at, drop_at, drop-drop, drop-length}
use borrow.Rule.Slice.PartMut.{put_mid, mid_of, Post-is, mid_len}
use borrow.Author.Fill.{fill_more}
use Rattle.problem.specs.Lists.{splice}

-- One word more of a copy.
pub copy_more : (src d m : List ℕ) (i x : ℕ) → m ≡ take i src ++ drop i d → x ≡ get_or src i 0 → i < length src → i < length d
    → set m i x ≡ take (i + 1) src ++ drop (i + 1) d
copy_more src d m i x e s h k =
    rw (e, s, add-one, drop-cons d i 0)
    (set_at (take i src) (get_or d i 0) (drop (suc i) d) (get_or src i 0) i (length-take-le i src (omega arith))
    ∙ sym (append_snoc (take i src) (get_or src i 0) (drop (suc i) d)) ∙ rw (take-suc src i 0) refl)

-- What is left of zeros is zeros.
pub drop_zeros : (k i : ℕ) → drop {A = ℕ} i (replicate k 0) ≡ replicate (k - i) 0
drop_zeros zero zero = refl
drop_zeros zero (suc i) = let e : 0 ≡ 0 - suc i = omega arith in ap (λ (j : ℕ). replicate {A = ℕ} j 0) e
drop_zeros (suc k) zero = let e : suc k ≡ suc k - 0 = omega arith in ap (λ (j : ℕ). replicate {A = ℕ} j 0) e
drop_zeros (suc k) (suc i) = let e : k - i ≡ suc k - suc i = omega arith in drop_zeros k i ∙ ap (λ (j : ℕ). replicate {A = ℕ} j 0) e

-- Zeros are 0 everywhere, past their end too.
pub zeros_at : (k i : ℕ) → ◌≡◌ {A = ℕ} (get_or (replicate k 0) i 0) 0
zeros_at zero i = refl
zeros_at (suc k) zero = refl
zeros_at (suc k) (suc i) = zeros_at k i

-- Zeros of a number of words.
pub zeros_end : (d m : List ℕ) (i : ℕ) → m ≡ replicate i 0 ++ drop i d → i ≡ length d → m ≡ replicate (length d) 0
zeros_end d m i e h = rw (e, h, drop-length, append-nil) refl

-- One zero more.
pub zeros_more : (d m : List ℕ) (i : ℕ) → m ≡ replicate i 0 ++ drop i d → i < length d → set m i 0 ≡ replicate (i + 1) 0 ++ drop (i + 1) d
zeros_more d m i e h = rw e (fill_more i 0 d h)

-- ---- a part written anew

-- Nothing spliced in leaves the words as they are.
pub splice_none : (l : List ℕ) (a : ℕ) → l ≡ splice l a []
unfolding splice
splice_none l a = let e : a + 0 ≡ a = omega arith in rw e (sym (take-append-drop a l))

-- A part that lies between two others.
pub splice_between : (p q r ws : List ℕ) (a : ℕ) → length p ≡ a → length ws ≡ length q → splice (p ++ (q ++ r)) a ws ≡ p ++ (ws ++ r)
unfolding splice
splice_between p q r ws a e s =
    let seam : length (p ++ q) ≡ a + length ws = simp length-append (omega arith) in
    let rest : drop (a + length ws) (p ++ (q ++ r)) ≡ r = rw (← append_assoc) (drop_at (p ++ q) r (a + length ws) seam) in
    rw (take_at p (q ++ r) a e, rest)

-- Two parts, one after the other.
pub splice_splice : (l : List ℕ) (a : ℕ) (t ws : List ℕ) (b : ℕ) → a + length t ≡ b → b ≤ length l
    → splice (splice l a t) b ws ≡ splice l a (t ++ ws)
unfolding splice
splice_splice l a t ws b e h =
    let seam : length (take a l ++ t) ≡ b = simp (length-append, length-take) (omega arith) in
    let rest : List ℕ = drop (a + length t) l in
    let whole : take a l ++ (t ++ rest) ≡ (take a l ++ t) ++ rest = sym (append_assoc (take a l) t rest) in
    let front : take b (take a l ++ (t ++ rest)) ≡ take a l ++ t = rw whole (take_at (take a l ++ t) rest b seam) in
    let sum : a + length t + length ws ≡ a + length (t ++ ws) = simp length-append (omega arith) in
    let back : drop (b + length ws) (take a l ++ (t ++ rest)) ≡ drop (a + length (t ++ ws)) l =
    sym (drop-drop (length ws) b (take a l ++ (t ++ rest)))
    ∙ ap (drop (length ws)) (rw whole (drop_at (take a l ++ t) rest b seam))
    ∙ drop-drop (length ws) (a + length t) l ∙ ap (λ (j : ℕ). drop j l) sum in
    rw (front, back) (simp append_assoc)

-- A part written over another that is no longer.
pub splice_cover : (l z ws : List ℕ) (a : ℕ) → length z ≤ length ws → a + length ws ≤ length l → splice (splice l a z) a ws ≡ splice l a ws
unfolding splice
splice_cover l z ws a h k =
    let front : length (take a l) ≡ a = length-take-le a l (omega arith) in
    let seam : length (take a l ++ z) ≡ a + length z = simp length-append (omega arith) in
    let whole : take a l ++ (z ++ drop (a + length z) l) ≡ (take a l ++ z) ++ drop (a + length z) l = sym
    (append_assoc (take a l) z (drop (a + length z) l)) in
    let more : a + length ws ≡ (a + length z) + (length ws - length z) = omega arith in
    let back : drop (a + length ws) (take a l ++ (z ++ drop (a + length z) l)) ≡ drop (a + length ws) l =
    ap (λ (j : ℕ). drop j (take a l ++ (z ++ drop (a + length z) l))) more
    ∙ sym (drop-drop (length ws - length z) (a + length z) (take a l ++ (z ++ drop (a + length z) l)))
    ∙ ap (drop (length ws - length z)) (rw whole (drop_at (take a l ++ z) (drop (a + length z) l) (a + length z) seam))
    ∙ drop-drop (length ws - length z) (a + length z) l ∙ ap (λ (j : ℕ). drop j l) (sym more) in
    rw (take_at (take a l) (z ++ drop (a + length z) l) a front, back) refl

-- A part written after another was.
pub splice_twice : (l m r z ws : List ℕ) (a : ℕ) → r ≡ splice m a ws → m ≡ splice l a z → r ≡ splice (splice l a z) a ws
splice_twice l m r z ws a e s = rw (e, s) refl

-- What a callee left in a part that was lent to it, as a splice of the whole.
pub put_part : (l ys ws : List ℕ) (a w : ℕ) → ys ≡ ws → length ws ≡ w → put_mid a ((a + w) - a) l ys ≡ splice l a ws
unfolding splice
put_part l ys ws a w e s = rw (e, Post-is a (a + w) l (omega arith), s) refl

-- The same of a part that was filled with zeros.
pub put_zeros : (l ys : List ℕ) (a w : ℕ) → ys ≡ replicate (length (mid_of a ((a + w) - a) l)) 0 → a + w ≤ length l
    → put_mid a ((a + w) - a) l ys ≡ splice l a (replicate w 0)
put_zeros l ys a w e h =
    let long : length (mid_of a ((a + w) - a) l) ≡ w = mid_len a (a + w) l h ∙ omega arith in
    put_part l ys (replicate w 0) a w (e ∙ ap (λ (k : ℕ). replicate k 0) long) (length-replicate w 0)

-- two lists of numbers below B, one after the other, are such a list
pub append_small : (B : ℕ) (a b : List ℕ) → ((i : ℕ) → get_or a i 0 < B) → ((i : ℕ) → get_or b i 0 < B) → (i : ℕ) → get_or (a ++ b) i 0 < B
append_small B [] b h k i = k i
append_small B (x ∷ a) b h k zero = h 0
append_small B (x ∷ a) b h k (suc i) = append_small B a b (λ j. h (suc j)) k i
