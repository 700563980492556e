-- Lists written for each number below n, one after the other: their lengths, and what stands where.
-- Assumes nothing.
use mathlib.Core.Path.{◌≡◌, refl, sym, ap, ap₂, ◌∙◌}
use mathlib.Core.Logic.{⊎_elim}
use mathlib.Core.List.{List, [], ◌∷◌, ◌++◌, map, map-append, append_assoc, append-nil}
use Prim.Native.Nat.{ℕ, zero, suc, ◌+◌, ◌*◌, ◌≤◌, ◌<◌}
use native.Mathlib.Omega.{arith}
use native.Mathlib.Nat.{add-zero, add_assoc, add-suc, le_refl, suc-mul, zero-mul}
use lib.ListN.{length, get_or, replicate, length-append, length-map, get_or-append}
use lib.Seq.{get_or-append-add, ext_get_or}
use Rattle.problem.specs.Lists.{total, below}
use Rattle.problem.proofs.Products.{last}
use Rattle.problem.proofs.Copies.{zeros_at}
use Rattle.blocks.specs.Lists.{each}

-- The sum of the same number, n times; sums of equal numbers are equal.
pub total_const : (n c : ℕ) → total n (λ i. c) ≡ n * c
unfolding total
total_const zero c = sym (zero-mul c)
total_const (suc n) c = rw (total_const n c) (sym (suc-mul n c))

-- Sums of equal numbers are equal.
pub total_same : (n : ℕ) (f g : ℕ → ℕ) → ((i : ℕ) → i < n → f i ≡ g i) → total n f ≡ total n g
unfolding total
total_same zero f g h = refl
total_same (suc n) f g h = ap₂ ◌+◌ (total_same n f g (λ i l. h i (omega arith))) (h n (le_refl (suc n)))

-- A sum of a part is at most the whole, and lies by a summand below it.
pub total_below : (n : ℕ) (w : ℕ → ℕ) (i : ℕ) → i < n → total i w + w i ≤ total n w
unfolding total
total_below zero w i h = absurd (omega arith)
total_below (suc n) w i h =
    ⊎_elim (λ (e : i ≡ n). rw e (le_refl (total n w + w n))) (λ (l : i < n). omega (arith, total_below n w i l)) (last h)

-- The numbers below n are n, and the k-th is k.
pub below_length : (n : ℕ) → length (below n) ≡ n
unfolding below
below_length zero = refl
below_length (suc n) = length-append (below n) (n ∷ []) ∙ rw (below_length n) (omega arith)

-- A value for each of n is n values.
pub map_length : (f : ℕ → ℕ) (n : ℕ) → length (map f (below n)) ≡ n
map_length f n = length-map (below n) f ∙ below_length n

-- The k-th is that of k.
pub map_at : (f : ℕ → ℕ) (n k d : ℕ) → k < n → get_or (map f (below n)) k d ≡ f k
unfolding below
map_at f zero k d h = absurd (omega arith)
map_at f (suc n) k d h =
    ap (λ (l : List ℕ). get_or l k d) (map-append f (below n) (n ∷ []))
    ∙ ⊎_elim
    (λ (e : k ≡ n).
    let at : k ≡ length (map f (below n)) + 0 = omega (arith, map_length f n) in
    ap (λ (j : ℕ). get_or (map f (below n) ++ (f n ∷ [])) j d) at ∙ get_or-append-add (map f (below n)) (f n ∷ []) 0 d ∙ ap f (sym e))
    (λ (l : k < n). get_or-append (map f (below n)) (f n ∷ []) d k (omega (arith, map_length f n)) ∙ map_at f n k d l) (last h)

-- A list of n is what stands at each place.
pub map_is : (f : ℕ → ℕ) (n : ℕ) (l : List ℕ) → length l ≡ n → ((k : ℕ) → k < n → f k ≡ get_or l k 0) → map f (below n) ≡ l
map_is f n l e h =
    ext_get_or 0 (map f (below n)) l (map_length f n ∙ sym e)
    (λ i k. let j : i < n = omega (arith, map_length f n) in map_at f n i 0 j ∙ h i j)

-- Equal values make equal lists.
pub map_same : (f g : ℕ → ℕ) (n : ℕ) → ((k : ℕ) → k < n → f k ≡ g k) → map f (below n) ≡ map g (below n)
map_same f g n h = map_is f n (map g (below n)) (map_length g n) (λ k l. h k l ∙ sym (map_at g n k 0 l))

-- ---- lists one after the other

-- Of two lists, those of the first and then those of the second.
pub each_append : (f : ℕ → List ℕ) (l m : List ℕ) → each f (l ++ m) ≡ each f l ++ each f m
unfolding each
each_append f [] m = refl
each_append f (x ∷ l) m = rw (each_append f l m) (sym (append_assoc (f x) (each f l) (each f m)))

-- Those below n and that of n.
pub each_more : (f : ℕ → List ℕ) (n : ℕ) → each f (below (suc n)) ≡ each f (below n) ++ f n
unfolding each below
each_more f n = each_append f (below n) (n ∷ []) ∙ ap (λ (l : List ℕ). each f (below n) ++ l) (append-nil (f n))

-- Below 0 there is none.
pub each_none : (f : ℕ → List ℕ) → each f (below 0) ≡ []
unfolding each below
each_none f = refl

-- Those below a, and those of the b after them.
pub each_split : (f : ℕ → List ℕ) (a b : ℕ) → each f (below (a + b)) ≡ each f (below a) ++ each (λ k. f (a + k)) (below b)
each_split f a zero =
    ap (λ (n : ℕ). each f (below n)) (add-zero a) ∙ sym (append-nil (each f (below a))) ∙ ap (λ (l : List ℕ). each f (below a) ++ l)
    (sym (each_none (λ k. f (a + k))))
each_split f a (suc b) =
    ap (λ (n : ℕ). each f (below n)) (add-suc a b) ∙ each_more f (a + b) ∙ ap (λ (l : List ℕ). l ++ f (a + b)) (each_split f a b)
    ∙ append_assoc (each f (below a)) (each (λ k. f (a + k)) (below b)) (f (a + b)) ∙ ap (λ (l : List ℕ). each f (below a) ++ l)
    (sym (each_more (λ k. f (a + k)) b))

-- That of 0 alone.
pub each_one : (f : ℕ → List ℕ) → each f (below 1) ≡ f 0
each_one f = each_more f 0 ∙ ap (λ (l : List ℕ). l ++ f 0) (each_none f)

-- Of numbers renamed.
pub each_map : (f : ℕ → List ℕ) (g : ℕ → ℕ) (l : List ℕ) → each f (map g l) ≡ each (λ x. f (g x)) l
unfolding each
each_map f g [] = refl
each_map f g (x ∷ l) = rw (each_map f g l) refl

-- Equal lists make equal lists.
pub each_same : (f g : ℕ → List ℕ) (n : ℕ) → ((i : ℕ) → i < n → f i ≡ g i) → each f (below n) ≡ each g (below n)
each_same f g zero h = each_none f ∙ sym (each_none g)
each_same f g (suc n) h =
    each_more f n ∙ ap₂ ◌++◌ (each_same f g n (λ i l. h i (omega arith))) (h n (le_refl (suc n))) ∙ sym (each_more g n)

module _ (f : ℕ → List ℕ) (w : ℕ → ℕ) where
  -- Where list i has w i words, all have their sum.
  pub each_length : (n : ℕ) → ((i : ℕ) → i < n → length (f i) ≡ w i) → length (each f (below n)) ≡ total n w
  unfolding total
  each_length zero h = ap length (each_none f)
  each_length (suc n) h =
      ap length (each_more f n) ∙ length-append (each f (below n)) (f n)
      ∙ ap₂ ◌+◌ (each_length n (λ i l. h i (omega arith))) (h n (le_refl (suc n)))

  -- Word r of list i stands after the words of those before it.
  pub each_at : (n : ℕ) → ((i : ℕ) → i < n → length (f i) ≡ w i) → (i r : ℕ) → i < n → r < w i
      → get_or (each f (below n)) (total i w + r) 0 ≡ get_or (f i) r 0
  each_at zero h i r l k = absurd (omega arith)
  each_at (suc n) h i r l k =
      let few : (j : ℕ) → j < n → length (f j) ≡ w j = λ j q. h j (omega arith) in
      let size : length (each f (below n)) ≡ total n w = each_length n few in
      ap (λ (t : List ℕ). get_or t (total i w + r) 0) (each_more f n)
      ∙ ⊎_elim
      (λ (e : i ≡ n).
      let at : total i w + r ≡ length (each f (below n)) + r = ap (λ (j : ℕ). total j w + r) e ∙ omega (arith, size) in
      ap (λ (j : ℕ). get_or (each f (below n) ++ f n) j 0) at ∙ get_or-append-add (each f (below n)) (f n) r 0
      ∙ ap (λ (j : ℕ). get_or (f j) r 0) (sym e))
      (λ (q : i < n).
      get_or-append (each f (below n)) (f n) 0 (total i w + r) (omega (arith, size, total_below n w i q)) ∙ each_at n few i r q k) (last l)

-- ---- the values of g from x on

-- So many values of g from x on.
unfoldable pub seq : (ℕ → ℕ) → ℕ → ℕ → List ℕ
seq g x words = map (λ k. g (x + k)) (below words)

-- They are so many.
pub seq_length : (g : ℕ → ℕ) (x n : ℕ) → length (seq g x n) ≡ n
unfolding seq
seq_length g x n = map_length (λ k. g (x + k)) n

-- The k-th is that at x + k.
pub seq_at : (g : ℕ → ℕ) (x n k : ℕ) → k < n → get_or (seq g x n) k 0 ≡ g (x + k)
unfolding seq
seq_at g x n k h = map_at (λ k. g (x + k)) n k 0 h

-- One more, and two one after the other.
pub seq_more : (g : ℕ → ℕ) (x n : ℕ) → seq g x (suc n) ≡ seq g x n ++ (g (x + n) ∷ [])
unfolding seq below
seq_more g x n = map-append (λ k. g (x + k)) (below n) (n ∷ [])

-- Two one after the other.
pub seq_join : (g : ℕ → ℕ) (x a b : ℕ) → seq g x (a + b) ≡ seq g x a ++ seq g (x + a) b
unfolding seq below
seq_join g x a zero = ap (seq g x) (add-zero a) ∙ sym (append-nil (seq g x a))
seq_join g x a (suc b) =
    ap (seq g x) (add-suc a b) ∙ seq_more g x (a + b) ∙ ap₂ (λ (l : List ℕ) (k : ℕ). l ++ (g k ∷ [])) (seq_join g x a b) (sym (add_assoc x a b))
    ∙ append_assoc (seq g x a) (seq g (x + a) b) (g (x + a + b) ∷ []) ∙ ap (λ (l : List ℕ). seq g x a ++ l) (sym (seq_more g (x + a) b))

-- So many one after the other, w i in the i-th place.
pub seq_each : (g : ℕ → ℕ) (x : ℕ) (w : ℕ → ℕ) (n : ℕ) → each (λ i. seq g (x + total i w) (w i)) (below n) ≡ seq g x (total n w)
unfolding total seq below
seq_each g x w zero = each_none (λ i. seq g (x + total i w) (w i))
seq_each g x w (suc n) =
    each_more (λ i. seq g (x + total i w) (w i)) n ∙ ap (λ (l : List ℕ). l ++ seq g (x + total n w) (w n)) (seq_each g x w n)
    ∙ sym (seq_join g x (total n w) (w n))

-- A list is its values.
pub seq_is : (g : ℕ → ℕ) (x n : ℕ) (l : List ℕ) → length l ≡ n → ((k : ℕ) → k < n → g (x + k) ≡ get_or l k 0) → seq g x n ≡ l
unfolding seq
seq_is g x n l e h = map_is (λ k. g (x + k)) n l e h

-- ---- zeros after a list

-- They say what stands past its end.
pub padded_at : (l : List ℕ) (k i : ℕ) → get_or (l ++ replicate k 0) i 0 ≡ get_or l i 0
padded_at [] k i = zeros_at k i
padded_at (x ∷ l) k zero = refl
padded_at (x ∷ l) k (suc i) = padded_at l k i
