-- The tables of a content: how many words they are, and which mask stands where.
-- Assumes nothing.
use mathlib.Core.Path.{◌≡◌, refl, sym, ap, ap₂, ◌∙◌}
use mathlib.Core.Bool.{cond}
use mathlib.Core.List.{List, map}
use Prim.Native.Nat.{ℕ, zero, suc, ◌+◌, ◌-◌, ◌*◌, ◌/◌, ◌<◌}
use native.Mathlib.Omega.{arith}
use native.Mathlib.Nat.{add-mul, mul_assoc, add_assoc, zero-mul, zero-add}
use lib.Arith.{digits_lt}
use lib.ListN.{length, get_or}
use lib.Dec.{eqb}
use borrow.Author.Tests.{ne_eqb}
use Rattle.problem.specs.Problem.{Table, AllowSame, table_of}
use Rattle.problem.specs.Lists.{total, below}
use Rattle.problem.proofs.tables.Ranges.{word_at}
use Rattle.blocks.specs.Lists.{each}
use Rattle.files.specs.Content.{after, triangle}
use Rattle.files.specs.Reading.{triangle_words, triangle_place, table_words}
use Rattle.blocks.proofs.Lists.{total_const, total_same, total_below, map_length, map_at, each_map, each_same, each_length, each_at, seq, seq_is, seq_each}
use Rattle.files.proofs.Lists.{after_is}

-- How many variables stand after each: n - 1, n - 2, down to none.
abbrev pub rest : ℕ → ℕ → ℕ
rest n h = n - suc h

-- A number more in each of n places.
total_add : (n : ℕ) (f g : ℕ → ℕ) → total n (λ i. f i + g i) ≡ total n f + total n g
unfolding total
total_add zero f g = refl
total_add (suc n) f g = omega (arith, total_add n f g)

-- Their sum is half of n × (n - 1).
rest_more : (n : ℕ) → total (suc n) (rest (suc n)) ≡ total n (rest n) + n
unfolding total
rest_more n =
    let up : total n (rest (suc n)) ≡ total n (λ i. rest n i + 1) = total_same n (rest (suc n)) (λ i. rest n i + 1) (λ i l. omega arith) in
    omega (arith, up, total_add n (rest n) (λ i. 1), total_const n 1)

rest_double : (n : ℕ) → 2 * total (suc n) (rest (suc n)) ≡ suc n * n
unfolding total
rest_double zero = refl
rest_double (suc n) = omega (arith, rest_more (suc n), rest_double n)

-- So there are n × (n - 1) / 2 pairs.
pub rest_total : (n : ℕ) → total n (rest n) ≡ n * (n - 1) / 2
unfolding total
rest_total zero = refl
rest_total (suc n) = let e : suc n - 1 ≡ n = omega arith in rw e (omega (arith, rest_double n))

-- A sum of multiples.
pub total_mul : (n : ℕ) (f : ℕ → ℕ) (d : ℕ) → total n (λ i. f i * d) ≡ total n f * d
unfolding total
total_mul zero f d = sym (zero-mul d)
total_mul (suc n) f d = ap (λ (x : ℕ). x + f n * d) (total_mul n f d) ∙ sym (add-mul (total n f) (f n) d)

module _ (n d : ℕ) (allowed : Table) where
  -- The masks of i with each variable after it.
  pub row : ℕ → List ℕ
  row i = each (λ k. map (allowed i (suc i + k)) (below d)) (below (rest n i))

  -- All rows are the tables.
  pub triangle_rows : triangle n d allowed ≡ each row (below n)
  unfolding triangle row
  triangle_rows =
      each_same (λ i. each (λ j. map (allowed i j) (below d)) (after n i)) row n
      (λ i l. ap (each (λ j. map (allowed i j) (below d))) (after_is n i) ∙ each_map (λ j. map (allowed i j) (below d)) (λ k. suc i + k)
      (below (rest n i)))

  -- A row has so many words.
  pub row_length : (i : ℕ) → length (row i) ≡ rest n i * d
  unfolding row
  row_length i =
      each_length (λ k. map (allowed i (suc i + k)) (below d)) (λ k. d) (rest n i) (λ k l. map_length (allowed i (suc i + k)) d) ∙ total_const
      (rest n i) d

  -- How many words they are.
  pub triangle_length : length (triangle n d allowed) ≡ triangle_words n d
  triangle_length =
      ap length triangle_rows ∙ each_length row (λ i. rest n i * d) n (λ i l. row_length i) ∙ total_mul n (rest n) d
      ∙ ap (λ (x : ℕ). x * d) (rest_total n)

  -- The mask for i below j and a stands in its place.
  row_at : (i k a : ℕ) → k < rest n i → a < d → get_or (row i) (k * d + a) 0 ≡ allowed i (suc i + k) a
  unfolding row
  row_at i k a h l =
      let at : k * d + a ≡ total k (λ j. d) + a = ap (λ (x : ℕ). x + a) (sym (total_const k d)) in
      ap (λ (x : ℕ). get_or (each (λ k. map (allowed i (suc i + k)) (below d)) (below (rest n i))) x 0) at
      ∙ each_at (λ k. map (allowed i (suc i + k)) (below d)) (λ j. d) (rest n i) (λ j q. map_length (allowed i (suc i + j)) d) k a h l
      ∙ map_at (allowed i (suc i + k)) d a 0 l

  place_is : (i k a : ℕ) → (total i (rest n) + k) * d + a ≡ total i (λ h. rest n h * d) + (k * d + a)
  place_is i k a = rw (add-mul (total i (rest n)) k d, total_mul i (rest n) d) (add_assoc (total i (rest n) * d) (k * d) a)

  -- It stands there.
  pub triangle_at : (i j a : ℕ) → i < j → j < n → a < d → get_or (triangle n d allowed) (triangle_place n d i j a) 0 ≡ allowed i j a
  unfolding triangle_place
  triangle_at i j a h l m =
      let k : j - suc i < rest n i = omega arith in
      let back : suc i + (j - suc i) ≡ j = omega arith in
      ap₂ (λ (t : List ℕ) (x : ℕ). get_or t x 0) triangle_rows (place_is i (j - suc i) a)
      ∙ each_at row (λ h. rest n h * d) n (λ i l. row_length i) i ((j - suc i) * d + a) (omega arith) (digits_lt k m)
      ∙ row_at i (j - suc i) a k m ∙ ap (λ (x : ℕ). allowed i x a) back

  -- Where the masks are the values of g, in their places from x on, the tables are these values.
  pub triangle_from : (g : ℕ → ℕ) (x : ℕ) → ((i j a : ℕ) → i < j → j < n → a < d → allowed i j a ≡ g (x + triangle_place n d i j a))
      → triangle n d allowed ≡ seq g x (triangle_words n d)
  unfolding row triangle_place
  triangle_from g x says =
      triangle_rows ∙ each_same row (λ i. seq g (x + total i (λ h. rest n h * d)) (rest n i * d)) n one
      ∙ seq_each g x (λ h. rest n h * d) n ∙ ap (seq g x) (total_mul n (rest n) d ∙ ap (λ (x : ℕ). x * d) (rest_total n))
    where
      masks : (i : ℕ) → i < n → (k : ℕ) → k < rest n i
          → map (allowed i (suc i + k)) (below d) ≡ seq g (x + total i (λ h. rest n h * d) + total k (λ j. d)) d
      masks i l k h =
          sym (seq_is g (x + total i (λ h. rest n h * d) + total k (λ j. d)) d (map (allowed i (suc i + k)) (below d))
          (map_length (allowed i (suc i + k)) d)
          (λ a m.
          let less : suc i + k - suc i ≡ k = omega arith in
          let place : x + ((total i (rest n) + (suc i + k - suc i)) * d + a) ≡ x + total i (λ h. rest n h * d) + total k (λ j. d) + a =
          rw less (omega (arith, place_is i k a, total_const k d)) in
          ap g (sym place) ∙ sym (says i (suc i + k) a (omega arith) (omega arith) m) ∙ sym (map_at (allowed i (suc i + k)) d a 0 m)))

      one : (i : ℕ) → i < n → row i ≡ seq g (x + total i (λ h. rest n h * d)) (rest n i * d)
      one i l =
          each_same (λ k. map (allowed i (suc i + k)) (below d)) (λ k. seq g (x + total i (λ h. rest n h * d) + total k (λ j. d)) d) (rest n i)
          (masks i l)
          ∙ seq_each g (x + total i (λ h. rest n h * d)) (λ j. d) (rest n i)
          ∙ ap (seq g (x + total i (λ h. rest n h * d))) (total_const (rest n i) d)

-- In the words of the tables the masks of i with the variables after it stand together.
pub row_words : (n d : ℕ) (t : List ℕ) (i : ℕ) → row n d (table_of n d t) i ≡ seq (λ k. get_or t k 0) ((i * n + i + 1) * d) (rest n i * d)
unfolding row
row_words n d t i =
    let g : ℕ → ℕ = λ k. get_or t k 0 in
    let from : ℕ = (i * n + i + 1) * d in
    let masks : ℕ → ℕ → ℕ = λ k. table_of n d t i (suc i + k) in
    each_same (λ k. map (masks k) (below d)) (λ k. seq g (from + total k (λ j. d)) d) (rest n i)
    (λ k l. sym (seq_is g (from + total k (λ j. d)) d (map (masks k) (below d)) (map_length (masks k) d)
    (λ v m.
    let place : from + total k (λ j. d) + v ≡ (i * n + (suc i + k)) * d + v = omega (arith, total_const k d) in
    ap g place ∙ sym (word_at n d t i (suc i + k) v m) ∙ sym (map_at (masks k) d v 0 m))))
    ∙ seq_each g from (λ j. d) (rest n i) ∙ ap (seq g from) (total_const (rest n i) d)

-- A place lies within the tables.
pub place_lt : (n d i j a : ℕ) → i < j → j < n → a < d → triangle_place n d i j a < triangle_words n d
unfolding triangle_place
place_lt n d i j a h l m =
    let pair : total i (rest n) + (j - suc i) < total n (rest n) = omega (arith, total_below n (rest n) i (omega arith)) in
    rw (← rest_total n) (digits_lt pair m)

-- Tables that agree for i below j have the same words.
pub triangle_same : (n d : ℕ) (f g : Table) → ((i j a : ℕ) → i < j → j < n → a < d → f i j a ≡ g i j a) → triangle n d f ≡ triangle n d g
triangle_same n d f g h =
    triangle_from n d f (λ k. get_or (triangle n d g) k 0) 0
    (λ i j a l k m. h i j a l k m ∙ sym (triangle_at n d g i j a l k m) ∙ ap (λ (x : ℕ). get_or (triangle n d g) x 0)
    (sym (zero-add (triangle_place n d i j a))))
    ∙ seq_is (λ k. get_or (triangle n d g) k 0) 0 (triangle_words n d) (triangle n d g) (triangle_length n d g)
    (λ k l. ap (λ (x : ℕ). get_or (triangle n d g) x 0) (zero-add k))

-- ---- the tables in memory

module _ (n d : ℕ) (allowed : Table) where
  -- What load writes: zeros for a variable with itself.
  mask : ℕ → ℕ → ℕ → ℕ
  mask i j a = cond (eqb i j) 0 (allowed i j a)

  masks : ℕ → List ℕ
  masks i = each (λ j. map (mask i j) (below d)) (below n)

  masks_length : (i : ℕ) → length (masks i) ≡ n * d
  unfolding masks
  masks_length i = each_length (λ j. map (mask i j) (below d)) (λ j. d) n (λ j l. map_length (mask i j) d) ∙ total_const n d

  -- They are n × n × d words.
  pub table_length : length (table_words n d allowed) ≡ n * n * d
  unfolding table_words masks mask
  table_length = each_length masks (λ i. n * d) n (λ i l. masks_length i) ∙ total_const n (n * d) ∙ sym (mul_assoc n n d)

  -- Each mask stands in its place.
  pub table_at : (i j a : ℕ) → i < n → j < n → a < d → table_of n d (table_words n d allowed) i j a ≡ cond (eqb i j) 0 (allowed i j a)
  unfolding table_words masks mask
  table_at i j a h l m =
      let outer : (i * n + j) * d + a ≡ total i (λ k. n * d) + (total j (λ k. d) + a) =
      rw (total_const i (n * d), total_const j d, ← mul_assoc i n d) (ap (λ (x : ℕ). x + a) (add-mul (i * n) j d) ∙ add_assoc (i * n * d) (j * d) a)
      in
      word_at n d (table_words n d allowed) i j a m ∙ ap (λ (x : ℕ). get_or (each masks (below n)) x 0) outer
      ∙ each_at masks (λ k. n * d) n (λ i l. masks_length i) i (total j (λ k. d) + a) h (rw (total_const j d) (digits_lt l m))
      ∙ each_at (λ j. map (mask i j) (below d)) (λ k. d) n (λ j l. map_length (mask i j) d) j a l m
      ∙ map_at (mask i j) d a 0 m

  -- That of two different variables is what is allowed.
  pub table_other : AllowSame n d (table_of n d (table_words n d allowed)) allowed
  table_other i j a h l f m = table_at i j a h l m ∙ rw (ne_eqb i j f) refl
