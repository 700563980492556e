-- Memory that load and save fill from the front: the words of the content, columns, rows, copies with zeros after them.
-- Assumes nothing.
use mathlib.Core.Path.{◌≡◌, refl, sym, ap, ap₂, ◌∙◌}
use mathlib.Core.List.{List, ◌++◌, map, append_assoc, append-nil}
use mir.Syntax.{w64}
use mir.Val.{Fits}
use Prim.Native.Nat.{ℕ, suc, ◌+◌, ◌-◌, ◌*◌, ◌≤◌, ◌<◌}
use native.Mathlib.Omega.{arith}
use native.Mathlib.Nat.{mul_assoc, mul-le-mul, mul-le-mul_right, zero-add, add-mul}
use native.Mathlib.Numerals.{add-one}
use native.Mathlib.Decide.{dec_lt}
use lib.ListN.{length, get_or, drop, replicate, length-append, length-replicate, replicate-append-replicate, get_or-eq_default}
use lib.Seq.{drop-length}
use borrow.Author.Tests.{le-leb}
use Rattle.problem.specs.Lists.{total, below, splice}
use Rattle.problem.proofs.Copies.{zeros_at, drop_zeros, splice_splice, splice_none}
use Rattle.blocks.specs.Lists.{each}
use Rattle.blocks.specs.Reading.{blocks_in, content_word, content_from}
use Rattle.blocks.specs.Calls.{PutContent}
use Rattle.files.specs.Reading.{triangle_place}
use Rattle.files.specs.Loops.Said.{Numbers, allowed_in, column_part, pair_part, row_part, after_part, table_part, part_in}
use Rattle.blocks.proofs.Lists.{map_length, map_at, map_is, each_more, each_same, each_split, each_one, each_length, total_const, seq, seq_is, seq_each}
use Rattle.blocks.proofs.Contents.{content_from_lem, length_from}
use Rattle.blocks.proofs.reading.Filled.{from_join, content_past}
use Rattle.files.proofs.filling.Mirrors.{part_at, pair_turned, pair_zeros, mask_at}

-- ---- zeros, and words written in their place

-- So many zeros are so many words.
pub zeros_long : (l : List ℕ) (k : ℕ) → l ≡ replicate k 0 → length l ≡ k
zeros_long l k e = ap length e ∙ length-replicate k 0

-- What is written in front of zeros has the others after it.
pub front_of_zeros : (p : List ℕ) (k : ℕ) → splice (replicate k 0) 0 p ≡ p ++ replicate (k - length p) 0
unfolding splice
front_of_zeros p k = ap (λ (x : List ℕ). p ++ x) (ap (λ (j : ℕ). drop j (replicate k 0)) (zero-add (length p)) ∙ drop_zeros k (length p))

-- All words are written anew.
splice_all : (l p : List ℕ) → length p ≡ length l → splice l 0 p ≡ p
unfolding splice
splice_all l p e = ap (λ (x : List ℕ). p ++ x) (ap (λ (k : ℕ). drop k l) (zero-add (length p) ∙ e) ∙ drop-length l) ∙ append-nil p

-- Words written from the front on, and zeros after them.
pub padded_put : (l m₁ m₂ ws : List ℕ) (end : ℕ) → length ws ≤ length l → (m₁ ≡ splice l 0 ws) × (end ≡ 0 + length ws) → length m₁ ≡ length l
    → m₂ ≡ splice m₁ end (replicate (length m₁ - end) 0) → m₂ ≡ ws ++ replicate (length l - length ws) 0
padded_put l m₁ m₂ ws end h (e₁, is-end) kept e₂ =
    let left : length m₁ - end ≡ length l - length ws = omega arith in
    let none : List ℕ = replicate (length l - length ws) 0 in
    let all : length (ws ++ none) ≡ length l = length-append ws none ∙ omega (arith, length-replicate {A = ℕ} (length l - length ws) 0) in
    e₂ ∙ ap₂ (λ (x : List ℕ) (k : ℕ). splice x end (replicate k 0)) e₁ left ∙ splice_splice l 0 ws none end (sym is-end) (omega arith) ∙ splice_all l
    (ws ++ none) all

-- ---- a part written after those before it

-- The parts f 0 to f (i - 1) are written into the words l from `at` to `end`, which are m now.
pub record Passed (f : ℕ → List ℕ) (l : List ℕ) (at : ℕ) (m : List ℕ) (i end : ℕ) : Type 0 where
  pub ends : end ≡ at + length (each f (below i))
  pub kept : length m ≡ length l
  pub made : m ≡ splice l at (each f (below i))

module _ (f : ℕ → List ℕ) (l : List ℕ) (at : ℕ) where
  -- None is written yet.
  pub passed_none : Passed f l at l 0 at
  unfolding each below
  passed_none = record { ends = omega arith; kept = refl; made = splice_none l at }

  -- One part more.
  pub passed_more : (m m' ys : List ℕ) (i end end' : ℕ) → Passed f l at m i end → end ≤ length l → ys ≡ f i → m' ≡ splice m end ys
      → end' ≡ end + length ys
      → length m' ≡ length m → Passed f l at m' (i + 1) end'
  passed_more m m' ys i end end' inv h y e is-end same =
      let next : each f (below i) ++ ys ≡ each f (below (i + 1)) = rw (y, add-one) (sym (each_more f i)) in
      record {
        ends = is-end ∙ omega (arith, inv.ends, length-append (each f (below i)) ys, ap length next);
        kept = same ∙ inv.kept;
        made = e ∙ rw inv.made (splice_splice l at (each f (below i)) ys end (sym inv.ends) h) ∙ ap (splice l at) next;
      }

-- ---- the content

-- The words read and zeros after them are the words from the first on.
content_padded : (file : List ℕ) (blocks : ℕ) → length file ≡ blocks * 512 → blocks ≤ 101
    → content_from file 0 (blocks * 253) ++ replicate (25553 - blocks * 253) 0 ≡ content_from file 0 25553
unfolding content_from
content_padded file blocks e h =
    let rest : ℕ = 25553 - blocks * 253 in
    let whole : blocks * 253 + rest ≡ 25553 = omega arith in
    let zeros : content_from file (blocks * 253) rest ≡ replicate rest 0 =
    map_is (λ k. content_word file (blocks * 253 + k)) rest (replicate rest 0) (length-replicate rest 0)
    (λ k l. content_past file (blocks * 253 + k) (omega arith) ∙ sym (zeros_at rest k)) in
    ap (λ (t : List ℕ). content_from file 0 (blocks * 253) ++ t) (sym zeros) ∙ sym (from_join file (blocks * 253) rest) ∙ ap (content_from file 0) whole

-- They say the content everywhere.
pub content_says : (file words : List ℕ) (blocks : ℕ) → length file ≡ blocks * 512 → blocks ≤ 101 → words ≡ content_from file 0 25553
    → (k : ℕ) → get_or words k 0 ≡ content_word file k
content_says file words blocks e h s k = elim (dec_lt k 25553) [
  | yes l ↦ ap (λ (t : List ℕ). get_or t k 0) s ∙ content_from_lem file 0 25553 k l ∙ ap (content_word file) (zero-add k)
  | no l ↦
      let past : length words ≤ k = omega (arith, ap length s ∙ length_from file 0 25553) in
      get_or-eq_default words 0 past ∙ sym (content_past file k (omega arith))
]

-- What is read of the blocks of a whole file into zeros.
pub content_read : (file l m : List ℕ) → l ≡ replicate 25553 0 → length file ≡ blocks_in file * 512 → blocks_in file ≤ 101 → PutContent file l m
    → m ≡ content_from file 0 25553
content_read file l m z whole few put =
    let room : blocks_in file * 253 ≤ length l = omega (arith, zeros_long l 25553 z) in
    (rw (le-leb (blocks_in file * 253) (length l) room) at put)
    ∙ ap (λ (x : List ℕ). content_from file 0 (blocks_in file * 253) ++ x) (ap (drop (blocks_in file * 253)) z ∙ drop_zeros 25553 (blocks_in file * 253))
    ∙ content_padded file (blocks_in file) whole few

-- ---- rows

-- A part of so many words lies within so many more.
pub part_within : (k n w : ℕ) → k < n → k * w + w ≤ n * w
part_within k n w h = let up : (k + 1) * w ≤ n * w = mul-le-mul_right w (omega arith) in omega arith

-- The masks of all tables are few.
pub tables_few : (n d : ℕ) → Numbers n d → (n * n ≤ 1024) × (n * n * d ≤ 16384)
tables_few n d s =
    let square : n * n ≤ 32 * 32 = mul-le-mul s.variables s.variables in
    let all : n * n * d ≤ 1024 * 16 = mul-le-mul square s.values in
    (square, all)

-- The masks of i with the variables after it stand together.
pairs_together : (words : List ℕ) (n d i p from : ℕ) → p ≡ total i (λ h. n - suc h) → from ≡ 9 + n + p * d
    → each (λ k. pair_part words n d i (i + (1 + k)) d) (below (n - suc i)) ≡ seq (λ k. get_or words k 0) from ((n - suc i) * d)
unfolding pair_part
pairs_together words n d i p from is-p is-from =
    let g : ℕ → ℕ = λ k. get_or words k 0 in
    each_same (λ k. map (allowed_in words n d i (i + (1 + k))) (below d)) (λ k. seq g (from + total k (λ j. d)) d) (n - suc i)
    (λ k l. sym (seq_is g (from + total k (λ j. d)) d (map (allowed_in words n d i (i + (1 + k))) (below d)) (map_length (allowed_in words n d i (i + (1 + k))) d)
    (λ v m. mask_at words n d i k p (from + total k (λ j. d) + v) v is-p (omega (arith, total_const k d)) ∙ sym (map_at (allowed_in words n d i (i + (1 + k))) d v 0 m))))
    ∙ seq_each g from (λ j. d) (n - suc i) ∙ ap (seq g from) (total_const (n - suc i) d)

module _ (words : List ℕ) (n d i : ℕ) where
  pair_length : (j a : ℕ) → length (pair_part words n d i j a) ≡ a
  unfolding pair_part
  pair_length j a = map_length (allowed_in words n d i j) a

  -- A row of j pairs has j × d words.
  pub row_length : (j : ℕ) → length (row_part words n d i j) ≡ j * d
  unfolding row_part
  row_length j = each_length (λ k. pair_part words n d i k d) (λ k. d) j (λ k l. pair_length k d) ∙ total_const j d

  -- One pair more in memory, which was turned.
  module _ (l m : List ℕ) (at j end : ℕ) (h : j < i) (room : at + i * d ≤ length l) (inv : Passed (λ k. pair_part words n d i k d) l at m j end) where
    pairs_ends : end ≡ at + j * d
    unfolding row_part
    pairs_ends = inv.ends ∙ ap (λ (x : ℕ). at + x) (row_length j)

    pub pair_room : end + d ≤ length m
    pair_room = omega (arith, part_within j i d h, pairs_ends, inv.kept)

    pub pairs_more : (m' rows : List ℕ) (from end' : ℕ) → from ≡ 9 + n + triangle_place n d j i 0 → rows ≡ part_in words from d → length rows ≡ d
        → m' ≡ splice m end (column_part rows (length rows)) → end' ≡ end + length rows → length m' ≡ length m
        → Passed (λ k. pair_part words n d i k d) l at m' (j + 1) end'
    pairs_more m' rows from end' is-from r size e is-end same =
        let turned : column_part rows (length rows) ≡ pair_part words n d i j d = pair_turned words n d j i from is-from rows r size h in
        let long : length (column_part rows (length rows)) ≡ d = ap length turned ∙ pair_length j d in
        passed_more (λ k. pair_part words n d i k d) l at m m' (column_part rows (length rows)) j end end' inv (omega (arith, pair_room, inv.kept))
        turned e
        (omega (arith, size, long)) same

  -- All are written.
  pub pairs_end : (l m : List ℕ) (at j end : ℕ) → Passed (λ k. pair_part words n d i k d) l at m j end → j ≡ i
      → (m ≡ splice l at (row_part words n d i i)) × (end ≡ at + i * d)
  unfolding row_part
  pairs_end l m at j end inv last = (
    inv.made ∙ ap (λ (k : ℕ). splice l at (each (λ k. pair_part words n d i k d) (below k))) last,
    inv.ends ∙ ap (λ (x : ℕ). at + x) (row_length j ∙ ap (λ (k : ℕ). k * d) last),
  )

  -- Zeros, and the masks that stand together.
  after_made : (ws : List ℕ) → i < n → ws ≡ part_in words (9 + n + total i (λ h. n - suc h) * d) ((n - (i + 1)) * d) → length ws ≡ (n - (i + 1)) * d
      → replicate d 0 ++ ws ≡ after_part words n d i
  unfolding after_part part_in
  after_made ws h e size =
      let f : ℕ → List ℕ = λ k. pair_part words n d i (i + k) d in
      let from : ℕ = 9 + n + total i (λ h. n - suc h) * d in
      let w : ℕ = (n - (i + 1)) * d in
      let one : n - i ≡ 1 + (n - suc i) = omega arith in
      let none : replicate d 0 ≡ f 0 = pair_zeros words n d i (i + 0) (omega arith) (omega arith) in
      let rest : ws ≡ each (λ k. f (1 + k)) (below (n - suc i)) =
      sym (seq_is (λ k. get_or words k 0) from w ws size (λ k l. sym (ap (λ (x : List ℕ). get_or x k 0) e ∙ part_at words from w k l)))
      ∙ ap (seq (λ k. get_or words k 0) from) (rw add-one refl) ∙ sym (pairs_together words n d i (total i (λ h. n - suc h)) from refl refl) in
      rw (none, rest) (sym (ap (λ (k : ℕ). each f (below k)) one ∙ each_split f 1 (n - suc i) ∙ rw (each_one f) refl))

  -- The row is put together of both.
  row_split : i < n → row_part words n d i i ++ after_part words n d i ≡ row_part words n d i n
  unfolding row_part after_part
  row_split h =
      let whole : n ≡ i + (n - i) = omega arith in
      sym (ap (λ (k : ℕ). each (λ k. pair_part words n d i k d) (below k)) whole ∙ each_split (λ k. pair_part words n d i k d) i (n - i))

-- ---- the tables

-- Zeros are passed over.
zeros_passed : (p : List ℕ) (k d : ℕ) → length p + d ≤ k → splice (replicate k 0) 0 p ≡ splice (replicate k 0) 0 (p ++ replicate d 0)
zeros_passed p k d h =
    front_of_zeros p k ∙ ap (λ (j : ℕ). p ++ replicate j 0) left ∙ both (k - length (p ++ replicate d 0)) ∙ sym
    (front_of_zeros (p ++ replicate d 0) k)
  where
    left : k - length p ≡ d + (k - length (p ++ replicate d 0))
    left = omega (arith, length-append p (replicate d 0), length-replicate {A = ℕ} d 0)

    both : (j : ℕ) → p ++ replicate (d + j) 0 ≡ (p ++ replicate d 0) ++ replicate j 0
    both j = ap (λ (x : List ℕ). p ++ x) (sym (replicate-append-replicate d j 0)) ∙ sym (append_assoc p (replicate d 0) (replicate j 0))

module _ (words : List ℕ) (n d : ℕ) where
  -- So many rows have so many words.
  table_length : (i : ℕ) → length (table_part words n d i) ≡ i * (n * d)
  unfolding table_part
  table_length i = each_length (λ k. row_part words n d k n) (λ k. n * d) i (λ k l. row_length words n d k n) ∙ total_const i (n * d)

  -- One row more in memory: the masks of i with those before it, nothing with itself, the rest.
  module _ (l m : List ℕ) (i end : ℕ) (z : l ≡ replicate 16384 0) (s : Numbers n d) (h : i < n) (inv : Passed (λ k. row_part words n d k n) l 0 m i end) where
    rows_ends : end ≡ i * (n * d)
    unfolding table_part
    rows_ends = inv.ends ∙ omega (arith, table_length i)

    row_width : i * d + d + (n - (i + 1)) * d ≡ n * d
    row_width =
        let sum : i + 1 + (n - (i + 1)) ≡ n = omega arith in
        let all : n * d ≡ (i + 1) * d + (n - (i + 1)) * d = sym (ap (λ (k : ℕ). k * d) sum) ∙ add-mul (i + 1) (n - (i + 1)) d in
        omega arith

    rows_few : end + n * d ≤ 16384
    rows_few = omega (arith, part_within i n (n * d) h, rows_ends, mul_assoc n n d, (tables_few n d s).1)

    long : length m ≡ 16384
    long = inv.kept ∙ zeros_long l 16384 z

    pub before_room : end + i * d ≤ length m
    before_room = omega (arith, rows_few, row_width, long)

    module _ (own : ℕ) (is-own : own ≡ end + i * d) where
      pub own_fits : Fits w64 (own + d)
      own_fits = omega (arith, rows_few, row_width)

      pub after_room : (k w : ℕ) → k ≡ length m → w ≡ (n - (i + 1)) * d → own + d + w ≤ k
      after_room k w same is-w = omega (arith, rows_few, row_width, long)

      pub rows_more : (m₁ m₂ ws : List ℕ) (end' : ℕ) → m₁ ≡ splice m end (row_part words n d i i)
          → ws ≡ part_in words (9 + n + total i (λ h. n - suc h) * d) ((n - (i + 1)) * d) → length ws ≡ (n - (i + 1)) * d
          → m₂ ≡ splice m₁ (own + d) ws → end' ≡ own + d + length ws → length m₁ ≡ length m → length m₂ ≡ length m₁
          → Passed (λ k. row_part words n d k n) l 0 m₂ (i + 1) end'
      rows_more m₁ m₂ ws end' e₁ w size e₂ is-end kept same =
          let f : ℕ → List ℕ = λ k. row_part words n d k n in
          let t : List ℕ = each f (below i) in
          let r : List ℕ = row_part words n d i i in
          let none : List ℕ = replicate d 0 in
          let front : length (t ++ r) ≡ own = length-append t r ∙ omega (arith, inv.ends, row_length words n d i i) in
          let seam : 0 + length ((t ++ r) ++ none) ≡ own + d = omega (arith, length-append (t ++ r) none, length-replicate {A = ℕ} d 0) in
          let fits : own + d ≤ 16384 = omega (arith, rows_few, row_width) in
          let first : m₁ ≡ splice l 0 (t ++ r) = e₁ ∙ rw inv.made
          (splice_splice l 0 t r end (sym inv.ends) (omega (arith, rows_few, zeros_long l 16384 z))) in
          let past : m₁ ≡ splice l 0 ((t ++ r) ++ none) = first ∙ rw z (zeros_passed (t ++ r) 16384 d (omega arith)) in
          let all : m₂ ≡ splice l 0 (((t ++ r) ++ none) ++ ws) =
          e₂ ∙ rw past (splice_splice l 0 ((t ++ r) ++ none) ws (own + d) seam (omega (arith, zeros_long l 16384 z))) in
          let row : r ++ (none ++ ws) ≡ f i = ap (λ (x : List ℕ). r ++ x) (after_made words n d i ws h w size) ∙ row_split words n d i h in
          let whole : ((t ++ r) ++ none) ++ ws ≡ each f (below (i + 1)) =
          append_assoc (t ++ r) none ws ∙ append_assoc t r (none ++ ws) ∙ ap (λ (x : List ℕ). t ++ x) row ∙ rw add-one (sym (each_more f i)) in
          record {
            ends = is-end ∙ omega (arith, ap length whole, length-append ((t ++ r) ++ none) ws);
            kept = same ∙ kept ∙ inv.kept;
            made = all ∙ ap (splice l 0) whole;
          }

  -- All are written.
  pub tables_end : (l m : List ℕ) (i end : ℕ) → Passed (λ k. row_part words n d k n) l 0 m i end → i ≡ n
      → (m ≡ splice l 0 (table_part words n d n)) × (end ≡ n * (n * d))
  unfolding table_part
  tables_end l m i end inv last = (
    inv.made ∙ ap (λ (k : ℕ). splice l 0 (each (λ k. row_part words n d k n) (below k))) last,
    inv.ends ∙ omega (arith, table_length i ∙ ap (λ (k : ℕ). k * (n * d)) last),
  )
