-- The words of a file as the code reads them, and the check that it works out.
-- Assumes nothing.
use mathlib.Core.Path.{◌≡◌, refl, sym, ap, ap₂, ◌∙◌}
use mathlib.Core.List.{List, ◌++◌, map}
use Prim.Native.Nat.{ℕ, min, ◌+◌, ◌-◌, ◌*◌, ◌/◌, ◌%◌, ◌≤◌, ◌<◌}
use native.Mathlib.Omega.{arith}
use native.Mathlib.Nat.{zero-add, min-le_left, le-min}
use native.Mathlib.Decide.{dec_lt}
use lib.ListN.{length, get_or, take, drop, replicate, length-take, length-drop, length-replicate, get_or-append, get_or-eq_default}
use lib.Seq.{length-take-le, get_or-take, get_or-drop, get_or-append_right}
use Rattle.std.proofs.lemmas.List.{get_or-replicate}
use Rattle.problem.specs.Lists.{total, below}
use Rattle.blocks.specs.Blocks.{word_at, check_of}
use Rattle.blocks.specs.Reading.{block_word, head_of, content_word, content_from}
use Rattle.blocks.specs.Loops.Read.{value_at, block_of}
use Rattle.blocks.proofs.Lists.{map_at, map_is, map_length, map_same, total_same}
use Rattle.blocks.proofs.checksum.Sums.{total_is}
use Rattle.blocks.proofs.Contents.{block_word_small}

-- A value that was read.
pub value_of : (bytes : List ℕ) (i x : ℕ) → x ≡ get_or bytes i 0 → x ≡ value_at bytes i
unfolding value_at
value_of bytes i x e = e

-- A word of two bytes; past the end it is 0.
pub word_made : (file : List ℕ) (k high low : ℕ) → high ≡ get_or file (2 * k) 0 → low ≡ get_or file (2 * k + 1) 0 → high * 256 + low ≡ word_at file k
unfolding word_at
word_made file k high low e h = rw (e, h) refl

-- Past the end a word is 0.
pub word_past : (file : List ℕ) (k : ℕ) → length file ≤ k → 0 ≡ word_at file k
unfolding word_at
word_past file k h =
    let high : length file ≤ 2 * k = omega arith in
    let low : length file ≤ 2 * k + 1 = omega arith in
    rw (get_or-eq_default file 0 high, get_or-eq_default file 0 low) refl

-- A word of one block.
pub word_here : (block : List ℕ) (k w : ℕ) → w ≡ word_at block k → w ≡ block_word block 0 k
unfolding block_word
word_here block k w e = e ∙ ap (word_at block) (sym (zero-add k))

pub word_in : (block : List ℕ) (k high low : ℕ) → high ≡ get_or block (2 * k) 0 → low ≡ get_or block (2 * k + 1) 0 → high * 256 + low ≡ block_word block 0 k
word_in block k high low e h = word_here block k (high * 256 + low) (word_made block k high low e h)

-- Word k of a block's content.
pub content_in : (block : List ℕ) (k x : ℕ) → k < 253 → x ≡ block_word block 0 (2 + k) → x ≡ content_word block (0 + k)
unfolding content_word
content_in block k x h e =
    let div : (0 + k) / 253 ≡ 0 = omega arith in
    let at : 2 + (0 + k) % 253 ≡ 2 + k = omega arith in
    e ∙ rw (div, at) refl

-- The words of a block's content, cut out of all.
pub content_cut : (block words : List ℕ) → words ≡ map (block_word block 0) (below 256) → take (255 - 2) (drop 2 words) ≡ content_from block 0 253
unfolding content_from
content_cut block words e =
    let all : List ℕ = map (block_word block 0) (below 256) in
    let long : length (take (255 - 2) (drop 2 all)) ≡ 253 = simp (length-take, length-drop) (omega (arith, map_length (block_word block 0) 256)) in
    rw e (sym (map_is (λ k. content_word block (0 + k)) 253 (take (255 - 2) (drop 2 all)) long
    (λ k h. sym (content_in block k (get_or (take (255 - 2) (drop 2 all)) k 0) h
    (get_or-take (255 - 2) (drop 2 all) k 0 h ∙ get_or-drop 2 all k 0 ∙ map_at (block_word block 0) 256 (2 + k) 0 (omega arith))))))

-- The sum of no words.
pub total_none : (f : ℕ → ℕ) → 0 ≡ total 0 f
unfolding total
total_none f = refl

-- The sum of all.
pub total_end : (f : ℕ → ℕ) (k n s : ℕ) → s ≡ total k f → k ≡ n → s ≡ total n f
total_end f k n s e h = e ∙ ap (λ (x : ℕ). total x f) h

-- The sum of the words that were read.
pub sum_read : (block words : List ℕ) (t : ℕ) → words ≡ map (block_word block 0) (below 256) → t ≡ total 255 (value_at words)
    → t ≡ total 255 (block_word block 0)
unfolding value_at
sum_read block words t e h =
    h ∙ total_same 255 (λ k. get_or words k 0) (block_word block 0)
    (λ k l. ap (λ (x : List ℕ). get_or x k 0) e ∙ map_at (block_word block 0) 256 k 0 (omega arith))

-- The sum folded twice, taken from 65535, is the check.
pub check_made : (file : List ℕ) (b t y z : ℕ) → ((i : ℕ) → get_or file i 0 < 256) → t ≡ total 255 (block_word file b) → y ≡ t % 65536 + t / 65536
    → z ≡ y % 65536 + y / 65536 → 65535 - z ≡ check_of (head_of file b)
unfolding check_of head_of
check_made file b t y z s e f g =
    ap (λ (x : ℕ). 65535 - x) (total_is (block_word file b) 255 t y z (block_word_small file s b) (omega arith) e f g)

-- Zeros in the place of bytes that are not there make no other words.
whole_at : (block : List ℕ) (i : ℕ) → i < 512
    → get_or (take (min (length block) 512) block ++ replicate (512 - min (length block) 512) 0) i 0 ≡ get_or block i 0
whole_at block i h =
    let count : ℕ = min (length block) 512 in
    let few : count ≤ length block = min-le_left (length block) 512 in
    let long : length (take count block) ≡ count = length-take-le count block few in
    elim (dec_lt i count) [
      | yes l ↦
          let at : i < length (take count block) = rw long l in
          get_or-append (take count block) (replicate (512 - count) 0) 0 i at ∙ get_or-take count block i 0 l
      | no f ↦
          let past : length block ≤ i = past_all (length block) i h f in
          let at : length (take count block) ≤ i = rw long (omega arith) in
          get_or-append_right (take count block) (replicate (512 - count) 0) i 0 at ∙ zeros_at (512 - count) (i - length (take count block))
          ∙ sym (get_or-eq_default block 0 past)
    ]
  where
    past_all : (n i : ℕ) → i < 512 → (i < min n 512 → ⊥) → n ≤ i
    past_all n i h f = elim (dec_lt i n) [
      | yes l ↦ absurd (f (le-min l h))
      | no g ↦ omega arith
    ]

    zeros_at : (n i : ℕ) → ◌≡◌ {A = ℕ} (get_or (replicate n 0) i 0) 0
    zeros_at n i = elim (dec_lt i n) [
      | yes l ↦ get_or-replicate n i 0 0 l
      | no g ↦ get_or-eq_default (replicate n 0) 0 (rw (length-replicate {A = ℕ} n 0) (omega arith))
    ]

pub whole_head : (block whole : List ℕ) → whole ≡ take (min (length block) 512) block ++ replicate (512 - min (length block) 512) 0
    → head_of whole 0 ≡ head_of block 0
unfolding head_of block_word word_at
whole_head block whole e =
    rw e (map_same _ _ 255 (λ k l.
    ap₂ (λ (h : ℕ) (l : ℕ). h * 256 + l) (whole_at block (2 * (256 * 0 + k)) (omega arith)) (whole_at block (2 * (256 * 0 + k) + 1) (omega arith))))

-- ---- blocks that are cut out

-- A block that was lent.
pub block_cut : (file out : List ℕ) (b : ℕ) → out ≡ take ((b * 512 + 512) - b * 512) (drop (b * 512) file) → out ≡ block_of file b
unfolding block_of
block_cut file out b e = e
