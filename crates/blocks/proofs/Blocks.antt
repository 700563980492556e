-- Blocks: what a file that holds a content says, word by word, and that it is whole.
-- Assumes nothing.
use mathlib.Core.Path.{◌≡◌, refl, sym, ap, ap₂, ◌∙◌}
use mathlib.Core.Bool.{true}
use mathlib.Core.List.{List, [], ◌∷◌, ◌++◌}
use Prim.Native.Nat.{ℕ, zero, suc, ◌+◌, ◌*◌, ◌/◌, ◌%◌, ◌≤◌, ◌<◌}
use native.Mathlib.Omega.{arith}
use native.Mathlib.Numerals.{add-one}
use native.Mathlib.Decide.{dec_lt}
use lib.ListN.{length, get_or, take, drop, replicate, length-append, length-take, length-replicate, get_or-append, get_or-eq_default}
use lib.Seq.{get_or-take, get_or-drop, get_or_at, ext_get_or}
use borrow.Author.Tests.{eq-eqb, le-leb}
use Rattle.problem.specs.Lists.{total, every, below}
use Rattle.problem.proofs.Tests.{every_all}
use Rattle.problem.proofs.Copies.{append_small}
use Rattle.blocks.specs.Blocks.{file_bytes, word_at, check_of, blocks_for, content_of_block, headed_block, block_words, first_blocks, file_of}
use Rattle.blocks.specs.Lists.{each}
use Rattle.blocks.specs.Reading.{blocks_in, block_word, head_of, content_word}
use Rattle.blocks.specs.Tests.Whole.{good_block, refusal_of_file}
use Rattle.blocks.proofs.Lists.{total_const, each_more, each_none, each_length, each_at, map_is, padded_at}
use Rattle.blocks.proofs.Words.{bytes_length, bytes_append, word_read, bytes_small}
use Rattle.blocks.proofs.checksum.Sums.{check_word}

-- ---- one block

-- The words of content are 253, those of the content and then zeros.
filled_length : (m : ℕ) (l : List ℕ) → length (take m (l ++ replicate m 0)) ≡ m
filled_length m l = simp (length-take, length-append, length-replicate) (omega arith)

filled_at : (m : ℕ) (l : List ℕ) (r : ℕ) → r < m → get_or (take m (l ++ replicate m 0)) r 0 ≡ get_or l r 0
filled_at m l r h = get_or-take m (l ++ replicate m 0) r 0 h ∙ padded_at l m r

-- A block has 253 words of content.
pub content_length : (c : List ℕ) (k : ℕ) → length (content_of_block c k) ≡ 253
unfolding content_of_block
content_length c k = filled_length 253 (drop (k * 253) c)

-- They are the content, and zeros after it.
pub content_at : (c : List ℕ) (k r : ℕ) → r < 253 → get_or (content_of_block c k) r 0 ≡ get_or c (k * 253 + r) 0
unfolding content_of_block
content_at c k r h = filled_at 253 (drop (k * 253) c) r h ∙ get_or-drop (k * 253) c r 0

-- With its number and the count 255 words.
pub headed_length : (blocks : ℕ) (c : List ℕ) (k : ℕ) → length (headed_block blocks c k) ≡ 255
unfolding headed_block
headed_length blocks c k = omega (arith, content_length c k)

-- With the check 256 words.
pub block_length : (blocks : ℕ) (c : List ℕ) (k : ℕ) → length (block_words blocks c k) ≡ 256
unfolding block_words
block_length blocks c k = length-append (headed_block blocks c k) (check_of (headed_block blocks c k) ∷ []) ∙ omega (arith, headed_length blocks c k)

-- Before the check stand the headed words, of which the first two are the block's number and the number of blocks.
pub block_headed : (blocks : ℕ) (c : List ℕ) (k r : ℕ) → r < 255 → get_or (block_words blocks c k) r 0 ≡ get_or (headed_block blocks c k) r 0
unfolding block_words
block_headed blocks c k r h =
    get_or-append (headed_block blocks c k) (check_of (headed_block blocks c k) ∷ []) 0 r (omega (arith, headed_length blocks c k))

-- After two words stands the content.
pub block_content : (blocks : ℕ) (c : List ℕ) (k r : ℕ) → r < 253 → get_or (block_words blocks c k) (2 + r) 0 ≡ get_or c (k * 253 + r) 0
block_content blocks c k r h =
    let at : 2 + r ≡ suc (suc r) = omega arith in
    block_headed blocks c k (2 + r) (omega arith) ∙ ap (λ (j : ℕ). get_or (headed_block blocks c k) j 0) at ∙ unfold headed_block in content_at c k r h

-- The last word is the check.
pub block_check : (blocks : ℕ) (c : List ℕ) (k : ℕ) → get_or (block_words blocks c k) 255 0 ≡ check_of (headed_block blocks c k)
unfolding block_words
block_check blocks c k = get_or_at (headed_block blocks c k) (check_of (headed_block blocks c k)) [] 0 255 (headed_length blocks c k)

-- ---- blocks one after the other

-- The blocks are the bytes of their words.
pub blocks_words : (m blocks : ℕ) (c : List ℕ) → first_blocks m blocks c ≡ file_bytes (each (block_words blocks c) (below m))
unfolding first_blocks file_bytes
blocks_words zero blocks c = sym (ap file_bytes (each_none (block_words blocks c)))
blocks_words (suc m) blocks c =
    ap (λ (l : List ℕ). l ++ file_bytes (block_words blocks c m)) (blocks_words m blocks c)
    ∙ sym (ap file_bytes (each_more (block_words blocks c) m) ∙ bytes_append (each (block_words blocks c) (below m)) (block_words blocks c m))

-- A block is 512 bytes.
pub blocks_length : (m blocks : ℕ) (c : List ℕ) → length (first_blocks m blocks c) ≡ 512 * m
blocks_length m blocks c =
    ap length (blocks_words m blocks c) ∙ bytes_length (each (block_words blocks c) (below m))
    ∙ omega (arith, each_length (block_words blocks c) (λ i. 256) m (λ i l. block_length blocks c i), total_const m 256)

-- Word k of block b is word k of its words.
pub blocks_at : (m blocks : ℕ) (c : List ℕ) (b k : ℕ) → b < m → k < 256
    → word_at (first_blocks m blocks c) (256 * b + k) ≡ get_or (block_words blocks c b) k 0
blocks_at m blocks c b k h l =
    let at : 256 * b + k ≡ total b (λ i. 256) + k = omega (arith, total_const b 256) in
    ap₂ (λ (f : List ℕ) (j : ℕ). word_at f j) (blocks_words m blocks c) at ∙ word_read (each (block_words blocks c) (below m)) (total b (λ i. 256) + k)
    ∙ each_at (block_words blocks c) (λ i. 256) m (λ i q. block_length blocks c i) b k h l

-- ---- the file that holds a content

module _ (c : List ℕ) where
  -- How many blocks there are.
  abbrev pub blocks : ℕ
  blocks = blocks_for (length c)

  -- The file is so many blocks of 512 bytes.
  pub file_length : length (file_of c) ≡ 512 * blocks
  unfolding file_of
  file_length = blocks_length blocks blocks c

  -- And that many are counted in it.
  pub file_blocks : blocks_in (file_of c) ≡ blocks
  file_blocks = rw file_length (omega arith)

  -- Word k of block b.
  pub file_word : (b k : ℕ) → b < blocks → k < 256 → block_word (file_of c) b k ≡ get_or (block_words blocks c b) k 0
  unfolding block_word file_of
  file_word b k h l = blocks_at blocks blocks c b k h l

  -- Its content is the content, and zeros after it.
  pub file_content : (k : ℕ) → k < blocks * 253 → content_word (file_of c) k ≡ get_or c k 0
  unfolding content_word
  file_content k h =
      let at : k / 253 * 253 + k % 253 ≡ k = omega arith in
      file_word (k / 253) (2 + k % 253) (omega arith) (omega arith) ∙ block_content blocks c (k / 253) (k % 253) (omega arith)
      ∙ ap (λ (j : ℕ). get_or c j 0) at

  -- The 255 words before a check.
  pub file_head : (b : ℕ) → b < blocks → head_of (file_of c) b ≡ headed_block blocks c b
  unfolding head_of
  file_head b h =
      map_is (block_word (file_of c) b) 255 (headed_block blocks c b) (headed_length blocks c b)
      (λ k l. file_word b k h (omega arith) ∙ block_headed blocks c b k l)

  file_good : (b : ℕ) → b < blocks → good_block (file_of c) b ≡ true
  unfolding good_block headed_block
  file_good b h =
      let number : block_word (file_of c) b 0 ≡ b + 1 = file_word b 0 h (omega arith) ∙ block_headed blocks c b 0 (omega arith) ∙ sym (add-one b) in
      let count : block_word (file_of c) b 1 ≡ blocks_in (file_of c) =
      file_word b 1 h (omega arith) ∙ block_headed blocks c b 1 (omega arith) ∙ sym file_blocks in
      let check : block_word (file_of c) b 255 ≡ check_of (head_of (file_of c) b) =
      file_word b 255 h (omega arith) ∙ block_check blocks c b ∙ ap check_of (sym (file_head b h)) in
      rw (eq-eqb (block_word (file_of c) b 0) (b + 1) number, eq-eqb (block_word (file_of c) b 1) (blocks_in (file_of c)) count)
      (eq-eqb (block_word (file_of c) b 255) (check_of (head_of (file_of c) b)) check)

  -- It is whole.
  pub file_passes : 1 ≤ blocks → blocks ≤ 101 → refusal_of_file (file_of c) ≡ 0
  unfolding refusal_of_file
  file_passes some few =
      let whole : length (file_of c) ≡ blocks_in (file_of c) * 512 = omega (arith, file_blocks, file_length) in
      let good : every (blocks_in (file_of c)) (good_block (file_of c)) ≡ true =
      every_all (good_block (file_of c)) (blocks_in (file_of c)) (λ b l. file_good b (omega (arith, file_blocks))) in
      rw (
        eq-eqb (length (file_of c)) (blocks_in (file_of c) * 512) whole,
        le-leb 1 (blocks_in (file_of c)) (omega (arith, file_blocks)),
        le-leb (blocks_in (file_of c)) 101 (omega (arith, file_blocks)),
        good,
      )

-- ---- its bytes

small_one : (x : ℕ) → x < 65536 → (k : ℕ) → get_or (x ∷ []) k 0 < 65536
small_one x h zero = h
small_one x h (suc k) = omega arith

content_small : (c : List ℕ) (b : ℕ) → ((k : ℕ) → get_or c k 0 < 65536) → (r : ℕ) → get_or (content_of_block c b) r 0 < 65536
content_small c b h r = elim (dec_lt r 253) [
  | yes l ↦ rw (content_at c b r l) (h (b * 253 + r))
  | no l ↦ rw (get_or-eq_default (content_of_block c b) 0 {n = r} (omega (arith, content_length c b))) (omega arith)
]

headed_small : (blocks : ℕ) (c : List ℕ) (b : ℕ) → b < 101 → blocks ≤ 101 → ((k : ℕ) → get_or c k 0 < 65536) → (r : ℕ)
    → get_or (headed_block blocks c b) r 0 < 65536
unfolding headed_block
headed_small blocks c b l m h zero = omega arith
headed_small blocks c b l m h (suc zero) = omega arith
headed_small blocks c b l m h (suc (suc r)) = content_small c b h r

-- The bytes of blocks of words are bytes.
pub blocks_small : (m blocks : ℕ) (c : List ℕ) → m ≤ 101 → blocks ≤ 101 → ((k : ℕ) → get_or c k 0 < 65536) → (i : ℕ)
    → get_or (first_blocks m blocks c) i 0 < 256
unfolding first_blocks block_words
blocks_small zero blocks c l few h i = omega arith
blocks_small (suc m) blocks c l few h i =
    append_small 256 (first_blocks m blocks c) (file_bytes (block_words blocks c m)) (blocks_small m blocks c (omega arith) few h)
    (bytes_small (block_words blocks c m)
    (append_small 65536 (headed_block blocks c m) (check_of (headed_block blocks c m) ∷ []) (headed_small blocks c m (omega arith) few h)
    (small_one (check_of (headed_block blocks c m)) (check_word (headed_block blocks c m))))) i

-- So are those of the file.
pub file_small : (c : List ℕ) → blocks_for (length c) ≤ 101 → ((k : ℕ) → get_or c k 0 < 65536) → (i : ℕ) → get_or (file_of c) i 0 < 256
unfolding file_of
file_small c few h = blocks_small (blocks_for (length c)) (blocks_for (length c)) c few few h

-- ---- zeros after a content

module _ (c : List ℕ) (z : ℕ) where
  -- They add nothing to a block's content.
  content_same : (b : ℕ) → content_of_block (c ++ replicate z 0) b ≡ content_of_block c b
  content_same b =
      ext_get_or 0 (content_of_block (c ++ replicate z 0) b) (content_of_block c b) (content_length (c ++ replicate z 0) b ∙ sym (content_length c b))
      (λ k l.
      let few : k < 253 = omega (arith, content_length (c ++ replicate z 0) b) in
      content_at (c ++ replicate z 0) b k few ∙ padded_at c z (b * 253 + k) ∙ sym (content_at c b k few))

  -- So the blocks are those of the content.
  first_same : (m blocks : ℕ) → first_blocks m blocks (c ++ replicate z 0) ≡ first_blocks m blocks c
  unfolding first_blocks block_words headed_block
  first_same zero blocks = refl
  first_same (suc m) blocks = rw (first_same m blocks, content_same m) refl

  -- A content with zeros that need no block more is in the same file.
  pub same_file : blocks_for (length c + z) ≡ blocks_for (length c) → file_of (c ++ replicate z 0) ≡ file_of c
  unfolding file_of
  same_file e =
      let long : length (c ++ replicate z 0) ≡ length c + z = length-append c (replicate z 0) ∙ ap (λ (k : ℕ). length c + k) (length-replicate z 0) in
      rw (long, e) (first_same (blocks_for (length c)) (blocks_for (length c)))
