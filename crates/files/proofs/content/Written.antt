-- The words that save writes, by their places: those of the content, of a block, of the blocks.
-- Assumes nothing.
use mathlib.Core.Path.{◌≡◌, refl, sym, ap, ◌∙◌}
use mathlib.Core.List.{List, ◌++◌}
use mir.Syntax.{w64}
use mir.Val.{Fits}
use Prim.Native.Nat.{ℕ, ◌+◌, ◌-◌, ◌*◌, ◌^◌, ◌≤◌, ◌<◌}
use native.Mathlib.Omega.{arith}
use native.Mathlib.Nat.{mul-le-mul, mul-le-mul_right, mul_assoc, add-mul}
use native.Mathlib.Numerals.{add-one}
use lib.ListN.{length, get_or, take, drop, replicate, length-append}
use lib.Seq.{length-take-le}
use Rattle.problem.specs.Lists.{total, below, splice}
use Rattle.problem.specs.Problem.{table_of}
use Rattle.search.specs.declared.state.State.{State}
use Rattle.problem.proofs.Copies.{splice_splice}
use Rattle.search.proofs.Encoding.{stack_of_words, length_stack_of}
use Rattle.blocks.specs.Lists.{each}
use Rattle.files.specs.Content.{triangle, content_of}
use Rattle.files.specs.Reading.{triangle_words, word_count}
use Rattle.files.specs.Loops.Said.{Numbers, part_in}
use Rattle.files.specs.Calls.{handed_content}
use Rattle.files.specs.Loops.Saved.{Savable, header}
use Rattle.blocks.proofs.Lists.{each_length, total_below, seq, seq_is}
use Rattle.files.proofs.Triangle.{rest, rest_total, total_mul, row, row_length, row_words, triangle_rows, triangle_length}
use Rattle.files.proofs.filling.Mirrors.{triangle_few, slots_few, part_at, part_long}
use Rattle.files.proofs.filling.Filled.{zeros_long, front_of_zeros, Passed, passed_more, tables_few}

-- ---- the words of the tables

-- How many words the rows before i have.
abbrev pub before : ℕ → ℕ → ℕ → ℕ
before n d i = total i (λ h. rest n h * d)

module _ (n d : ℕ) where
  -- All have as many as the tables.
  pub before_all : before n d n ≡ triangle_words n d
  before_all = total_mul n (rest n) d ∙ ap (λ (x : ℕ). x * d) (rest_total n)

  -- Row i lies within the tables, in the words to write and in those to read.
  before_within : (i : ℕ) → i < n → before n d i + (n - (i + 1)) * d ≤ triangle_words n d
  before_within i h = rw (add-one, ← before_all) (total_below n (λ h. rest n h * d) i h)

  from_within : (i : ℕ) → i < n → (i * n + i + 1) * d + (n - (i + 1)) * d ≤ n * n * d
  from_within i h = let up : (i + 1) * (n * d) ≤ n * (n * d) = mul-le-mul_right (n * d) (omega arith) in omega (arith, from_whole i h)
    where
      from_whole : (i : ℕ) → i < n → (i * n + i + 1) * d + (n - (i + 1)) * d ≡ (i + 1) * (n * d)
      from_whole i h =
          let sum : i * n + i + 1 + (n - (i + 1)) ≡ (i + 1) * n = omega arith in
          sym (add-mul (i * n + i + 1) (n - (i + 1)) d) ∙ ap (λ (x : ℕ). x * d) sum ∙ mul_assoc (i + 1) n d

  -- What is worked out to find it in the tables fits, and it is a part of them.
  pub record RowIn (i words : ℕ) : Type 0 where
    pub square : Fits w64 (i * n)
    pub own : Fits w64 (i * n + i)
    pub next : Fits w64 (i * n + i + 1)
    pub row : Fits w64 ((n - (i + 1)) * d)
    pub start : Fits w64 ((i * n + i + 1) * d)
    pub within : (i * n + i + 1) * d + (n - (i + 1)) * d ≤ words

  pub row_in : (i words : ℕ) → Numbers n d → (words ≡ n * n * d) × (i < n) → RowIn i words
  row_in i words s (e, h) =
      let few = s.variables in
      let less : i ≤ 32 = omega arith in
      let more : n - (i + 1) ≤ 32 = omega arith in
      let square : i * n ≤ 32 * 32 = mul-le-mul less few in
      let row : (n - (i + 1)) * d ≤ 32 * 16 = mul-le-mul more s.values in
      let all : (i * n + i + 1) * d + (n - (i + 1)) * d ≤ words = rw e (from_within i h) in
      record {
        square = omega arith;
        own = omega arith;
        next = omega arith;
        row = omega arith;
        start = omega (arith, (tables_few n d s).1);
        within = all;
      }

module _ (n d : ℕ) (t : List ℕ) where
  -- The rows passed.
  abbrev rows : ℕ → List ℕ
  rows i = each (row n d (table_of n d t)) (below i)

  rows_length : (i : ℕ) → length (rows i) ≡ before n d i
  rows_length i = each_length (row n d (table_of n d t)) (λ h. rest n h * d) i (λ h l. row_length n d (table_of n d t) h)

  -- The words read are the row.
  row_read : length t ≡ n * n * d → (i : ℕ) (ys : List ℕ) → i < n → ys ≡ part_in t ((i * n + i + 1) * d) ((n - (i + 1)) * d)
      → ys ≡ row n d (table_of n d t) i
  unfolding part_in
  row_read long i ys h e =
      let from : ℕ = (i * n + i + 1) * d in
      let w : ℕ = (n - (i + 1)) * d in
      let same : w ≡ rest n i * d = rw add-one refl in
      e ∙ sym
      (seq_is (λ k. get_or t k 0) from w (take ((from + w) - from) (drop from t)) (part_long t from w (rw long (from_within n d i h)))
      (λ k l. sym (part_at t from w k l)))
      ∙ ap (seq (λ k. get_or t k 0) from) same ∙ sym (row_words n d t i)

  module _ (long : length t ≡ n * n * d) (l m : List ℕ) (at i end : ℕ) (room : at + triangle_words n d ≤ length l) (inv : Passed (row n d (table_of n d t)) l at m i end) where
    -- There is room for the next row.
    pub row_room : (w : ℕ) → i < n → w ≡ (n - (i + 1)) * d → end + w ≤ length m
    row_room w h size = omega (arith, inv.ends, inv.kept, rows_length i, before_within n d i h)

    -- One row more.
    pub rows_more : (m' ys : List ℕ) (end' : ℕ) → i < n → ys ≡ part_in t ((i * n + i + 1) * d) ((n - (i + 1)) * d)
        → m' ≡ splice m end ys → end' ≡ end + length ys → length m' ≡ length m → Passed (row n d (table_of n d t)) l at m' (i + 1) end'
    rows_more m' ys end' h y e is-end same =
        passed_more (row n d (table_of n d t)) l at m m' ys i end end' inv (omega (arith, row_room ((n - (i + 1)) * d) h refl, inv.kept))
        (row_read long i ys h y) e is-end same

    -- All rows are written.
    pub rows_end : i ≡ n → (m ≡ splice l at (triangle n d (table_of n d t))) × (end ≡ at + triangle_words n d)
    rows_end last = (
      inv.made ∙ ap (splice l at) (ap rows last ∙ sym (triangle_rows n d (table_of n d t))),
      inv.ends ∙ ap (λ (x : ℕ). at + x) (rows_length i ∙ ap (before n d) last ∙ before_all n d),
    )

-- ---- the words of the content

-- Nine words come first.
header_long : (n d : ℕ) (s : State) → length (header n d s) ≡ 9
unfolding header
header_long n d s = refl

module _ (n d : ℕ) (numbers : Numbers n d) (domains tables agenda : List ℕ) (s : State) (hands : Savable n d domains tables agenda s) where
  -- The masks for i below j, how many words the used slots are, and these.
  abbrev masks : List ℕ
  masks = triangle n d (table_of n d tables)

  abbrev used : ℕ
  used = s.subproblems * (n + 2)

  abbrev slots : List ℕ
  slots = take used agenda

  -- All four parts.
  abbrev four : List ℕ
  four = header n d s ++ domains ++ masks ++ slots

  pub used_length : length slots ≡ used
  used_length = length-take-le used agenda hands.agenda_words

  four_length : length four ≡ word_count n d s.subproblems
  four_length =
      length-append (header n d s ++ domains ++ masks) slots
      ∙ omega (
        arith,
        length-append (header n d s ++ domains) masks,
        length-append (header n d s) domains,
        header_long n d s,
        hands.domains_words,
        triangle_length n d (table_of n d tables),
        used_length,
      )

  -- They fit.
  pub few : word_count n d s.subproblems ≤ 25385
  few =
      let slots = slots_few n s.subproblems 512 numbers.variables hands.few (omega arith) in
      omega (arith, triangle_few n d numbers, slots, numbers.variables)

  module _ (small : (i : ℕ) → get_or agenda i 0 < 2 ^ 16) where
    -- The content is its four parts, one after the other.
    parts : handed_content n d domains tables agenda s ≡ four
    unfolding header content_of
    parts =
        rw (length_stack_of n agenda s.subproblems, stack_of_words n agenda s.subproblems hands.agenda_words small) refl

    -- Written one after the other where zeros stood, they are the content, and zeros after it.
    pub content_put : (l l₁ l₂ l₃ l₄ first : List ℕ) (a b c : ℕ) → l ≡ replicate 25553 0 → first ≡ header n d s
        → (l₁ ≡ splice l 0 first) × (a ≡ 0 + length first)
        → (l₂ ≡ splice l₁ a domains) × (b ≡ a + length domains) → (l₃ ≡ splice l₂ b masks) × (c ≡ b + triangle_words n d) → l₄ ≡ splice l₃ c slots
        → l₄ ≡ handed_content n d domains tables agenda s ++ replicate (25553 - word_count n d s.subproblems) 0
    content_put l l₁ l₂ l₃ l₄ first a b c z h (e₁, is-a) (e₂, is_b) (e₃, is_c) e₄ =
        let long : length l ≡ 25553 = zeros_long l 25553 z in
        let nine : length first ≡ 9 = ap length h ∙ header_long n d s in
        let size : length masks ≡ triangle_words n d = triangle_length n d (table_of n d tables) in
        let two : l₂ ≡ splice l 0 (first ++ domains) =
        e₂ ∙ rw e₁ (splice_splice l 0 first domains a (omega arith) (omega arith)) in
        let three : l₃ ≡ splice l 0 (first ++ domains ++ masks) =
        e₃ ∙ rw two
        (splice_splice l 0 (first ++ domains) masks b (omega (arith, length-append first domains)) (omega (arith, hands.domains_words, few))) in
        let all : l₄ ≡ splice l 0 (first ++ domains ++ masks ++ slots) =
        e₄ ∙ rw three (splice_splice l 0 (first ++ domains ++ masks) slots c
        (omega (arith, length-append first domains, length-append (first ++ domains) masks)) (omega (arith, hands.domains_words, few))) in
        all ∙ rw (z, h, ← four_length, parts) (front_of_zeros four 25553)

    -- How many words they are.
    pub handed_length : length (handed_content n d domains tables agenda s) ≡ word_count n d s.subproblems
    handed_length = ap length parts ∙ four_length
