-- What the code reads of a file, level by level as its loops take it.
use Rattle.std.specs.Prelude.{◌≡◌, Bool, true, cond, ◌&&◌, List, ◌++◌, map, ℕ, ◌+◌, ◌-◌, ◌*◌, ◌≤◌, length, get_or, take, drop, replicate, eqb, leb, ltb}
use Rattle.problem.specs.Masks.{bit}
use Rattle.problem.specs.Problem.{Table}
use Rattle.problem.specs.Lists.{every, below}
use Rattle.problem.specs.Tests.FirstChecks.{refusal_of_numbers}
use Rattle.blocks.specs.Blocks.{blocks_for}
use Rattle.blocks.specs.Lists.{each}
use Rattle.blocks.specs.Reading.{blocks_in, content_word, Bytes}
use Rattle.files.specs.Reading.{said_n, said_d, said_subproblems, said_allowed, agenda_from, said_words, triangle_place, gathered, table_words}
use Rattle.blocks.specs.Tests.Whole.{refusal_of_file}
use Rattle.files.specs.Calls.{HeaderOf}
use Rattle.search.specs.declared.state.State.{State}
use Rattle.files.specs.declared.saved.Header.{Header}
use Rattle.files.specs.Outcomes.{Loaded}

-- n and d are in their ranges.
pub record Numbers (n d : ℕ) : Type 0 where
  pub some_variable : 1 ≤ n
  pub variables : n ≤ 32
  pub some_value : 1 ≤ d
  pub values : d ≤ 16

-- 15: the numbers; zeros after the words.
unfoldable pub numbers_in : ℕ → ℕ → ℕ → Bool
numbers_in n d subproblems = eqb (refusal_of_numbers n d) 0 && leb subproblems 512

unfoldable pub zero_in : List ℕ → ℕ → ℕ → Bool
zero_in file from k = eqb (content_word file (from + k)) 0

unfoldable pub filled : List ℕ → ℕ → Bool
filled file words = eqb (blocks_in file) (blocks_for words) && every (blocks_in file * 253 - words) (zero_in file words)

unfoldable pub sized_in : List ℕ → Bool
sized_in file = numbers_in (said_n file) (said_d file) (said_subproblems file) && filled file (said_words file)

-- The masks in the words of a content: for i below j they stand there; the other way round they are put together of these digits; zeros of i with
-- itself.
unfoldable pub mask_in : List ℕ → ℕ → ℕ → Table
mask_in words n d i j a = get_or words (9 + n + triangle_place n d i j a) 0

unfoldable pub allowed_in : List ℕ → ℕ → ℕ → Table
allowed_in words n d i j a =
    cond (ltb i j) (mask_in words n d i j a) (cond (ltb j i) (gathered d (λ b. bit (mask_in words n d j i b) a)) 0)

-- Digit b of column a of rows of digits, and the first a columns.
unfoldable pub column_of : List ℕ → ℕ → ℕ → ℕ
column_of rows a b = bit (get_or rows b 0) a

unfoldable pub column_part : List ℕ → ℕ → List ℕ
column_part rows a = map (λ c. gathered (length rows) (column_of rows c)) (below a)

-- The first a masks of two variables; the first j pairs of i, and those from i with itself on; the first i rows.
unfoldable pub pair_part : List ℕ → ℕ → ℕ → ℕ → ℕ → ℕ → List ℕ
pair_part words n d i j a = map (allowed_in words n d i j) (below a)

unfoldable pub row_part : List ℕ → ℕ → ℕ → ℕ → ℕ → List ℕ
row_part words n d i j = each (λ k. pair_part words n d i k d) (below j)

unfoldable pub after_part : List ℕ → ℕ → ℕ → ℕ → List ℕ
after_part words n d i = each (λ k. pair_part words n d i (i + k) d) (below (n - i))

unfoldable pub table_part : List ℕ → ℕ → ℕ → ℕ → List ℕ
table_part words n d i = each (λ k. row_part words n d k n) (below i)

-- So many words of a list from one on; the slots of so many subproblems in the words of a content, and zeros after them, so many in all.
unfoldable pub part_in : List ℕ → ℕ → ℕ → List ℕ
part_in words from w = take ((from + w) - from) (drop from words)

unfoldable pub slots_part : List ℕ → ℕ → ℕ → ℕ → ℕ → List ℕ
slots_part words n d subproblems all =
    part_in words (agenda_from n d) (subproblems * (n + 2)) ++ replicate (all - subproblems * (n + 2)) 0

-- What the first words of a file say, put together.
abbrev pub said_header : ℕ → ℕ → State → Header
said_header n d state = record { n = n; d = d; state = state }

-- A file that passed 14, whose numbers and number of words fit, what its first words say, and the words of its content.
pub record Read (file words : List ℕ) (h : Header) : Type 0 where
  pub header : HeaderOf file h
  pub whole : refusal_of_file file ≡ 0
  pub sized : sized_in file ≡ true
  pub bytes : Bytes file
  pub long : length words ≡ 25553
  pub says : (k : ℕ) → get_or words k 0 ≡ content_word file k

-- Its tables.
abbrev pub Made : List ℕ → List ℕ → Type 0
Made file tables = tables ≡ table_words (said_n file) (said_d file) (said_allowed file)

-- Memory that takes a search of m subproblems.
pub record Lent (n m : ℕ) (masks domains tables agenda : List ℕ) : Type 0 where
  pub few : m ≤ 512
  pub domains_words : length domains ≡ n
  pub tables_words : length masks ≡ length tables
  pub agenda_words : m * (n + 2) ≤ length agenda

-- A refusal, and zeros.
pub record Refused (refusal : ℕ) (r : Loaded) : Type 0 where
  pub its : r.refusal ≡ refusal
  pub its_n : r.n ≡ 0
  pub its_d : r.d ≡ 0
  pub steps : r.state.counts.steps.0 ≡ 0
  pub checks : r.state.counts.checks.0 ≡ 0
  pub subproblems : r.state.subproblems ≡ 0

-- What the first words of a file say, and no refusal.
pub record Accepted (h : Header) (r : Loaded) : Type 0 where
  pub its : r.refusal ≡ 0
  pub its_n : r.n ≡ h.n
  pub its_d : r.d ≡ h.d
  pub its_state : r.state ≡ h.state
