-- What a file's words say, and which files deserve refusal 15.
use Rattle.std.specs.Prelude.{◌≡◌, ◌⊎◌, cond, ◌&&◌, List, map, ℕ, suc, ◌+◌, ◌-◌, ◌*◌, ◌/◌, ◌^◌, ◌≤◌, ◌<◌, get_or, eqb, leb, ltb}
use Rattle.problem.specs.Masks.{bit}
use Rattle.problem.specs.Problem.{Problem, Table}
use Rattle.problem.specs.Lists.{total, every, below}
use Rattle.search.specs.Agenda.{stack_of}
use Rattle.search.specs.Slots.{Search}
use Rattle.problem.specs.FirstChecks.{Deserves1, Deserves2, Deserves4}
use Rattle.search.specs.FirstChecks.{Deserves6}
use Rattle.problem.specs.Tests.FirstChecks.{refusal_of_numbers, refusal_of_problem}
use Rattle.search.specs.Tests.FirstChecks.{refusal_of_search}
use Rattle.blocks.specs.Blocks.{blocks_for}
use Rattle.blocks.specs.Reading.{blocks_in, content_word, content_from}
use Rattle.blocks.specs.Lists.{each}
unfoldable pub use Rattle.blocks.specs.Tests.Whole.{refusal_of_file}

-- What the words say, in the order in which they stand.
abbrev pub said_n : List ℕ → ℕ
said_n file = content_word file 0

abbrev pub said_d : List ℕ → ℕ
said_d file = content_word file 1

abbrev pub said_steps : List ℕ → ℕ
said_steps file = content_word file 2 * 65536 + content_word file 3

abbrev pub said_checks : List ℕ → ℕ
said_checks file =
    ((content_word file 4 * 65536 + content_word file 5) * 65536 + content_word file 6) * 65536 + content_word file 7

abbrev pub said_subproblems : List ℕ → ℕ
said_subproblems file = content_word file 8

abbrev pub said_domains : List ℕ → List ℕ
said_domains file = content_from file 9 (said_n file)

-- How many words of tables a file of n variables and d values has.
abbrev pub triangle_words : ℕ → ℕ → ℕ
triangle_words n d = n * (n - 1) / 2 * d

-- The place of the mask for i below j and a in them: the pairs before (i, j), d words each, then a.
unfoldable pub triangle_place : ℕ → ℕ → ℕ → ℕ → ℕ → ℕ
triangle_place n d i j a = (total i (λ h. n - suc h) + (j - suc i)) * d + a

-- A mask put together of its digits.
unfoldable pub gathered : ℕ → (ℕ → ℕ) → ℕ
gathered d digit = total d (λ b. digit b * 2 ^ b)

-- What is allowed: for i below j as the words say; the other way round it is symmetric; nothing is said of i with itself.
unfoldable pub said_allowed : List ℕ → Table
said_allowed file i j a =
    cond (ltb i j) (mask i j a) (cond (ltb j i) (gathered (said_d file) (λ b. bit (mask j i b) a)) 0)
  where
    mask : ℕ → ℕ → ℕ → ℕ
    mask i j a = content_word file (9 + said_n file + triangle_place (said_n file) (said_d file) i j a)

-- The problem that a file says.
abbrev pub said_problem : List ℕ → Problem
said_problem file =
    record { n = said_n file; d = said_d file; domain = λ i. get_or (said_domains file) i 0; allowed = said_allowed file }

-- Where the agenda begins in a content of n variables and d values, and how many words a content has.
abbrev pub agenda_from : ℕ → ℕ → ℕ
agenda_from n d = 9 + n + triangle_words n d

abbrev pub word_count : ℕ → ℕ → ℕ → ℕ
word_count n d subproblems = agenda_from n d + subproblems * (n + 2)

-- A file's agenda's words, bottom first, and its stack.
unfoldable pub said_agenda : List ℕ → List ℕ
said_agenda file = content_from file (agenda_from (said_n file) (said_d file)) (said_subproblems file * (said_n file + 2))

abbrev pub said_search : List ℕ → Search
said_search file =
    record {
      memory = stack_of (said_n file) (said_agenda file) (said_subproblems file);
      steps = said_steps file;
      checks = said_checks file;
    }

-- How many words the content of a file is to have.
abbrev pub said_words : List ℕ → ℕ
said_words file = word_count (said_n file) (said_d file) (said_subproblems file)

-- 15: numbers out of their ranges, a number of blocks that the words do not need, a word after them that is not zero, or what 4 and 6 refuse. 5 no file
-- can deserve, as it says each pair once.
abbrev pub Deserves15 : List ℕ → Type 0
Deserves15 file =
    Deserves1 (said_n file)
    ⊎ Deserves2 (said_d file)
    ⊎ (512 < said_subproblems file)
    ⊎ (blocks_in file ≡ blocks_for (said_words file) → ⊥)
    ⊎ ((k : ℕ) × (said_words file ≤ k) × (k < blocks_in file * 253) × (content_word file k ≡ 0 → ⊥))
    ⊎ Deserves4 (said_problem file)
    ⊎ Deserves6 (said_problem file) (said_agenda file) (said_steps file) (said_checks file) (said_subproblems file)

-- The words of the tables that a problem's masks fill, zeros for a variable with itself.
unfoldable pub table_words : ℕ → ℕ → Table → List ℕ
table_words n d allowed = each (λ i. each (λ j. map (λ a. cond (eqb i j) 0 (allowed i j a)) (below d)) (below n)) (below n)

-- The test of 15, worked out: what it gives is said exactly by Load15 of Promises, so that it need not be believed. The parts of the first checks
-- are search's.
unfoldable pub refusal_of_words : List ℕ → ℕ
refusal_of_words file =
    cond (eqb (refusal_of_numbers (said_n file) (said_d file)) 0 && leb (said_subproblems file) 512
    && eqb (blocks_in file) (blocks_for (said_words file))
    && every (blocks_in file * 253 - said_words file) (λ k. eqb (content_word file (said_words file + k)) 0)
    && eqb (refusal_of_problem (said_problem file)) 0
    && eqb (refusal_of_search (said_problem file) (said_agenda file) (said_steps file) (said_checks file) (said_subproblems file)) 0) 0 15
