-- A list of requests run a part at a time.
use Rattle.std.specs.Prelude.{◌≡◌, Bool, ◌&&◌, List, ℕ, ◌+◌, ◌-◌, ◌*◌, ◌%◌, ◌≤◌, ◌<◌, eqb}
use Rattle.searches.specs.Verdicts.{number_of}
use Rattle.search.specs.Calls.{Runs}
use Rattle.search.specs.declared.state.State.{State}
use Rattle.search.specs.Outcomes.{Ran}
use Rattle.files.specs.Outcomes.{Loaded}
use Rattle.word_bytes.specs.Bytes.{words_of, bytes_of}

-- None refused and still running.
unfoldable pub goes_on : Ran → Bool
goes_on r = eqb r.refusal 0 && eqb (number_of r.verdict) 1

-- So many bytes are whole requests of n variables, two bytes a word.
abbrev pub WholeAt : ℕ → ℕ → Type 0
WholeAt n bytes = (k : ℕ) × (bytes ≡ k * (2 * (n + 3)))

-- A list of them, n in its range.
pub record Listed (n bytes : ℕ) : Type 0 where
  pub few : n ≤ 32
  pub requests : ℕ
  pub whole : bytes ≡ requests * (2 * (n + 3))

-- The same as a test.
abbrev pub WholeList : ℕ → ℕ → Type 0
WholeList n bytes = (n ≤ 32) × (bytes % (2 * (n + 3)) ≡ 0)

-- A part of a list, from `at` to `end`: whole requests, 14,000 bytes at most (200 of 32 variables), and some unless the
-- list ends there.
pub record Part (n at bytes end : ℕ) : Type 0 where
  pub after : at ≤ end
  pub within : end ≤ bytes
  pub short : end - at ≤ 14000
  pub more : (end ≡ bytes → ⊥) → at < end
  pub whole : WholeAt n (end - at)
  pub place : WholeAt n end
  pub rest : WholeAt n (bytes - end)

-- A run at words of the problem, and at the words that the bytes of agenda and requests say.
pub record RunsAt (n d : ℕ) (domains tables before after requests : List ℕ) (s : State) (r : Ran) : Type 0 where
  pub left : List ℕ
  pub runs : Runs n d domains tables (words_of before) left (words_of requests) s r
  pub said : after ≡ bytes_of left

-- What fits numbers of 32 bits.
pub record Narrow (r : Ran) : Type 0 where
  pub taken : r.taken < 4294967296
  pub subproblems : r.state.subproblems < 4294967296

pub record NarrowLoaded (r : Loaded) : Type 0 where
  pub its_n : r.n < 4294967296
  pub its_d : r.d < 4294967296
  pub subproblems : r.state.subproblems < 4294967296
