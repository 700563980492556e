-- What the answer to a file is, for any bytes.
use Rattle.std.specs.Prelude.{◌≡◌, cond, List, ◌++◌, ℕ, ◌+◌, ◌-◌, ◌*◌, length, replicate, eqb}
use Rattle.problem.specs.Problem.{Problem, problem_of}
use Rattle.search.specs.Slots.{slots, Stopped}
use Rattle.searches.specs.Chooser.{choose}
use Rattle.files.specs.Reading.{said_n, said_d, said_domains, said_allowed, said_search, table_words}
use Rattle.files.specs.Calls.{load_refusal}
use Rattle.answer.specs.Text.{text_of, refused_line}
use Rattle.answer.specs.declared.text.Text.{Text}

-- Load's refusal, into domains and tables of the lengths that the file asks for and 512 slots.
unfoldable pub refusal_of_load : List ℕ → ℕ
refusal_of_load file = load_refusal file (said_n file) (said_n file * said_n file * said_d file) (512 * (said_n file + 2))

-- The problem that load leaves in memory.
abbrev pub loaded_problem : List ℕ → Problem
loaded_problem file = problem_of (said_n file) (said_d file) (said_domains file) (table_words (said_n file) (said_d file) (said_allowed file))

-- Where the chooser stops: up to 1,000,000 steps with 512 slots.
unfoldable pub ran_of : List ℕ → Stopped
ran_of file = choose (loaded_problem file) (slots 512) 1000000 (said_search file)

-- The text for a file: a refused load gives the one line of the refusal.
unfoldable pub answer : List ℕ → List ℕ
answer file = cond (eqb (refusal_of_load file) 0) (text_of (said_n file) (ran_of file)) (refused_line (refusal_of_load file))

-- The text, and zeros after it.
pub record Answers (file : List ℕ) (r : Text) : Type 0 where
  pub bytes : r.bytes ≡ answer file ++ replicate (512 - length (answer file)) 0
  pub its_length : r.length ≡ length (answer file)
