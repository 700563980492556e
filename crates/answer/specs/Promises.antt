-- What the answer to a file promises. Stated here, proved in proofs/Promises.antt.
use Rattle.std.specs.Prelude.{◌≡◌, List, [], ◌∷◌, ◌++◌, ℕ, ◌*◌, ◌+◌, ◌/◌, ◌%◌, ◌≤◌, ◌<◌, length, get_or, take}
use Rattle.problem.specs.Problem.{Solution, problem_of}
use Rattle.problem.specs.Answers.{One}
use Rattle.searches.specs.Verdicts.{ascii}
use Rattle.search.specs.Calls.{Opens, Chooses}
use Rattle.searches.specs.Promises.{HasSolution}
use Rattle.search.specs.declared.state.State.{State}
use Rattle.search.specs.Outcomes.{Opened}
use Rattle.search.specs.Outcomes.{Ran}
use Rattle.files.specs.Reading.{said_n, said_d, said_domains, said_allowed, Deserves15}
use Rattle.blocks.specs.Reading.{Deserves14, Bytes}
use Rattle.files.specs.Calls.{Saves, Loads}
use Rattle.files.specs.Promises.{Lived}
use Rattle.files.specs.Outcomes.{Saved}
use Rattle.files.specs.Outcomes.{Loaded}
use Rattle.answer.specs.Text.{decimal, counts_line, plan_of, refused_line, text_of, text_from}
use Rattle.answer.specs.Calls.{ran_of, answer, Answers}

-- The answer to a file is one.
abbrev pub AnswerToOne : Type 0
AnswerToOne = (file : List ℕ) → One (Answers file)

-- The text has at most 512 bytes.
abbrev pub AtMost512 : Type 0
AtMost512 = (file : List ℕ) → Bytes file → length (answer file) ≤ 512

-- ---- the text, for any bytes

-- A number in decimal: below 10 its one digit, byte 48 being 0; else that of its tenth, and the last digit after it.
abbrev pub Decimals : Type 0
Decimals =
    ((x : ℕ) → x < 10 → decimal x ≡ (48 + x) ∷ [])
    × ((x : ℕ) → 10 ≤ x → decimal x ≡ decimal (x / 10) ++ ((48 + x % 10) ∷ []))

-- A file that is not 1 to 101 whole blocks, or of which a block's check, number or count is wrong, gives the one line "refused 14".
abbrev pub Answer14 : Type 0
Answer14 = (file : List ℕ) → Deserves14 file → answer file ≡ ascii "refused 14\n"

-- Another whose words break a rule gives "refused 15".
abbrev pub Answer15 : Type 0
Answer15 = (file : List ℕ) → (Deserves14 file → ⊥) → Deserves15 file → answer file ≡ ascii "refused 15\n"

-- No other file is refused: the chooser runs on what the file says.
abbrev pub AnswerElse : Type 0
AnswerElse = (file : List ℕ) → (Deserves14 file → ⊥) → (Deserves15 file → ⊥) → answer file ≡ text_of (said_n file) (ran_of file)

-- ---- of the calls

-- The two calls that the program makes of a file, load into 512 slots and the chooser of up to 1,000,000 steps, and what they return and leave.
pub record Calls (file : List ℕ) : Type 0 where
  pub domains : List ℕ
  pub domains' : List ℕ
  pub tables : List ℕ
  pub tables' : List ℕ
  pub agenda : List ℕ
  pub agenda' : List ℕ
  pub after : List ℕ
  pub loaded : Loaded
  pub ran : Ran
  pub loads : Loads file domains domains' tables tables' agenda agenda' loaded
  pub domain_words : length domains ≡ said_n file
  pub table_words : length tables ≡ said_n file * said_n file * said_d file
  pub agenda_words : length agenda ≡ 512 * (said_n file + 2)
  pub chooses : Chooses loaded.n loaded.d domains' tables' agenda' after 1000000 loaded.state ran

-- A refused load: its number. Else the text of what the chooser returns, and of the subproblems that the words it leaves hold.
abbrev pub OfTheCalls : Type 0
OfTheCalls =
    (file : List ℕ) → Bytes file → (c : Calls file)
    → ((c.loaded.refusal ≡ 0 → ⊥) → answer file ≡ refused_line c.loaded.refusal)
    × (c.loaded.refusal ≡ 0 → answer file ≡ text_from (said_n file) c.after c.ran)

-- ---- what the lines say

-- Where line 1 is "solved", the lines after line 2 give each variable a value, and these are a solution of the problem that the file says.
abbrev pub SaysAPlan : Type 0
SaysAPlan =
    (file : List ℕ) → Bytes file → (rest : List ℕ) → answer file ≡ ascii "solved\n" ++ rest
    → (f : ℕ → ℕ)
    × (answer file
    ≡ ascii "solved\n" ++ counts_line (ran_of file).search.steps (ran_of file).search.checks ++ plan_of (said_n file) f)
    × Solution (said_n file) (said_allowed file) (λ i. get_or (said_domains file) i 0) f

-- Where line 1 is "unsolvable" and the file is what save wrote of a search begun by opening, the problem that was opened has no solution.
abbrev pub SaysNoPlan : Type 0
SaysNoPlan =
    (n d : ℕ) (domains opened-tables tables agenda : List ℕ) (s : State) (before after : List ℕ) (saved : Saved) (rest : List ℕ)
    → Lived n d domains opened-tables tables agenda s → Saves n d domains tables agenda s before after saved → saved.refusal ≡ 0
    → answer (take (512 * saved.blocks) after) ≡ ascii "unsolvable\n" ++ rest
    → HasSolution (problem_of n d domains opened-tables) → ⊥

-- ---- document 01's printed example

-- Variable 0 has value 0, variable 1 has 0 and 1, d is 2, and the two must differ: beside 0 the mask 2, beside 1 the mask 1.
abbrev pub printed_domains : List ℕ
printed_domains = 1 ∷ 3 ∷ []

abbrev pub printed_tables : List ℕ
printed_tables = 0 ∷ 0 ∷ 2 ∷ 1 ∷ 2 ∷ 1 ∷ 0 ∷ 0 ∷ []

-- The file that save writes of it, the agenda fresh: whatever opening it leaves and returns.
abbrev pub Printed : Type 0
Printed =
    (before after buffer file : List ℕ) (r : Opened) (saved : Saved) → Opens 2 2 printed_domains printed_tables before after r → r.refusal ≡ 0
    → Saves 2 2 printed_domains printed_tables after r.state buffer file saved → saved.refusal ≡ 0
    → answer (take (512 * saved.blocks) file) ≡ ascii "solved\nsteps 2 checks 3\n0 0\n1 1\n"
