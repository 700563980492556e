-- What each call for C returns and leaves, for every input: where all slices of words are whole words, what the covered call returns and leaves
-- at the words that the bytes say; where one is not, the refusal that this deserves.
use Rattle.std.specs.Prelude.{◌≡◌, List, ℕ}
use Rattle.searches.specs.Verdicts.{number_of}
use Rattle.problem.specs.Tests.FirstChecks.{or_else, refusal_of_numbers}
use Rattle.search.specs.Calls.{Opens, Runs, Chooses}
use Rattle.search.specs.declared.state.State.{State}
use Rattle.search.specs.Outcomes.{Opened}
use Rattle.search.specs.Outcomes.{Ran}
use Rattle.searches.specs.declared.verdict.Verdict.TheVariants.{None}
use Rattle.blocks.specs.Tests.Whole.{refusal_of_file}
use Rattle.files.specs.Reading.{refusal_of_words}
use Rattle.files.specs.Calls.{Saves, Loads}
use Rattle.files.specs.Outcomes.{Saved}
use Rattle.files.specs.Outcomes.{Loaded}
use Rattle.word_bytes.specs.Bytes.{Whole, words_of, bytes_of}

-- The state of the three numbers that are handed in.
abbrev pub state_of : ℕ → ℕ → ℕ → State
state_of steps checks subproblems =
    record { counts = record { steps = record { 0 = steps }; checks = record { 0 = checks } }; subproblems = subproblems }

-- The refusal where a slice is not whole words: 1 or 2 where n or d deserves it, else 3.
unfoldable pub unwhole : ℕ → ℕ → ℕ
unwhole n d = or_else (refusal_of_numbers n d) 3

-- At load: 14 or 15 where the file deserves it, else 3.
unfoldable pub unwhole_file : List ℕ → ℕ
unwhole_file file = or_else (refusal_of_file file) (or_else (refusal_of_words file) 3)

-- The slices lent as domains, tables and agenda are whole words.
pub record WholeProblem (domains tables agenda : List ℕ) : Type 0 where
  pub of_domains : Whole domains
  pub of_tables : Whole tables
  pub of_agenda : Whole agenda

-- ---- opening

-- Where a slice is not whole words: the refusal, and zeros.
abbrev pub unopened : ℕ → ℕ → Opened
unopened n d = record { refusal = unwhole n d; state = state_of 0 0 0 }

-- Where all are: opening at the words that the bytes say; the bytes of the agenda after it say the words that it leaves.
pub record OpensWords (n d : ℕ) (domains tables before after : List ℕ) (r : Opened) : Type 0 where
  pub left : List ℕ
  pub opens : Opens n d (words_of domains) (words_of tables) (words_of before) left r
  pub said : after ≡ bytes_of left

-- Either way, on bytes: refused for a slice that is not whole words, it changes nothing.
pub record OpensBytes (n d : ℕ) (domains tables before after : List ℕ) (r : Opened) : Type 0 where
  pub whole : WholeProblem domains tables before → OpensWords n d domains tables before after r
  pub odd : (WholeProblem domains tables before → ⊥) → (r ≡ unopened n d) × (after ≡ before)

-- The whole call: the result is the refusal, and the numbers behind the pointers are the outcome's.
pub record OpensForC (n d : ℕ) (domains tables before after : List ℕ) (steps checks subproblems refusal : ℕ) : Type 0 where
  pub outcome : Opened
  pub opens : OpensBytes n d domains tables before after outcome
  pub its_refusal : refusal ≡ outcome.refusal
  pub its_steps : steps ≡ outcome.state.counts.steps.0
  pub its_checks : checks ≡ outcome.state.counts.checks.0
  pub its_subproblems : subproblems ≡ outcome.state.subproblems

-- ---- a run and the chooser

-- Where a slice is not whole words: the refusal; the verdict is none, none is taken, and the state is as it was handed in.
abbrev pub refused : ℕ → ℕ → State → Ran
refused n d s = record { verdict = None; refusal = unwhole n d; taken = 0; state = s }

-- Where all are: a run at the words that the bytes say.
pub record RunsWords (n d : ℕ) (domains tables before after requests : List ℕ) (s : State) (r : Ran) : Type 0 where
  pub left : List ℕ
  pub runs : Runs n d (words_of domains) (words_of tables) (words_of before) left (words_of requests) s r
  pub said : after ≡ bytes_of left

-- Either way; the list of requests is one more slice of words.
pub record RunsBytes (n d : ℕ) (domains tables before after requests : List ℕ) (s : State) (r : Ran) : Type 0 where
  pub whole : WholeProblem domains tables before → Whole requests → RunsWords n d domains tables before after requests s r
  pub odd : (WholeProblem domains tables before → Whole requests → ⊥) → (r ≡ refused n d s) × (after ≡ before)

-- What goes out: the three numbers as they are left, the verdict's number, what was taken, and the refusal.
pub record HandsOut (outcome : Ran) (steps checks subproblems verdict taken refusal : ℕ) : Type 0 where
  pub its_refusal : refusal ≡ outcome.refusal
  pub its_steps : steps ≡ outcome.state.counts.steps.0
  pub its_checks : checks ≡ outcome.state.counts.checks.0
  pub its_subproblems : subproblems ≡ outcome.state.subproblems
  pub its_verdict : verdict ≡ number_of outcome.verdict
  pub its_taken : taken ≡ outcome.taken

-- The whole call, steps, checks and subproblems as they were handed in and as they go out.
pub record RunsForC (n d : ℕ) (domains tables before after requests : List ℕ) (steps steps' checks checks' subproblems subproblems' verdict taken refusal : ℕ) : Type 0 where
  pub outcome : Ran
  pub runs : RunsBytes n d domains tables before after requests (state_of steps checks subproblems) outcome
  pub hands_out : HandsOut outcome steps' checks' subproblems' verdict taken refusal

-- The chooser likewise.
pub record ChoosesWords (n d : ℕ) (domains tables before after : List ℕ) (limit : ℕ) (s : State) (r : Ran) : Type 0 where
  pub left : List ℕ
  pub chooses : Chooses n d (words_of domains) (words_of tables) (words_of before) left limit s r
  pub said : after ≡ bytes_of left

pub record ChoosesBytes (n d : ℕ) (domains tables before after : List ℕ) (limit : ℕ) (s : State) (r : Ran) : Type 0 where
  pub whole : WholeProblem domains tables before → ChoosesWords n d domains tables before after limit s r
  pub odd : (WholeProblem domains tables before → ⊥) → (r ≡ refused n d s) × (after ≡ before)

pub record ChoosesForC (n d : ℕ) (domains tables before after : List ℕ) (limit steps steps' checks checks' subproblems subproblems' verdict taken refusal : ℕ) : Type 0 where
  pub outcome : Ran
  pub chooses : ChoosesBytes n d domains tables before after limit (state_of steps checks subproblems) outcome
  pub hands_out : HandsOut outcome steps' checks' subproblems' verdict taken refusal

-- ---- save

-- Where a slice is not whole words: the refusal, and no block.
abbrev pub unsaved : ℕ → ℕ → Saved
unsaved n d = record { refusal = unwhole n d; blocks = 0 }

-- Save at the words that the bytes say; the file is bytes as they are.
pub record SavesBytes (n d : ℕ) (domains tables agenda : List ℕ) (s : State) (before after : List ℕ) (r : Saved) : Type 0 where
  pub whole : WholeProblem domains tables agenda → Saves n d (words_of domains) (words_of tables) (words_of agenda) s before after r
  pub odd : (WholeProblem domains tables agenda → ⊥) → (r ≡ unsaved n d) × (after ≡ before)

pub record SavesForC (n d : ℕ) (domains tables agenda : List ℕ) (steps checks subproblems : ℕ) (before after : List ℕ) (blocks refusal : ℕ) : Type 0 where
  pub outcome : Saved
  pub saves : SavesBytes n d domains tables agenda (state_of steps checks subproblems) before after outcome
  pub its_refusal : refusal ≡ outcome.refusal
  pub its_blocks : blocks ≡ outcome.blocks

-- ---- load

-- Where a slice is not whole words: the refusal, and zeros.
abbrev pub unloaded : List ℕ → Loaded
unloaded file = record { refusal = unwhole_file file; n = 0; d = 0; state = state_of 0 0 0 }

-- Where all are: load at the words that the bytes say; the bytes after it say the words that it leaves.
pub record LoadsWords (file domains domains' tables tables' agenda agenda' : List ℕ) (r : Loaded) : Type 0 where
  pub left_domains : List ℕ
  pub left_tables : List ℕ
  pub left_agenda : List ℕ
  pub loads : Loads file (words_of domains) left_domains (words_of tables) left_tables (words_of agenda) left_agenda r
  pub said_domains : domains' ≡ bytes_of left_domains
  pub said_tables : tables' ≡ bytes_of left_tables
  pub said_agenda : agenda' ≡ bytes_of left_agenda

pub record LoadsBytes (file domains domains' tables tables' agenda agenda' : List ℕ) (r : Loaded) : Type 0 where
  pub whole : WholeProblem domains tables agenda → LoadsWords file domains domains' tables tables' agenda agenda' r
  pub odd : (WholeProblem domains tables agenda → ⊥)
      → (r ≡ unloaded file) × (domains' ≡ domains) × (tables' ≡ tables) × (agenda' ≡ agenda)

pub record LoadsForC (file domains domains' tables tables' agenda agenda' : List ℕ) (n d steps checks subproblems refusal : ℕ) : Type 0 where
  pub outcome : Loaded
  pub loads : LoadsBytes file domains domains' tables tables' agenda agenda' outcome
  pub its_refusal : refusal ≡ outcome.refusal
  pub its_n : n ≡ outcome.n
  pub its_d : d ≡ outcome.d
  pub its_steps : steps ≡ outcome.state.counts.steps.0
  pub its_checks : checks ≡ outcome.state.counts.checks.0
  pub its_subproblems : subproblems ≡ outcome.state.subproblems
