-- What save and load return and leave, for every input, field by field.
use Rattle.std.specs.Prelude.{◌≡◌, cond, List, ◌++◌, ℕ, ◌*◌, ◌<◌, length, drop, eqb, ltb}
use Rattle.problem.specs.Problem.{table_of}
use Rattle.search.specs.Agenda.{slots_in, agenda_of}
use Rattle.problem.specs.Tests.FirstChecks.{or_else}
use Rattle.search.specs.Tests.FirstChecks.{search_refusal, refusal_of_lengths}
use Rattle.search.specs.Calls.{search_of}
use Rattle.search.specs.declared.state.State.{State}
use Rattle.blocks.specs.Blocks.{blocks_for, file_of}
use Rattle.files.specs.Content.{content_of}
use Rattle.files.specs.Reading.{said_n, said_d, said_steps, said_checks, said_subproblems, said_domains, said_allowed, said_search, table_words, refusal_of_words}
use Rattle.blocks.specs.Tests.Whole.{refusal_of_file}
use Rattle.files.specs.declared.saved.Header.{Header}
use Rattle.files.specs.Outcomes.{Saved}
use Rattle.files.specs.Outcomes.{Loaded}

-- What the first words of a file say.
pub record HeaderOf (file : List ℕ) (h : Header) : Type 0 where
  pub its_n : h.n ≡ said_n file
  pub its_d : h.d ≡ said_d file
  pub steps : h.state.counts.steps.0 ≡ said_steps file
  pub checks : h.state.counts.checks.0 ≡ said_checks file
  pub subproblems : h.state.subproblems ≡ said_subproblems file

-- The content of the search that is handed to save.
abbrev pub handed_content : ℕ → ℕ → List ℕ → List ℕ → List ℕ → State → List ℕ
handed_content n d domains tables agenda s = content_of n d domains (table_of n d tables) (search_of n agenda s)

-- 13: the file buffer is shorter than the blocks to write.
abbrev pub Deserves13 : ℕ → ℕ → List ℕ → List ℕ → List ℕ → State → List ℕ → Type 0
Deserves13 n d domains tables agenda s file = length file < 512 * blocks_for (length (handed_content n d domains tables agenda s))

-- Save: 1 to 6 first, then 13.
unfoldable pub save_refusal : ℕ → ℕ → List ℕ → List ℕ → List ℕ → State → List ℕ → ℕ
save_refusal n d domains tables agenda s file =
    or_else (search_refusal n d domains tables agenda s.counts.steps.0 s.counts.checks.0 s.subproblems)
    (cond (ltb (length file) (512 * blocks_for (length (handed_content n d domains tables agenda s)))) 13 0)

-- How save ends that is handed this content and whose refusal is k: it writes the blocks and leaves the rest of the buffer; refused, it changes
-- nothing and returns no block.
pub record SaveEnds (k : ℕ) (content before after : List ℕ) (r : Saved) : Type 0 where
  pub refusal : r.refusal ≡ k
  pub blocks : r.blocks ≡ cond (eqb k 0) (blocks_for (length content)) 0
  pub file : after ≡ cond (eqb k 0) (file_of content ++ drop (length (file_of content)) before) before

abbrev pub Saves : ℕ → ℕ → List ℕ → List ℕ → List ℕ → State → List ℕ → List ℕ → Saved → Type 0
Saves n d domains tables agenda s before after r =
    SaveEnds (save_refusal n d domains tables agenda s before) (handed_content n d domains tables agenda s) before after r

-- 12 at load: more subproblems than slots.
abbrev pub Deserves12Load : List ℕ → List ℕ → Type 0
Deserves12Load file agenda = slots_in (said_n file) (length agenda) < said_subproblems file

-- Load: 14, 15, 3, 12, of the numbers of words lent as domains, tables and agenda.
unfoldable pub load_refusal : List ℕ → ℕ → ℕ → ℕ → ℕ
load_refusal file domains tables agenda =
    or_else (refusal_of_file file)
    (or_else (refusal_of_words file)
    (or_else (refusal_of_lengths (said_n file) (said_d file) domains tables agenda)
    (cond (ltb (slots_in (said_n file) agenda) (said_subproblems file)) 12 0)))

-- How load ends whose refusal is k: it hands back what the file says, and writes domains, tables (zeros for a variable with itself) and agenda;
-- refused, it changes nothing and returns zeros.
pub record LoadEnds (k : ℕ) (file domains domains' tables tables' agenda agenda' : List ℕ) (r : Loaded) : Type 0 where
  pub refusal : r.refusal ≡ k
  pub its_n : r.n ≡ cond (eqb k 0) (said_n file) 0
  pub its_d : r.d ≡ cond (eqb k 0) (said_d file) 0
  pub steps : r.state.counts.steps.0 ≡ cond (eqb k 0) (said_steps file) 0
  pub checks : r.state.counts.checks.0 ≡ cond (eqb k 0) (said_checks file) 0
  pub subproblems : r.state.subproblems ≡ cond (eqb k 0) (said_subproblems file) 0
  pub its_domains : domains' ≡ cond (eqb k 0) (said_domains file) domains
  pub its_tables : tables' ≡ cond (eqb k 0) (table_words (said_n file) (said_d file) (said_allowed file)) tables
  pub its_agenda : agenda' ≡ cond (eqb k 0) (agenda_of (said_n file) (length agenda) (said_search file).memory) agenda

abbrev pub Loads : List ℕ → List ℕ → List ℕ → List ℕ → List ℕ → List ℕ → List ℕ → Loaded → Type 0
Loads file domains domains' tables tables' agenda agenda' r =
    LoadEnds (load_refusal file (length domains) (length tables) (length agenda)) file domains domains' tables tables' agenda agenda' r
