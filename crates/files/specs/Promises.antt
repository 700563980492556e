-- What save and load promise. Stated here, proved in proofs/Promises.antt.
use Rattle.std.specs.Prelude.{Result}
use Rattle.problem.specs.declared.refusal.Refusal.{Refusal}
use Rattle.files.specs.declared.saved.Header.{Header}
use Rattle.std.specs.Prelude.{◌≡◌, ◌↔◌, ℕ, ◌+◌, ◌*◌, ◌≤◌, length, get_or, take, drop}
use mathlib.Core.List.{List, Memᴰ, ◌++◌}
use Rattle.problem.specs.Problem.{Problem, Proper, Table, AllowSame, Solution, table_of, AgreeApart, Words, problem_of}
use Rattle.splitting.specs.Promises.{Solvable}
use Rattle.problem.specs.Answers.{One}
use Rattle.splits.specs.declared.subproblem.Subproblem.{Subproblem}
use Rattle.search.specs.Agenda.{stack_of, slots_in, agenda_of}
use Rattle.search.specs.Slots.{Search}
use Rattle.search.specs.FirstChecks.{WholeSlots, WholeRequests, Deserves3}
use Rattle.search.specs.Tests.FirstChecks.{search_refusal}
use Rattle.search.specs.Calls.{search_of, Opens, Runs, Chooses}
use Rattle.searches.specs.Promises.{Shown, Limited, HasSolution}
use Rattle.search.specs.Promises.{Handed, Reached}
use Rattle.searches.specs.Verdicts.{number_of}
use Rattle.search.specs.declared.state.State.{State}
use Rattle.search.specs.Outcomes.{Opened}
use Rattle.search.specs.Outcomes.{Ran}
use Rattle.blocks.specs.Blocks.{blocks_for, file_of}
use Rattle.files.specs.Content.{content_of}
use Rattle.blocks.specs.Reading.{Deserves14, Bytes}
use Rattle.files.specs.Reading.{said_n, said_d, said_steps, said_checks, said_subproblems, said_domains, said_allowed, said_search, table_words, Deserves15, refusal_of_words}
use Rattle.blocks.specs.Tests.Whole.{refusal_of_file}
use Rattle.files.specs.Calls.{HeaderOf, handed_content, save_refusal, Saves, load_refusal, Loads, Deserves13, Deserves12Load}
use Rattle.files.specs.Outcomes.{Saved, saved as saved_of, Loaded, loaded as loaded_of}

-- ---- load after save, and save after load

-- A file is accepted and says this search of this problem.
pub record Says (file : List ℕ) (n d : ℕ) (domains : List ℕ) (allowed : Table) (s : Search) : Type 0 where
  pub whole : refusal_of_file file ≡ 0
  pub accepted : refusal_of_words file ≡ 0
  pub its_n : said_n file ≡ n
  pub its_d : said_d file ≡ d
  pub its_domains : said_domains file ≡ domains
  pub its_allowed : AllowSame n d (said_allowed file) allowed
  pub its_subproblems : said_subproblems file ≡ length s.memory
  pub its_search : said_search file ≡ s

-- The blocks that save writes say the search that it was handed.
abbrev pub LoadAfterSave : Type 0
LoadAfterSave =
    (n d : ℕ) (domains tables agenda : List ℕ) (s : State) → Words agenda
    → search_refusal n d domains tables agenda s.counts.steps.0 s.counts.checks.0 s.subproblems ≡ 0
    → Says (file_of (handed_content n d domains tables agenda s)) n d domains (table_of n d tables) (search_of n agenda s)

-- The blocks of what an accepted file says are the file.
abbrev pub SaveAfterLoad : Type 0
SaveAfterLoad =
    (file : List ℕ) → Bytes file → refusal_of_file file ≡ 0 → refusal_of_words file ≡ 0
    → file_of (content_of (said_n file) (said_d file) (said_domains file) (said_allowed file) (said_search file)) ≡ file

-- What load accepts passes the first checks of run, chooser and save.
abbrev pub LoadedPasses : Type 0
LoadedPasses =
    (file domains tables agenda : List ℕ) → Bytes file → load_refusal file (length domains) (length tables) (length agenda) ≡ 0
    → search_refusal (said_n file) (said_d file) (said_domains file) (table_words (said_n file) (said_d file) (said_allowed file))
    (agenda_of (said_n file) (length agenda) (said_search file).memory) (said_steps file) (said_checks file) (said_subproblems file) ≡ 0

-- What an accepted load leaves: the problem and the search that the file says, in an agenda as long as before; handed on they pass.
pub record LeftByLoad (file agenda domains' tables' agenda' : List ℕ) (r : Loaded) : Type 0 where
  pub its_n : r.n ≡ said_n file
  pub its_d : r.d ≡ said_d file
  pub its_domains : domains' ≡ said_domains file
  pub its_tables : tables' ≡ table_words (said_n file) (said_d file) (said_allowed file)
  pub handed : Handed r.n r.d domains' tables' agenda' r.state
  pub search : search_of r.n agenda' r.state ≡ said_search file
  pub length_kept : length agenda' ≡ length agenda

abbrev pub LoadLeaves : Type 0
LoadLeaves =
    (file domains domains' tables tables' agenda agenda' : List ℕ) (r : Loaded) → Bytes file → Loads file domains domains' tables tables' agenda agenda' r
    → r.refusal ≡ 0 → LeftByLoad file agenda domains' tables' agenda' r

-- Load after save, of the calls: what load gives back of a search saved. Nothing is refused, n, d, the domains, what two different variables allow,
-- and the search in memory are as they were handed to save.
pub record GivenBack (n d : ℕ) (domains tables : List ℕ) (s : Search) (r : Loaded) (domains' tables' agenda' : List ℕ) : Type 0 where
  pub refusal : r.refusal ≡ 0
  pub its_n : r.n ≡ n
  pub its_d : r.d ≡ d
  pub its_domains : domains' ≡ domains
  pub its_allowed : AllowSame n d (table_of n d tables') (table_of n d tables)
  pub its_search : search_of n agenda' r.state ≡ s

-- Load of exactly the blocks that save wrote, into buffers of the right lengths and an agenda that takes the subproblems.
abbrev pub LoadsBack : Type 0
LoadsBack =
    (n d : ℕ) (domains tables agenda : List ℕ) (s : State) (before after : List ℕ) (saved : Saved)
    (domains₀ domains' tables₀ tables' agenda₀ agenda' : List ℕ) (r : Loaded) → Words agenda → Saves n d domains tables agenda s before after saved
    → saved.refusal ≡ 0 → Loads (take (512 * saved.blocks) after) domains₀ domains' tables₀ tables' agenda₀ agenda' r → length domains₀ ≡ n
    → length tables₀ ≡ n * n * d → WholeSlots n (length agenda₀) → s.subproblems ≤ slots_in n (length agenda₀)
    → GivenBack n d domains tables (search_of n agenda s) r domains' tables' agenda'

-- Save after load, of the calls: save of what load accepted, into a buffer that takes it, is not refused and writes the file again.
abbrev pub SavesBack : Type 0
SavesBack =
    (file domains₀ domains tables₀ tables agenda₀ agenda : List ℕ) (r : Loaded) (before after : List ℕ) (saved : Saved) → Bytes file
    → Loads file domains₀ domains tables₀ tables agenda₀ agenda r → r.refusal ≡ 0
    → Saves r.n r.d domains tables agenda r.state before after saved → length file ≤ length before
    → (saved.refusal ≡ 0) × (512 * saved.blocks ≡ length file) × (after ≡ file ++ drop (length file) before)

-- The largest file is 101 blocks: 25,385 words.
abbrev pub Largest : Type 0
Largest =
    (n d : ℕ) (domains : List ℕ) (allowed : Table) (s : Search) → n ≤ 32 → d ≤ 16 → length domains ≡ n → length s.memory ≤ 512
    → (length (content_of n d domains allowed s) ≤ 25385) × (blocks_for (length (content_of n d domains allowed s)) ≤ 101)

-- It is met: n 32, d 16, 512 subproblems.
abbrev pub LargestMet : Type 0
LargestMet =
    (domains : List ℕ) (allowed : Table) (s : Search) → length domains ≡ 32 → length s.memory ≡ 512
    → ((P : Subproblem) → Memᴰ P s.memory → length P.domains ≡ 32)
    → (length (content_of 32 16 domains allowed s) ≡ 25385) × (blocks_for (length (content_of 32 16 domains allowed s)) ≡ 101)

-- So a buffer of 101 blocks, 51,712 bytes, takes any search that passes the first checks, in memory of words.
abbrev pub SaveEnough : Type 0
SaveEnough =
    (n d : ℕ) (domains tables agenda : List ℕ) (s : State) (before after : List ℕ) (r : Saved) → Words agenda
    → search_refusal n d domains tables agenda s.counts.steps.0 s.counts.checks.0 s.subproblems ≡ 0 → 51712 ≤ length before
    → Saves n d domains tables agenda s before after r → (r.refusal ≡ 0) × (r.blocks ≤ 101)

-- ---- refusals

-- Of any call of save, something said of the refusal of the first checks and of its own.
abbrev pub Saving : ((first k : ℕ) → Type 0 → Type 0) → Type 0
Saving Said =
    (n d : ℕ) (domains tables agenda : List ℕ) (s : State) (file : List ℕ)
    → Said (search_refusal n d domains tables agenda s.counts.steps.0 s.counts.checks.0 s.subproblems)
    (save_refusal n d domains tables agenda s file) (Deserves13 n d domains tables agenda s file)

-- 1 to 6 first, then 13, then none.
abbrev pub SaveFirst : Type 0
SaveFirst = Saving (λ first k deserved. (j : ℕ) → 1 ≤ j → j ≤ 6 → (k ≡ j) ↔ (first ≡ j))

abbrev pub Save13 : Type 0
Save13 = Saving (λ first k deserved. (k ≡ 13) ↔ ((first ≡ 0) × deserved))

abbrev pub SaveNone : Type 0
SaveNone = Saving (λ first k deserved. (k ≡ 0) ↔ ((first ≡ 0) × (deserved → ⊥)))

-- Of any call of load, something said of the file, the buffers lent and the refusal.
abbrev pub Loading : ((file domains tables agenda : List ℕ) → ℕ → Type 0) → Type 0
Loading Said =
    (file domains tables agenda : List ℕ) → Said file domains tables agenda (load_refusal file (length domains) (length tables) (length agenda))

-- 14, 15, 3, 12, none: each exactly when it is deserved and none before it is. 15 is of the file alone.
abbrev pub Load14 : Type 0
Load14 = Loading (λ file domains tables agenda k. (k ≡ 14) ↔ Deserves14 file)

abbrev pub Load15 : Type 0
Load15 = Loading (λ file domains tables agenda k. (k ≡ 15) ↔ ((Deserves14 file → ⊥) × Deserves15 file))

abbrev pub Load3 : Type 0
Load3 =
    Loading (λ file domains tables agenda k.
    (k ≡ 3) ↔ ((Deserves14 file → ⊥) × (Deserves15 file → ⊥) × Deserves3 (said_n file) (said_d file) domains tables agenda))

abbrev pub Load12 : Type 0
Load12 =
    Loading (λ file domains tables agenda k.
    (k ≡ 12)
    ↔ ((Deserves14 file → ⊥) × (Deserves15 file → ⊥) × (Deserves3 (said_n file) (said_d file) domains tables agenda → ⊥) × Deserves12Load file agenda))

abbrev pub LoadNone : Type 0
LoadNone =
    Loading (λ file domains tables agenda k.
    (k ≡ 0)
    ↔ ((Deserves14 file → ⊥) × (Deserves15 file → ⊥) × (Deserves3 (said_n file) (said_d file) domains tables agenda → ⊥)
    × (Deserves12Load file agenda → ⊥)))

-- ---- one outcome

-- What save and load tell leaves one result each.
abbrev pub SavedResultOne : Type 0
SavedResultOne = (r s : Result ℕ Refusal) → saved_of r ≡ saved_of s → r ≡ s

abbrev pub LoadedResultOne : Type 0
LoadedResultOne = (r s : Result Header Refusal) → loaded_of r ≡ loaded_of s → r ≡ s

-- Two outcomes of save, of one input, are equal.
abbrev pub SaveOne : Type 0
SaveOne =
    (n d : ℕ) (domains tables agenda : List ℕ) (s : State) (before after after' : List ℕ) (r r' : Saved)
    → Saves n d domains tables agenda s before after r → Saves n d domains tables agenda s before after' r' → (r ≡ r') × (after ≡ after')

-- Two outcomes of load.
abbrev pub LoadOne : Type 0
LoadOne =
    (file domains a a' tables b b' agenda c c' : List ℕ) (r r' : Loaded) → Loads file domains a tables b agenda c r
    → Loads file domains a' tables b' agenda c' r' → (r ≡ r') × (a ≡ a') × (b ≡ b') × (c ≡ c')

-- ---- a variable with itself

-- No result of opening, run, chooser or save depends on what stands at i with itself: whatever satisfies the statement with one list of tables
-- satisfies it with the other. The steps fit their counter.
abbrev pub DiagonalOpen : Type 0
DiagonalOpen =
    (n d : ℕ) (domains tables others before after : List ℕ) (r : Opened) → AgreeApart n d tables others → Opens n d domains tables before after r
    → Opens n d domains others before after r

abbrev pub DiagonalRun : Type 0
DiagonalRun =
    (n d : ℕ) (domains tables others before after requests : List ℕ) (s : State) (r : Ran) → AgreeApart n d tables others
    → s.counts.steps.0 ≤ 4294967295 → Runs n d domains tables before after requests s r → Runs n d domains others before after requests s r

abbrev pub DiagonalChoose : Type 0
DiagonalChoose =
    (n d : ℕ) (domains tables others before after : List ℕ) (limit : ℕ) (s : State) (r : Ran) → AgreeApart n d tables others
    → s.counts.steps.0 ≤ 4294967295 → Chooses n d domains tables before after limit s r → Chooses n d domains others before after limit s r

abbrev pub DiagonalSave : Type 0
DiagonalSave =
    (n d : ℕ) (domains tables others agenda : List ℕ) (s : State) (before after : List ℕ) (r : Saved) → AgreeApart n d tables others
    → Saves n d domains tables agenda s before after r → Saves n d domains others agenda s before after r

-- ---- searches begun by opening, saved and loaded

-- What opening and any number of calls lead to, each handed what the one before it left, loads of the blocks that save wrote among them, and moved
-- in memory to an agenda of another length that takes it, zeros after. opened-tables are the tables that were opened; load writes zeros at a variable with
-- itself, so that those in memory may differ from them there.
pub data Lived (n d : ℕ) (domains opened-tables : List ℕ) : List ℕ → List ℕ → State → Type 0 where
  opened : {before after : List ℕ} {r : Opened} → Opens n d domains opened-tables before after r → r.refusal ≡ 0
      → Lived n d domains opened-tables opened-tables after r.state
  ran : {tables before after : List ℕ} {s : State} {r : Ran} → Lived n d domains opened-tables tables before s → (requests : List ℕ)
      → Runs n d domains tables before after requests s r → Lived n d domains opened-tables tables after r.state
  chose : {tables before after : List ℕ} {s : State} {r : Ran} → Lived n d domains opened-tables tables before s → (limit : ℕ)
      → Chooses n d domains tables before after limit s r → Lived n d domains opened-tables tables after r.state
  loaded : {tables agenda before after domains₀ domains' tables₀ tables' agenda₀ agenda' : List ℕ} {s : State} {saved : Saved} {r : Loaded}
      → Lived n d domains opened-tables tables agenda s → Saves n d domains tables agenda s before after saved → saved.refusal ≡ 0
      → Loads (take (512 * saved.blocks) after) domains₀ domains' tables₀ tables' agenda₀ agenda' r → r.refusal ≡ 0
      → Lived n d domains opened-tables tables' agenda' r.state
  moved : {tables agenda : List ℕ} {s : State} → Lived n d domains opened-tables tables agenda s → (words : ℕ) → WholeSlots n words
      → s.subproblems ≤ slots_in n words → Lived n d domains opened-tables tables (agenda_of n words (stack_of n agenda s.subproblems)) s

-- It passes when handed on, and it is a reached search of the problem that was opened.
abbrev pub LivedReached : Type 0
LivedReached =
    (n d : ℕ) (domains opened-tables tables agenda : List ℕ) (s : State) → Lived n d domains opened-tables tables agenda s
    → Handed n d domains tables agenda s × AgreeApart n d opened-tables tables × Proper (problem_of n d domains opened-tables)
    × Reached n d domains opened-tables (slots_in n (length agenda)) (search_of n agenda s)

-- Of each, something said of the problem that was opened, the slots and the search.
abbrev pub Lives : (Problem → ℕ → Search → Type 0) → Type 0
Lives Said =
    (n d : ℕ) (domains opened-tables tables agenda : List ℕ) (s : State) → Lived n d domains opened-tables tables agenda s
    → Said (problem_of n d domains opened-tables) (slots_in n (length agenda)) (search_of n agenda s)

-- The problem is solvable exactly if some subproblem on the agenda is.
abbrev pub LivedSolvable : Type 0
LivedSolvable = Lives (λ p slots s. HasSolution p ↔ ((P : Subproblem) × Memᴰ P s.memory × Solvable p P))

-- The steps taken are limited by the possibilities.
abbrev pub LivedSteps : Type 0
LivedSteps = Lives (λ p slots s. Limited p s.steps)

-- The checks are at most 496 × steps.
abbrev pub LivedChecks : Type 0
LivedChecks = Lives (λ p slots s. s.checks ≤ 496 * s.steps)

-- A run or a chooser of such a search that says unsolvable: the problem that was opened has no solution.
abbrev pub UnsolvableRun : Type 0
UnsolvableRun =
    (n d : ℕ) (domains opened-tables tables before after requests : List ℕ) (s : State) (r : Ran) → Lived n d domains opened-tables tables before s
    → Runs n d domains tables before after requests s r → number_of r.verdict ≡ 3 → HasSolution (problem_of n d domains opened-tables) → ⊥

abbrev pub UnsolvableChoose : Type 0
UnsolvableChoose =
    (n d : ℕ) (domains opened-tables tables before after : List ℕ) (limit : ℕ) (s : State) (r : Ran) → Lived n d domains opened-tables tables before s
    → Chooses n d domains tables before after limit s r → number_of r.verdict ≡ 3 → HasSolution (problem_of n d domains opened-tables) → ⊥

-- One that says solved: the top slot shows a solution of the problem that was opened.
abbrev pub SolvedRun : Type 0
SolvedRun =
    (n d : ℕ) (domains opened-tables tables before after requests : List ℕ) (s : State) (r : Ran) → Lived n d domains opened-tables tables before s
    → Runs n d domains tables before after requests s r → number_of r.verdict ≡ 2
    → Shown (problem_of n d domains opened-tables) (stack_of n after r.state.subproblems)

abbrev pub SolvedChoose : Type 0
SolvedChoose =
    (n d : ℕ) (domains opened-tables tables before after : List ℕ) (limit : ℕ) (s : State) (r : Ran) → Lived n d domains opened-tables tables before s
    → Chooses n d domains tables before after limit s r → number_of r.verdict ≡ 2
    → Shown (problem_of n d domains opened-tables) (stack_of n after r.state.subproblems)

-- And the problem that a file says has the solutions of the one saved.
abbrev pub SameSolutions : Type 0
SameSolutions =
    (n d : ℕ) (domains tables : List ℕ) (s : Search) (file : List ℕ) (f : ℕ → ℕ) → Proper (problem_of n d domains tables)
    → Says file n d domains (table_of n d tables) s
    → Solution n (table_of n d tables) (λ i. get_or domains i 0) f
    ↔ Solution (said_n file) (table_of (said_n file) (said_d file) (table_words (said_n file) (said_d file) (said_allowed file))) (λ i. get_or (said_domains file) i 0) f

-- ---- the cut

-- Two ways on from one search. Uncut: one call, the whole. Cut: a first call, what it leaves saved into a buffer of at least its blocks, loaded from
-- exactly these blocks into domains and tables of the right lengths and an agenda of equal length, and a second call on what was loaded. Whatever
-- the lent buffers held before.
pub record TwoWays (n d : ℕ) (domains tables : List ℕ) : Type 0 where
  pub whole : Ran
  pub whole_agenda : List ℕ
  pub first : Ran
  pub first_agenda : List ℕ
  pub saved : Saved
  pub buffer : List ℕ
  pub written : List ℕ
  pub saves : Saves n d domains tables first_agenda first.state buffer written saved
  pub enough : 512 * blocks_for (length (handed_content n d domains tables first_agenda first.state)) ≤ length buffer
  pub loaded : Loaded
  pub domains₀ : List ℕ
  pub domains' : List ℕ
  pub tables₀ : List ℕ
  pub tables' : List ℕ
  pub agenda₀ : List ℕ
  pub agenda' : List ℕ
  pub loads : Loads (take (512 * saved.blocks) written) domains₀ domains' tables₀ tables' agenda₀ agenda' loaded
  pub domain_words : length domains₀ ≡ n
  pub table_words : length tables₀ ≡ n * n * d
  pub agenda_words : length agenda₀ ≡ length first_agenda
  pub second : Ran
  pub second_agenda : List ℕ

-- The calls are runs: of a list of requests uncut; and cut, to the cut, and by the requests not yet taken.
pub record Trip (n d : ℕ) (domains tables agenda : List ℕ) (s : State) (requests more : List ℕ) : Type 0 where
  pub ways : TwoWays n d domains tables
  pub uncut : Runs n d domains tables agenda ways.whole_agenda (requests ++ more) s ways.whole
  pub to_the_cut : Runs n d domains tables agenda ways.first_agenda requests s ways.first
  pub goes_on : Runs ways.loaded.n ways.loaded.d ways.domains' ways.tables' ways.agenda' ways.second_agenda
      (drop (ways.first.taken * (n + 3)) (requests ++ more)) ways.loaded.state ways.second

-- The calls are the house chooser's: of up to m + k steps uncut; and cut, of up to m, and of up to k more.
pub record ChooserTrip (n d : ℕ) (domains tables agenda : List ℕ) (s : State) (m k : ℕ) : Type 0 where
  pub ways : TwoWays n d domains tables
  pub uncut : Chooses n d domains tables agenda ways.whole_agenda (m + k) s ways.whole
  pub to_the_cut : Chooses n d domains tables agenda ways.first_agenda m s ways.first
  pub goes_on : Chooses ways.loaded.n ways.loaded.d ways.domains' ways.tables' ways.agenda' ways.second_agenda k ways.loaded.state
      ways.second

-- Neither save nor load is refused, and the end is the uncut call's: the same verdict, refusal, agenda, counts and number of subproblems; the numbers
-- taken add up.
pub record SameEnd {n d : ℕ} {domains tables : List ℕ} (w : TwoWays n d domains tables) : Type 0 where
  pub saved : w.saved.refusal ≡ 0
  pub loaded : w.loaded.refusal ≡ 0
  pub verdict : w.second.verdict ≡ w.whole.verdict
  pub refusal : w.second.refusal ≡ w.whole.refusal
  pub agenda_left : w.second_agenda ≡ w.whole_agenda
  pub steps : w.second.state.counts.steps.0 ≡ w.whole.state.counts.steps.0
  pub checks : w.second.state.counts.checks.0 ≡ w.whole.state.counts.checks.0
  pub subproblems : w.second.state.subproblems ≡ w.whole.state.subproblems
  pub taken : w.first.taken + w.second.taken ≡ w.whole.taken

-- Any list of requests, cut anywhere, saved, loaded into an agenda of equal length, gone on with: the same verdict, agenda and counts as uncut. Of
-- every search begun by opening, saved, loaded and moved any number of times since.
abbrev pub CutLived : Type 0
CutLived =
    (n d : ℕ) (domains opened-tables tables agenda : List ℕ) (s : State) (requests more : List ℕ) → Lived n d domains opened-tables tables agenda s
    → WholeRequests n (length requests) → WholeRequests n (length more)
    → (t : Trip n d domains tables agenda s requests more) → SameEnd t.ways

-- So of any search that passes the first checks, reached or not, in memory of words.
abbrev pub CutAny : Type 0
CutAny =
    (n d : ℕ) (domains tables agenda : List ℕ) (s : State) (requests more : List ℕ) → Handed n d domains tables agenda s
    → WholeRequests n (length requests) → WholeRequests n (length more)
    → (t : Trip n d domains tables agenda s requests more) → SameEnd t.ways

-- The house chooser, cut anywhere, saved, loaded into an agenda of equal length, gone on with: up to m steps and then up to k more end as up to m + k
-- uncut. Of any search that passes the first checks, reached or not, in memory of words. A first call that stops before its m steps, by a verdict or by
-- a refusal, is among them: the second then takes none and stops by the same. But a call asked for no step meets no refusal: where k is 0, the first is
-- to have met none.
abbrev pub CutChoose : Type 0
CutChoose =
    (n d : ℕ) (domains tables agenda : List ℕ) (s : State) (m k : ℕ) → Handed n d domains tables agenda s
    → (t : ChooserTrip n d domains tables agenda s m k) → (k ≡ 0 → t.ways.first.refusal ≡ 0) → SameEnd t.ways

-- What the first words of a file say is one.
abbrev pub HeaderOfOne : Type 0
HeaderOfOne = (file : List ℕ) → One (HeaderOf file)
