-- What the calls for C promise beside their statements. Stated here, proved in proofs/Promises.antt.
use Rattle.std.specs.Prelude.{◌≡◌, ◌↔◌, ℕ, ◌+◌, ◌-◌, ◌*◌, ◌≤◌, length, take, drop}
use mathlib.Core.List.{List, Memᴰ, ◌++◌}
use Rattle.problem.specs.Problem.{Problem, Words}
use Rattle.splitting.specs.Promises.{Solvable}
use Rattle.splits.specs.declared.subproblem.Subproblem.{Subproblem}
use Rattle.searches.specs.Verdicts.{number_of}
use Rattle.search.specs.Slots.{Search}
use Rattle.searches.specs.Runs.{requests_in}
use Rattle.problem.specs.FirstChecks.{Deserves1, Deserves2}
use Rattle.search.specs.FirstChecks.{WholeRequests}
use Rattle.search.specs.Calls.{Opens, Runs, Chooses}
use Rattle.searches.specs.Promises.{HasSolution, Limited}
use Rattle.search.specs.declared.state.State.{State}
use Rattle.search.specs.Outcomes.{Opened}
use Rattle.search.specs.Outcomes.{Ran}
use Rattle.blocks.specs.Reading.{Deserves14}
use Rattle.files.specs.Reading.{Deserves15}
use Rattle.blocks.specs.Blocks.{blocks_for}
use Rattle.files.specs.Calls.{handed_content, Loads}
use Rattle.files.specs.Promises.{Lived}
use Rattle.files.specs.Outcomes.{Loaded}
use Rattle.word_bytes.specs.Bytes.{Bytes, Whole, words_of}
use Rattle.console.specs.Searches.{Held, Typed, Outcome, Way, by_requests, by_chooser, GoesOn, problem_in, search_in, PlanIn, LivedForC}
use Rattle.console.specs.Calls.{state_of, unwhole, unwhole_file, WholeProblem, OpensBytes, OpensForC, RunsBytes, RunsForC, ChoosesBytes, ChoosesForC, SavesForC, LoadsBytes, LoadsForC}

-- ---- a slice that is not whole words, in 3's place of the order

-- 1 exactly when n deserves it, 2 exactly when d does and n does not, else 3.
abbrev pub Unwhole1 : Type 0
Unwhole1 = (n d : ℕ) → (unwhole n d ≡ 1) ↔ Deserves1 n

abbrev pub Unwhole2 : Type 0
Unwhole2 = (n d : ℕ) → (unwhole n d ≡ 2) ↔ (Deserves2 d × (Deserves1 n → ⊥))

abbrev pub Unwhole3 : Type 0
Unwhole3 = (n d : ℕ) → (unwhole n d ≡ 3) ↔ ((Deserves1 n → ⊥) × (Deserves2 d → ⊥))

-- At load: 14, 15, else 3.
abbrev pub Unwhole14 : Type 0
Unwhole14 = (file : List ℕ) → (unwhole_file file ≡ 14) ↔ Deserves14 file

abbrev pub Unwhole15 : Type 0
Unwhole15 = (file : List ℕ) → (unwhole_file file ≡ 15) ↔ ((Deserves14 file → ⊥) × Deserves15 file)

abbrev pub UnwholeFile3 : Type 0
UnwholeFile3 = (file : List ℕ) → (unwhole_file file ≡ 3) ↔ ((Deserves14 file → ⊥) × (Deserves15 file → ⊥))

-- ---- the covered calls at the words that the bytes say, before and after

-- So what is promised of the covered calls is promised of those for C.
abbrev pub OpenInWords : Type 0
OpenInWords =
    (n d : ℕ) (domains tables before after : List ℕ) (r : Opened) → WholeProblem domains tables before → OpensBytes n d domains tables before after r
    → Opens n d (words_of domains) (words_of tables) (words_of before) (words_of after) r

abbrev pub RunInWords : Type 0
RunInWords =
    (n d : ℕ) (domains tables before after requests : List ℕ) (s : State) (r : Ran) → WholeProblem domains tables before → Whole requests
    → RunsBytes n d domains tables before after requests s r
    → Runs n d (words_of domains) (words_of tables) (words_of before) (words_of after) (words_of requests) s r

abbrev pub ChooseInWords : Type 0
ChooseInWords =
    (n d : ℕ) (domains tables before after : List ℕ) (limit : ℕ) (s : State) (r : Ran) → WholeProblem domains tables before
    → ChoosesBytes n d domains tables before after limit s r
    → Chooses n d (words_of domains) (words_of tables) (words_of before) (words_of after) limit s r

abbrev pub LoadInWords : Type 0
LoadInWords =
    (file domains domains' tables tables' agenda agenda' : List ℕ) (r : Loaded) → WholeProblem domains tables agenda
    → LoadsBytes file domains domains' tables tables' agenda agenda' r
    → Loads file (words_of domains) (words_of domains') (words_of tables) (words_of tables') (words_of agenda) (words_of agenda') r

-- ---- a list of requests run in two parts

-- A run of `requests`, then `more`, of any search in words of 16 bits whose steps fit their counter: where the run of `requests` took all of
-- them, none refused, it is the run of `more` from what that left, the requests taken added up; where it was refused or is not running any
-- more, it is the run of `requests`.
abbrev pub RunInParts : Type 0
RunInParts =
    (n d : ℕ) (domains tables before mid requests more : List ℕ) (s : State) (r : Ran) → Words before → s.counts.steps.0 ≤ 4294967295
    → WholeRequests n (length requests) → WholeRequests n (length more) → Runs n d domains tables before mid requests s r
    → (r.refusal ≡ 0 → r.taken ≡ length (requests_in n requests) → (after : List ℕ) (q : Ran) → Runs n d domains tables mid after more r.state q
    → Runs n d domains tables before after (requests ++ more) s
    (record { verdict = q.verdict; refusal = q.refusal; taken = r.taken + q.taken; state = q.state }))
    × ((r.refusal ≡ 0 → number_of r.verdict ≡ 1 → ⊥) → Runs n d domains tables before mid (requests ++ more) s r)

-- ---- a refusal changes no byte

-- Of every call that is refused, what was lent stays, to the byte, but for the numbers that the header says it clears. Domains, tables and requests,
-- and of save the agenda, are lent to be read, so that no call can change them; load alone writes domains and tables.

-- Opening: the agenda stays, the three numbers are 0.
abbrev pub OpenRefused : Type 0
OpenRefused =
    (n d : ℕ) (domains tables before after : List ℕ) (steps checks subproblems refusal : ℕ) → Bytes before
    → OpensForC n d domains tables before after steps checks subproblems refusal → (refusal ≡ 0 → ⊥)
    → (after ≡ before) × (steps ≡ 0) × (checks ≡ 0) × (subproblems ≡ 0)

-- A run or the chooser, at its first checks (1 to 6): the agenda and the three numbers stay, verdict and taken are 0.
abbrev pub FirstRefused : Type 0
FirstRefused =
    (n d : ℕ) (domains tables : List ℕ) (s : Held) (way : Way) (o : Outcome) → Typed s → GoesOn n d domains tables s way o → 1 ≤ o.refusal
    → o.refusal ≤ 6 → o ≡ record { held = s; verdict = 0; taken = 0; refusal = o.refusal }

-- Save: the file buffer stays, no block is written.
abbrev pub SaveRefused : Type 0
SaveRefused =
    (n d : ℕ) (domains tables agenda : List ℕ) (steps checks subproblems : ℕ) (before after : List ℕ) (blocks refusal : ℕ)
    → SavesForC n d domains tables agenda steps checks subproblems before after blocks refusal → (refusal ≡ 0 → ⊥)
    → (after ≡ before) × (blocks ≡ 0)

-- Load: domains, tables and agenda stay, the five numbers are 0.
abbrev pub LoadRefused : Type 0
LoadRefused =
    (file domains domains' tables tables' agenda agenda' : List ℕ) (n d steps checks subproblems refusal : ℕ) → Bytes domains → Bytes tables
    → Bytes agenda → LoadsForC file domains domains' tables tables' agenda agenda' n d steps checks subproblems refusal → (refusal ≡ 0 → ⊥)
    → (domains' ≡ domains) × (tables' ≡ tables) × (agenda' ≡ agenda) × (n ≡ 0) × (d ≡ 0) × (steps ≡ 0) × (checks ≡ 0) × (subproblems ≡ 0)

-- ---- requests accepted before a refusal stand

-- A run whose first checks pass, refused later or not: the run of the requests that it took, alone, leaves the same bytes and numbers, takes all of them
-- and is not refused.
abbrev pub TakenStand : Type 0
TakenStand =
    (n d : ℕ) (domains tables requests : List ℕ) (s : Held) (o q : Outcome) → Typed s → GoesOn n d domains tables s (by_requests requests) o
    → (o.verdict ≡ 0 → ⊥) → GoesOn n d domains tables s (by_requests (take (2 * (o.taken * (n + 3))) requests)) q
    → q ≡ record { held = o.held; verdict = o.verdict; taken = o.taken; refusal = 0 }

-- ---- what a verdict says of the bytes

-- Solved, 2: the top slot, subproblems - 1, shows a plan.
abbrev pub SolvedShowsPlan : Type 0
SolvedShowsPlan =
    (n d : ℕ) (domains tables : List ℕ) (s : Held) (way : Way) (o : Outcome) → Typed s → GoesOn n d domains tables s way o → o.verdict ≡ 2
    → (1 ≤ o.held.subproblems) × PlanIn n d domains tables o.held.agenda (o.held.subproblems - 1)

-- Unsolvable, 3: exactly if no subproblem is held, where the first checks pass.
abbrev pub UnsolvableIfNone : Type 0
UnsolvableIfNone =
    (n d : ℕ) (domains tables : List ℕ) (s : Held) (way : Way) (o : Outcome) → Typed s → GoesOn n d domains tables s way o
    → (o.verdict ≡ 0 → ⊥) → (o.verdict ≡ 3) ↔ (o.held.subproblems ≡ 0)

-- ---- searches begun by opening, by the calls for C alone

-- In words it is a search that files' `Lived` has, so that what is promised of those holds of it.
abbrev pub LivedInWords : Type 0
LivedInWords =
    (n d : ℕ) (domains opened-tables tables : List ℕ) (s : Held) → LivedForC n d domains opened-tables tables s
    → Lived n d (words_of domains) (words_of opened-tables) (words_of tables) (words_of s.agenda) (state_of s.steps s.checks s.subproblems)

-- A way on that says unsolvable: the problem that was opened has no plan.
abbrev pub UnsolvableNoPlan : Type 0
UnsolvableNoPlan =
    (n d : ℕ) (domains opened-tables tables : List ℕ) (s : Held) (way : Way) (o : Outcome) → LivedForC n d domains opened-tables tables s
    → GoesOn n d domains tables s way o → o.verdict ≡ 3 → HasSolution (problem_in n d domains opened-tables) → ⊥

-- Of each such search, something said of the problem that was opened and of the search.
abbrev pub LivesForC : (Problem → Search → Type 0) → Type 0
LivesForC Said =
    (n d : ℕ) (domains opened-tables tables : List ℕ) (s : Held) → LivedForC n d domains opened-tables tables s
    → Said (problem_in n d domains opened-tables) (search_in n s)

-- The problem has a plan exactly if some subproblem that is held has one.
abbrev pub SolvableHeld : Type 0
SolvableHeld = LivesForC (λ p s. HasSolution p ↔ ((P : Subproblem) × Memᴰ P s.memory × Solvable p P))

-- The steps are limited by the possibilities.
abbrev pub StepsLimited : Type 0
StepsLimited = LivesForC (λ p s. Limited p s.steps)

-- ---- the cut, on bytes

-- Two ways on from one search, by the calls for C. Uncut: one call. Cut: a first call, what it leaves saved into a buffer of at least its blocks, loaded
-- from exactly these blocks into domains and tables of the right lengths and an agenda of equal length, and a second call on what was loaded, which may
-- depend on how many requests the first took. Whatever the lent buffers held before.
pub record Cut (n d : ℕ) (domains tables : List ℕ) (s : Held) (all to_the_cut : Way) (rest : ℕ → Way) : Type 0 where
  pub whole : Outcome
  pub uncut : GoesOn n d domains tables s all whole
  pub first : Outcome
  pub first_part : GoesOn n d domains tables s to_the_cut first
  pub buffer : List ℕ
  pub written : List ℕ
  pub blocks : ℕ
  pub save_refusal : ℕ
  pub saves : SavesForC n d domains tables first.held.agenda first.held.steps first.held.checks first.held.subproblems buffer written
      blocks save_refusal
  pub enough : 512 * blocks_for (length (handed_content n d (words_of domains) (words_of tables) (words_of first.held.agenda) (state_of first.held.steps first.held.checks first.held.subproblems))) ≤ length buffer
  pub loaded : Held
  pub n' : ℕ
  pub d' : ℕ
  pub domains₀ : List ℕ
  pub domains' : List ℕ
  pub tables₀ : List ℕ
  pub tables' : List ℕ
  pub agenda₀ : List ℕ
  pub load_refusal : ℕ
  pub loads : LoadsForC (take (512 * blocks) written) domains₀ domains' tables₀ tables' agenda₀ loaded.agenda n' d' loaded.steps loaded.checks
      loaded.subproblems load_refusal
  pub domain_bytes : length domains₀ ≡ 2 * n
  pub table_bytes : length tables₀ ≡ 2 * (n * n * d)
  pub agenda_bytes : length agenda₀ ≡ length first.held.agenda
  pub second : Outcome
  pub goes_on : GoesOn n' d' domains' tables' loaded (rest first.taken) second

-- Neither save nor load is refused, and the end is the uncut call's, to the byte: agenda, three numbers, verdict and refusal; the numbers taken add up.
pub record EndsAsUncut {n d : ℕ} {domains tables : List ℕ} {s : Held} {all to_the_cut : Way} {rest : ℕ → Way}
    (c : Cut n d domains tables s all to_the_cut rest) : Type 0 where
  pub saved : c.save_refusal ≡ 0
  pub loaded : c.load_refusal ≡ 0
  pub held : c.second.held ≡ c.whole.held
  pub verdict : c.second.verdict ≡ c.whole.verdict
  pub refusal : c.second.refusal ≡ c.whole.refusal
  pub taken : c.first.taken + c.second.taken ≡ c.whole.taken

-- A list of requests, cut between two of them, of any search whose first checks pass, both to the cut and uncut: the second call runs the requests not
-- yet taken.
abbrev pub CutRun : Type 0
CutRun =
    (n d : ℕ) (domains tables requests more : List ℕ) (s : Held) → Typed s
    → (c : Cut n d domains tables s (by_requests (requests ++ more)) (by_requests requests)
    (λ taken. by_requests (drop (2 * (taken * (n + 3))) (requests ++ more))))
    → (c.first.verdict ≡ 0 → ⊥) → (c.whole.verdict ≡ 0 → ⊥) → EndsAsUncut c

-- The house chooser, up to m steps and then up to k more. A call asked for no step meets no refusal: where k is 0, the first is to have met none.
abbrev pub CutChooser : Type 0
CutChooser =
    (n d : ℕ) (domains tables : List ℕ) (m k : ℕ) (s : Held) → Typed s
    → (c : Cut n d domains tables s (by_chooser (m + k)) (by_chooser m) (λ taken. by_chooser k)) → (c.first.verdict ≡ 0 → ⊥)
    → (k ≡ 0 → c.first.refusal ≡ 0) → EndsAsUncut c

-- ---- one answer

-- No two differing outcomes, numbers behind pointers and bytes at exit among them, satisfy a statement at one input.
abbrev pub RastwobOpenOne : Type 0
RastwobOpenOne =
    (n d : ℕ) (domains tables before after after' : List ℕ) (steps steps' checks checks' subproblems subproblems' refusal refusal' : ℕ)
    → OpensForC n d domains tables before after steps checks subproblems refusal
    → OpensForC n d domains tables before after' steps' checks' subproblems' refusal'
    → (after ≡ after') × (steps ≡ steps') × (checks ≡ checks') × (subproblems ≡ subproblems') × (refusal ≡ refusal')

abbrev pub RastwobRunOne : Type 0
RastwobRunOne =
    (n d : ℕ) (domains tables before after after' requests : List ℕ) (steps checks subproblems : ℕ)
    (steps₁ steps₂ checks₁ checks₂ subproblems₁ subproblems₂ verdict verdict' taken taken' refusal refusal' : ℕ)
    → RunsForC n d domains tables before after requests steps steps₁ checks checks₁ subproblems subproblems₁ verdict taken refusal
    → RunsForC n d domains tables before after' requests steps steps₂ checks checks₂ subproblems subproblems₂ verdict' taken' refusal'
    → (after ≡ after') × (steps₁ ≡ steps₂) × (checks₁ ≡ checks₂) × (subproblems₁ ≡ subproblems₂) × (verdict ≡ verdict') × (taken ≡ taken')
    × (refusal ≡ refusal')

abbrev pub RastwobChooseOne : Type 0
RastwobChooseOne =
    (n d : ℕ) (domains tables before after after' : List ℕ) (limit steps checks subproblems : ℕ)
    (steps₁ steps₂ checks₁ checks₂ subproblems₁ subproblems₂ verdict verdict' taken taken' refusal refusal' : ℕ)
    → ChoosesForC n d domains tables before after limit steps steps₁ checks checks₁ subproblems subproblems₁ verdict taken refusal
    → ChoosesForC n d domains tables before after' limit steps steps₂ checks checks₂ subproblems subproblems₂ verdict' taken' refusal'
    → (after ≡ after') × (steps₁ ≡ steps₂) × (checks₁ ≡ checks₂) × (subproblems₁ ≡ subproblems₂) × (verdict ≡ verdict') × (taken ≡ taken')
    × (refusal ≡ refusal')

abbrev pub RastwobSaveOne : Type 0
RastwobSaveOne =
    (n d : ℕ) (domains tables agenda : List ℕ) (steps checks subproblems : ℕ) (before after after' : List ℕ) (blocks blocks' refusal refusal' : ℕ)
    → SavesForC n d domains tables agenda steps checks subproblems before after blocks refusal
    → SavesForC n d domains tables agenda steps checks subproblems before after' blocks' refusal'
    → (after ≡ after') × (blocks ≡ blocks') × (refusal ≡ refusal')

abbrev pub RastwobLoadOne : Type 0
RastwobLoadOne =
    (file domains domains₁ domains₂ tables tables₁ tables₂ agenda agenda₁ agenda₂ : List ℕ)
    (n n' d d' steps steps' checks checks' subproblems subproblems' refusal refusal' : ℕ)
    → LoadsForC file domains domains₁ tables tables₁ agenda agenda₁ n d steps checks subproblems refusal
    → LoadsForC file domains domains₂ tables tables₂ agenda agenda₂ n' d' steps' checks' subproblems' refusal'
    → (domains₁ ≡ domains₂) × (tables₁ ≡ tables₂) × (agenda₁ ≡ agenda₂) × (n ≡ n') × (d ≡ d') × (steps ≡ steps') × (checks ≡ checks')
    × (subproblems ≡ subproblems') × (refusal ≡ refusal')
