-- What the text says: of each refusal of load, of the calls, of line 1.
-- Assumes nothing.
use native.Mathlib.Omega.{arith}
use native.Mathlib.Decide.{ℕ_discrete}
use mathlib.Core.Path.{◌≡◌, refl, sym, ap, ◌∙◌}
use mathlib.Core.Logic.{inl, inr}
use mathlib.Core.Bool.{cond}
use mathlib.Core.List.{List, [], ◌∷◌, ◌++◌, append-nil}
use Prim.Native.Nat.{ℕ, ◌+◌, ◌*◌}
use native.Mathlib.Nat.{mul-div_cancel}
use lib.ListN.{length, get_or, take, replicate, length-replicate}
use lib.Dec.{eqb}
use borrow.Author.Tests.{eq-eqb, ne_eqb}
use Rattle.problem.specs.Masks.{lowest}
use Rattle.problem.specs.Problem.{Solution, table_of, problem_of}
use Rattle.splits.specs.Subproblems.{domain}
use Rattle.splits.specs.declared.subproblem.Subproblem.{Subproblem}
use Rattle.search.specs.Agenda.{stack_of, slots_in, agenda_of}
use Rattle.search.specs.Slots.{slots, Stopped}
use Rattle.search.specs.Tests.FirstChecks.{search_refusal}
use Rattle.searches.specs.Verdicts.{ascii, word_of, number_of, verdict_of}
use Rattle.searches.specs.Chooser.{choose}
use Rattle.search.specs.Calls.{search_of, Chooses}
use Rattle.search.specs.Promises.{VerdictSays}
use Rattle.search.specs.Outcomes.{Ran}
use Rattle.searches.specs.declared.verdict.Verdict.{Verdict}
use Rattle.searches.specs.declared.verdict.Verdict.TheVariants.{None, Running, Solved, Unsolvable}
use Rattle.search.proofs.first_checks.FirstPassing.{search_is_passed}
use Rattle.search.proofs.Promises.{chooser_says}
use Rattle.files.specs.Reading.{said_n, said_d, said_steps, said_checks, said_subproblems, said_domains, said_allowed, said_search, table_words, Deserves15}
use Rattle.blocks.specs.Reading.{Deserves14, Bytes}
use Rattle.files.specs.Calls.{load_refusal}
use Rattle.files.specs.Promises.{Says, LeftByLoad, Lived}
use Rattle.files.specs.Outcomes.{Loaded}
use Rattle.files.proofs.Accepted.{Accepts}
use Rattle.files.proofs.Solutions.{solution_agree}
use Rattle.files.proofs.Tables.{agree_back}
use Rattle.files.proofs.Back.{written_blocks}
use Rattle.files.proofs.Saving.{saved_bytes}
use Rattle.files.proofs.Loading.{load_taken, said_agree}
use Rattle.files.proofs.Promises.{load_14, load_15, load_none, load_leaves, load_after_save, lived_reached, unsolvable_choose}
use Rattle.answer.specs.Text.{decimal, decimal_of, verdict_line, counts_line, plan_of, plan_lines, refused_line, whole_text, text_of, text_from}
use Rattle.answer.specs.Calls.{refusal_of_load, ran_of, answer}
use Rattle.answer.specs.Promises.{Calls, OfTheCalls, SaysNoPlan}
use Rattle.answer.specs.Loops.Lending.{Lends}
use Rattle.answer.proofs.Answering.{same_refusal, chosen_text, chosen_steps, chosen_checks, solved_taken}

-- ---- load's refusals

-- The refusal, of buffers of the lengths asked for.
as_lent : (file : List ℕ) → refusal_of_load file
    ≡ load_refusal file (length (replicate {A = ℕ} (said_n file) 0)) (length (replicate {A = ℕ} (said_n file * said_n file * said_d file) 0))
    (length (replicate {A = ℕ} (512 * (said_n file + 2)) 0))
unfolding refusal_of_load
as_lent file =
    rw (
      length-replicate {A = ℕ} (said_n file) 0,
      length-replicate {A = ℕ} (said_n file * said_n file * said_d file) 0,
      length-replicate {A = ℕ} (512 * (said_n file + 2)) 0,
    )
    refl

-- The text of a refusal is its line.
refused_text : (file : List ℕ) (k : ℕ) → refusal_of_load file ≡ k → (k ≡ 0 → ⊥) → answer file ≡ refused_line k
unfolding answer
refused_text file k e h = rw e (rw (ne_eqb k 0 h) refl)

line_14 : refused_line 14 ≡ ascii "refused 14\n"
unfolding refused_line ascii decimal decimal_of
line_14 = refl

line_15 : refused_line 15 ≡ ascii "refused 15\n"
unfolding refused_line ascii decimal decimal_of
line_15 = refl

pub says_14 : (file : List ℕ) → Deserves14 file → answer file ≡ ascii "refused 14\n"
says_14 file h =
    refused_text file 14
    (as_lent file ∙ (load_14 file (replicate (said_n file) 0) (replicate (said_n file * said_n file * said_d file) 0) (replicate (512 * (said_n file + 2)) 0)
    ).1 h)
    (λ e. omega (arith, e)) ∙ line_14

pub says_15 : (file : List ℕ) → (Deserves14 file → ⊥) → Deserves15 file → answer file ≡ ascii "refused 15\n"
says_15 file g h =
    refused_text file 15
    (as_lent file ∙ (load_15 file (replicate (said_n file) 0) (replicate (said_n file * said_n file * said_d file) 0) (replicate (512 * (said_n file + 2)) 0)
    ).1 (g, h))
    (λ e. omega (arith, e)) ∙ line_15

pub not_refused : (file : List ℕ) → (Deserves14 file → ⊥) → (Deserves15 file → ⊥) → refusal_of_load file ≡ 0
not_refused file g h =
    let n : ℕ = said_n file in
    let all_slots : slots_in n (512 * (n + 2)) ≡ 512 = mul-div_cancel 512 (omega arith) in
    let x : List ℕ = replicate n 0 in
    let y : List ℕ = replicate (n * n * said_d file) 0 in
    let z : List ℕ = replicate (512 * (n + 2)) 0 in
    let long : length z ≡ 512 * (n + 2) = length-replicate (512 * (n + 2)) 0 in
    as_lent file ∙ (load_none file x y z).1 (
      g,
      h,
      (λ three. elim three [
        | inl f ↦ f (length-replicate n 0)
        | inr more ↦ elim more [
          | inl f ↦ f (length-replicate (n * n * said_d file) 0)
          | inr f ↦ f (512, omega arith, omega arith, long)
        ]
      ]),
      (λ twelve. h (inr (inr (inl (let all : slots_in n (length z) ≡ 512 = ap (slots_in n) long ∙ all_slots in omega (arith, twelve, all)))))),
    )

pub says_else : (file : List ℕ) → (Deserves14 file → ⊥) → (Deserves15 file → ⊥) → answer file ≡ text_of (said_n file) (ran_of file)
unfolding answer
says_else file g h = rw (eq-eqb (refusal_of_load file) 0 (not_refused file g h)) refl

-- ---- of the calls

-- The lengths lent are those that the file asks for.
pub lends : (file : List ℕ) (c : Calls file) → Lends file (length c.domains) (length c.tables) (length c.agenda)
lends file c = record { its_domains = λ h. c.domain_words; its_tables = λ h k. c.table_words; its_agenda = λ h. c.agenda_words }

of_refused : (file : List ℕ) (c : Calls file) → (c.loaded.refusal ≡ 0 → ⊥) → answer file ≡ refused_line c.loaded.refusal
of_refused file c h =
    refused_text file c.loaded.refusal (sym (same_refusal file _ _ _ (lends file c)) ∙ sym c.loads.refusal) h

of_run : (file : List ℕ) → Bytes file → (c : Calls file) → c.loaded.refusal ≡ 0 → answer file ≡ text_from (said_n file) c.after c.ran
of_run file bytes c accepted =
    sym (chosen_text file c.domains c.domains' c.tables c.tables' c.agenda c.agenda' c.loaded c.after c.ran bytes (lends file c) c.loads
    accepted c.chooses)
    ∙ ap (λ n. text_from n c.after c.ran)
    (load_leaves file c.domains c.domains' c.tables c.tables' c.agenda c.agenda' c.loaded bytes c.loads accepted).its_n

-- The text of what is returned, refused or not.
from_refusal : (n : ℕ) (after : List ℕ) (ran : Ran) → (ran.refusal ≡ 0 → ⊥)
    → text_from n after ran
    ≡ verdict_line ran.verdict ++ counts_line ran.state.counts.steps.0 ran.state.counts.checks.0 ++ refused_line ran.refusal
unfolding text_from whole_text
from_refusal n after ran h = rw (ne_eqb ran.refusal 0 h) refl

from_none : (n : ℕ) (after : List ℕ) (ran : Ran) → ran.refusal ≡ 0
    → text_from n after ran
    ≡ verdict_line ran.verdict ++ counts_line ran.state.counts.steps.0 ran.state.counts.checks.0
    ++ plan_lines n (stack_of n after ran.state.subproblems)
unfolding text_from whole_text
from_none n after ran h = rw (eq-eqb ran.refusal 0 h) refl

pub of_calls : OfTheCalls
of_calls file bytes c = (of_refused file c, of_run file bytes c)

-- The same, line by line: a refusal's line; the plan's lines.
module _ (file : List ℕ) (bytes : Bytes file) (c : Calls file) (accepted : c.loaded.refusal ≡ 0) where
  pub of_refusal : (c.ran.refusal ≡ 0 → ⊥)
      → answer file
      ≡ verdict_line c.ran.verdict ++ counts_line c.ran.state.counts.steps.0 c.ran.state.counts.checks.0 ++ refused_line
      c.ran.refusal
  of_refusal refused = of_run file bytes c accepted ∙ from_refusal (said_n file) c.after c.ran refused

  pub of_lines : c.ran.refusal ≡ 0
      → answer file
      ≡ verdict_line c.ran.verdict ++ counts_line c.ran.state.counts.steps.0 c.ran.state.counts.checks.0
      ++ plan_lines (said_n file) (stack_of (said_n file) c.after c.ran.state.subproblems)
  of_lines none = of_run file bytes c accepted ∙ from_none (said_n file) c.after c.ran none

-- There are such calls, of any file.
pub calls_of : (file : List ℕ) → Calls file
calls_of file =
    let n : ℕ = said_n file in
    let x : List ℕ = replicate n 0 in
    let y : List ℕ = replicate (n * n * said_d file) 0 in
    let z : List ℕ = replicate (512 * (n + 2)) 0 in
    let k : ℕ = load_refusal file (length x) (length y) (length z) in
    let l : Loaded = record {
      refusal = k;
      n = cond (eqb k 0) (said_n file) 0;
      d = cond (eqb k 0) (said_d file) 0;
      state = record {
        counts = record { steps = record { 0 = cond (eqb k 0) (said_steps file) 0 }; checks = record { 0 = cond (eqb k 0) (said_checks file) 0 } };
        subproblems = cond (eqb k 0) (said_subproblems file) 0;
      };
    } in
    let x' : List ℕ = cond (eqb k 0) (said_domains file) x in
    let y' : List ℕ = cond (eqb k 0) (table_words (said_n file) (said_d file) (said_allowed file)) y in
    let z' : List ℕ = cond (eqb k 0) (agenda_of (said_n file) (length z) (said_search file).memory) z in
    let first : ℕ = search_refusal l.n l.d x' y' z' l.state.counts.steps.0 l.state.counts.checks.0 l.state.subproblems in
    let stopped : Stopped = choose (problem_of l.n l.d x' y') (slots (slots_in l.n (length z'))) 1000000 (search_of l.n z' l.state) in
    record {
      domains = x;
      domains' = x';
      tables = y;
      tables' = y';
      agenda = z;
      agenda' = z';
      after = cond (eqb first 0) (agenda_of l.n (length z') stopped.search.memory) z';
      loaded = l;
      ran = record {
        verdict = cond (eqb first 0) (verdict_of l.n stopped.search.memory) None;
        refusal = cond (eqb first 0) stopped.refusal first;
        taken = cond (eqb first 0) stopped.taken 0;
        state = record {
          counts = record {
            steps = record { 0 = cond (eqb first 0) stopped.search.steps l.state.counts.steps.0 };
            checks = record { 0 = cond (eqb first 0) stopped.search.checks l.state.counts.checks.0 };
          };
          subproblems = cond (eqb first 0) (length stopped.search.memory) l.state.subproblems;
        };
      };
      loads = record {
        refusal = refl;
        its_n = refl;
        its_d = refl;
        steps = refl;
        checks = refl;
        subproblems = refl;
        its_domains = refl;
        its_tables = refl;
        its_agenda = refl;
      };
      domain_words = length-replicate n 0;
      table_words = length-replicate (n * n * said_d file) 0;
      agenda_words = length-replicate (512 * (n + 2)) 0;
      chooses = record { verdict = refl; refusal = refl; taken = refl; steps = refl; checks = refl; subproblems = refl; agenda = refl };
    }

-- Load takes a file that deserves neither 14 nor 15.
pub load_takes : (file : List ℕ) → (Deserves14 file → ⊥) → (Deserves15 file → ⊥) → (calls_of file).loaded.refusal ≡ 0
unfolding calls_of
load_takes file g h = sym (as_lent file) ∙ not_refused file g h

-- ---- line 1

-- The first byte of a text tells its first line.
refused_first : (k : ℕ) (rest : List ℕ) → get_or (refused_line k ++ rest) 0 0 ≡ 114
unfolding refused_line ascii
refused_first k rest = refl

verdict_first : (v : Verdict) (l a b : List ℕ) (k : ℕ) → l ≡ verdict_line v ++ a ++ b → get_or l 0 0 ≡ k
    → (k ≡ 115 → v ≡ Solved) × (k ≡ 117 → v ≡ Unsolvable)
unfolding verdict_line word_of ascii
verdict_first v l a b k is e = by v (sym (ap (λ m. get_or m 0 0) is) ∙ e)
  where
    by : (w : Verdict) → get_or (verdict_line w ++ a ++ b) 0 0 ≡ k → (k ≡ 115 → w ≡ Solved) × (k ≡ 117 → w ≡ Unsolvable)
    by None e = (λ h. absurd (omega (arith, e, h)), λ h. absurd (omega (arith, e, h)))
    by Running e = (λ h. absurd (omega (arith, e, h)), λ h. absurd (omega (arith, e, h)))
    by Solved e = (λ h. refl, λ h. absurd (omega (arith, e, h)))
    by Unsolvable e = (λ h. absurd (omega (arith, e, h)), λ h. refl)

-- A text whose first byte is not that of a refused load is that of a run.
module _ (file : List ℕ) (bytes : Bytes file) (c : Calls file) (k : ℕ) (first : get_or (answer file) 0 0 ≡ k) (other : k ≡ 114 → ⊥) where
  pub taken_in : c.loaded.refusal ≡ 0
  taken_in = elim (ℕ_discrete c.loaded.refusal 0) [
    | yes e ↦ e
    | no h ↦
        absurd
        (other
        (sym first ∙ ap (λ l. get_or l 0 0) (of_refused file c h ∙ sym (append-nil (refused_line c.loaded.refusal))) ∙ refused_first
        c.loaded.refusal []))
  ]

  pub its_verdict : (k ≡ 115 → c.ran.verdict ≡ Solved) × (k ≡ 117 → c.ran.verdict ≡ Unsolvable)
  its_verdict = elim (ℕ_discrete c.ran.refusal 0) [
    | yes e ↦ verdict_first c.ran.verdict (answer file) _ _ k (of_lines file bytes c taken_in e) first
    | no h ↦ verdict_first c.ran.verdict (answer file) _ _ k (of_refusal file bytes c taken_in h) first
  ]

-- ---- a plan, and none

solved_line : verdict_line Solved ≡ ascii "solved\n"
unfolding verdict_line word_of ascii
solved_line = refl

-- Solved: the values of the top slot.
module _ (file : List ℕ) (bytes : Bytes file) (rest : List ℕ) (solved : answer file ≡ ascii "solved\n" ++ rest) where
  c : Calls file
  c = calls_of file

  first : get_or (answer file) 0 0 ≡ 115
  unfolding ascii
  first = ap (λ l. get_or l 0 0) solved

  accepted : c.loaded.refusal ≡ 0
  accepted = taken_in file bytes c 115 first (λ e. omega (arith, e))

  verdict : c.ran.verdict ≡ Solved
  verdict = (its_verdict file bytes c 115 first (λ e. omega (arith, e))).0 refl

  left : LeftByLoad file c.agenda c.domains' c.tables' c.agenda' c.loaded
  left = load_leaves file c.domains c.domains' c.tables c.tables' c.agenda c.agenda' c.loaded bytes c.loads accepted

  none : c.ran.refusal ≡ 0
  none =
      solved_taken file c.domains c.domains' c.tables c.tables' c.agenda c.agenda' c.loaded c.after c.ran bytes
      (lends file c) c.loads
      accepted c.chooses verdict

  says : VerdictSays c.loaded.n c.loaded.d c.domains' c.tables' c.after c.ran
  says =
      chooser_says c.loaded.n c.loaded.d c.domains' c.tables' c.agenda' c.after 1000000 c.loaded.state c.ran left.handed
      c.chooses

  -- The values are a solution of the problem that the file says.
  in_words : (n d : ℕ) (domains' tables' : List ℕ) (f : ℕ → ℕ) → n ≡ said_n file → d ≡ said_d file → domains' ≡ said_domains file
      → tables' ≡ table_words (said_n file) (said_d file) (said_allowed file) → Accepts file → Solution n (table_of n d tables') (λ i. get_or domains' i 0) f
      → Solution (said_n file) (said_allowed file) (λ i. get_or (said_domains file) i 0) f
  in_words n d domains' tables' f n-is d-is domains-are tables_are a h =
      let memory = table_of (said_n file) (said_d file) (table_words (said_n file) (said_d file) (said_allowed file)) in
      solution_agree (said_n file) (said_d file) (λ i. get_or (said_domains file) i 0) memory (said_allowed file) f
      (agree_back (said_allowed file) memory (said_agree file a)) a.domains (rw (n-is, d-is, domains-are, tables_are) at h)

  -- The lines are those of the top.
  top_lines : (P : Subproblem) (S : List Subproblem) → stack_of c.loaded.n c.after c.ran.state.subproblems ≡ P ∷ S
      → plan_lines (said_n file) (stack_of (said_n file) c.after c.ran.state.subproblems) ≡ plan_of (said_n file) (λ i. lowest (domain P i))
  unfolding plan_lines
  top_lines P S e =
      let stack : stack_of (said_n file) c.after c.ran.state.subproblems ≡ P ∷ S = ap (λ n. stack_of n c.after c.ran.state.subproblems)
      (sym left.its_n) ∙ e in
      let solved : verdict_of (said_n file) (P ∷ S) ≡ Solved =
      ap (verdict_of (said_n file)) (sym stack) ∙ ap (λ n. verdict_of n (stack_of n c.after c.ran.state.subproblems)) (sym left.its_n) ∙ sym
      says.verdict ∙ verdict in
      rw (stack, solved) refl

  pub a_plan : (f : ℕ → ℕ)
      × (answer file
      ≡ ascii "solved\n" ++ counts_line (ran_of file).search.steps (ran_of file).search.checks
      ++ plan_of (said_n file) f)
      × Solution (said_n file) (said_allowed file) (λ i. get_or (said_domains file) i 0) f
  a_plan =
      let (P, S, stack, values, solution) = says.solved (ap number_of verdict) in
      let a = (load_taken file (length c.domains) (length c.tables) (length c.agenda) (sym c.loads.refusal ∙ accepted)).accepts in
      let steps = chosen_steps file c.domains c.domains' c.tables c.tables' c.agenda c.agenda' c.loaded c.after c.ran bytes
      (lends file c) c.loads accepted c.chooses in
      let checks = chosen_checks file c.domains c.domains' c.tables c.tables' c.agenda c.agenda' c.loaded c.after c.ran bytes (lends file c) c.loads accepted c.chooses in (
        λ i. lowest (domain P i),
        of_lines file bytes c accepted none ∙ ap
            (λ l. verdict_line c.ran.verdict ++ counts_line c.ran.state.counts.steps.0 c.ran.state.counts.checks.0 ++ l)
            (top_lines P S stack)
            ∙ ap
            (λ v. verdict_line v ++ counts_line c.ran.state.counts.steps.0 c.ran.state.counts.checks.0 ++ plan_of (said_n file)
            (λ i. lowest (domain P i)))
            verdict
            ∙ ap (λ k. verdict_line Solved ++ counts_line k c.ran.state.counts.checks.0 ++ plan_of (said_n file) (λ i. lowest (domain P i))) steps
            ∙ ap (λ k. verdict_line Solved ++ counts_line (ran_of file).search.steps k ++ plan_of (said_n file) (λ i. lowest (domain P i))) checks
            ∙ ap (λ l. l ++ counts_line (ran_of file).search.steps (ran_of file).search.checks ++ plan_of (said_n file) (λ i. lowest (domain P i)))
            solved_line,
        in_words c.loaded.n c.loaded.d c.domains' c.tables' (λ i. lowest (domain P i)) left.its_n left.its_d left.its_domains
            left.its_tables a solution,
      )

-- Unsolvable, of a file that save wrote of a search begun by opening.
pub no_plan : SaysNoPlan
unfolding ascii
no_plan n d domains opened-tables tables agenda s before after saved rest h saves none unsolvable =
    let file : List ℕ = take (512 * saved.blocks) after in
    let c : Calls file = calls_of file in
    let first : get_or (answer file) 0 0 ≡ 117 = ap (λ l. get_or l 0 0) unsolvable in
    let handed = (lived_reached n d domains opened-tables tables agenda s h).0 in
    let blocks = written_blocks n d domains tables agenda s before after saved saves (sym saves.refusal ∙ none) in
    let passed = (search_is_passed n d domains tables agenda s.counts.steps.0 s.counts.checks.0 s.subproblems).0 handed.passes in
    let bytes : Bytes file = rw blocks (saved_bytes n d domains tables agenda s handed.words passed handed.stepped) in
    let accepted = taken_in file bytes c 117 first (λ e. omega (arith, e)) in
    let verdict = (its_verdict file bytes c 117 first (λ e. omega (arith, e))).1 refl in
    let says : Says file n d domains (table_of n d tables) (search_of n agenda s) =
    rw blocks (load_after_save n d domains tables agenda s handed.words handed.passes) in
    let left = load_leaves file c.domains c.domains' c.tables c.tables' c.agenda c.agenda' c.loaded bytes c.loads accepted in
    let n-is : c.loaded.n ≡ n = left.its_n ∙ says.its_n in
    let d-is : c.loaded.d ≡ d = left.its_d ∙ says.its_d in
    let domains-are : c.domains' ≡ domains = left.its_domains ∙ says.its_domains in
    let chooses : Chooses n d domains c.tables' c.agenda' c.after 1000000 c.loaded.state c.ran = rw (n-is, d-is, domains-are) at
    c.chooses in
    unsolvable_choose n d domains opened-tables c.tables' c.agenda' c.after 1000000 c.loaded.state c.ran
    (Lived.loaded h saves none c.loads accepted) chooses (ap number_of verdict)
