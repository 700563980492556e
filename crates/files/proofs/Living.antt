-- Searches begun by opening and gone on with by calls, saves and loads among them: each passes when handed on, and is reached.
-- Assumes nothing.
use mathlib.Core.Path.{◌≡◌, refl, sym, ap, ◌∙◌}
use mathlib.Core.Bool.{false}
use mathlib.Core.List.{List}
use Prim.Native.Nat.{ℕ, ◌*◌, ◌≤◌}
use native.Mathlib.Omega.{arith}
use native.Mathlib.Decide.{ℕ_discrete}
use lib.ListN.{length, get_or, take, replicate, length-replicate}
use lib.Dec.{eqb}
use borrow.Author.Tests.{ne_eqb}
use Rattle.problem.specs.Problem.{AllowSame, Proper, table_of, AgreeApart, problem_of}
use Rattle.search.specs.Agenda.{stack_of, slots_in, agenda_of}
use Rattle.search.specs.Slots.{slots}
use Rattle.searches.specs.Runs.{requests_in}
use Rattle.search.specs.FirstChecks.{WholeSlots}
use Rattle.search.specs.Tests.FirstChecks.{run_refusal}
use Rattle.searches.specs.Verdicts.{number_of, verdict_of}
use Rattle.search.specs.Calls.{search_of, Runs}
use Rattle.searches.specs.Promises.{Shown, HasSolution}
use Rattle.search.specs.Promises.{Handed, Leaves, Reached}
use Rattle.search.specs.declared.state.State.{State}
use Rattle.search.specs.Outcomes.{Ran}
use Rattle.searches.specs.declared.verdict.Verdict.{Verdict}
use Rattle.searches.specs.declared.verdict.Verdict.TheVariants.{None}
use Rattle.search.proofs.first_checks.FirstPassing.{Passed, run_is_passed}
use Rattle.search.proofs.Encoding.{length_stack_of}
use Rattle.search.proofs.HandedOn.{known, leaves, some_slots, whole_requests}
use Rattle.search.proofs.Promises.{open_leaves, run_leaves, chooser_leaves, run_says}
use Rattle.search.proofs.Reaching.{reached_opened, reached_moved, reached_passes, reached_unsolvable}
use Rattle.searches.specs.Reached.{Reached as ReachedBy}
use Rattle.searches.proofs.Promises.{solved_shows}
use Rattle.blocks.specs.Blocks.{file_of}
use Rattle.files.specs.Reading.{said_allowed, table_words}
use Rattle.files.specs.Calls.{handed_content, save_refusal, Saves, Loads}
use Rattle.files.specs.Promises.{Says, Lived, opened, ran, chose, loaded, moved}
use Rattle.files.specs.Outcomes.{Saved}
use Rattle.files.specs.Outcomes.{Loaded}
use Rattle.files.proofs.Triangle.{table_length}
use Rattle.files.proofs.Tables.{proper_agree, agree_back}
use Rattle.files.proofs.Saving.{saved_says}
use Rattle.files.proofs.Loading.{Fits, load_taken}
use Rattle.files.proofs.Reaching.{reached_agree}
use Rattle.files.proofs.Back.{state_of, lent, lent_agree, written_blocks}

-- What is known of each: it is a reached search of the problem in memory, which agrees with the one that was opened.
pub record Life (n d : ℕ) (domains opened-tables tables agenda : List ℕ) (s : State) : Type 0 where
  pub handed : Handed n d domains tables agenda s
  pub same : AgreeApart n d opened-tables tables
  pub proper : Proper (problem_of n d domains tables)
  pub words : length domains ≡ n
  pub reached : Reached n d domains tables (slots_in n (length agenda)) (search_of n agenda s)

-- What a call leaves that was handed it.
module _ (n d : ℕ) (domains opened-tables tables before after : List ℕ) (s s' : State) (life : Life n d domains opened-tables tables before s) where
  gone_on : {x : _} → Leaves n d domains tables before after s' x → Reached n d domains tables (slots_in n (length before)) x
      → Life n d domains opened-tables tables after s'
  gone_on l reached = record {
    handed = l.handed;
    same = life.same;
    proper = life.proper;
    words = life.words;
    reached = rw (l.search, l.length_kept) reached;
  }

-- What load leaves of the blocks that save wrote of it.
module _ (n d : ℕ) (domains opened-tables tables agenda : List ℕ) (s : State) (life : Life n d domains opened-tables tables agenda s)
    (before after : List ℕ) (saved : Saved) (saves : Saves n d domains tables agenda s before after saved) (none : saved.refusal ≡ 0)
    (domains₀ domains' tables₀ tables' agenda₀ agenda' : List ℕ) (r : Loaded)
    (loads : Loads (take (512 * saved.blocks) after) domains₀ domains' tables₀ tables' agenda₀ agenda' r) (accepted : r.refusal ≡ 0) where
  loaded_on : Life n d domains opened-tables tables' agenda' r.state
  unfolding state_of
  loaded_on =
      let p = (known n d domains tables agenda s life.handed).passed in
      let passes : save_refusal n d domains tables agenda s before ≡ 0 = sym saves.refusal ∙ none in
      let file : List ℕ = file_of (handed_content n d domains tables agenda s) in
      let x = search_of n agenda s in
      let says : Says file n d domains (table_of n d tables) x = saved_says n d domains tables agenda s life.handed.words p in
      let given : Loads file domains₀ domains' tables₀ tables' agenda₀ agenda' r = rw
      (written_blocks n d domains tables agenda s before after saved saves passes) at loads in
      let t = load_taken file (length domains₀) (length tables₀) (length agenda₀) (sym given.refusal ∙ accepted) in
      let fits : Fits n d (length domains₀) (length tables₀) (length agenda₀) = rw (says.its_n, says.its_d) at t.lengths in
      let room : length x.memory ≤ slots_in n (length agenda₀) = rw (says.its_subproblems, says.its_n) at t.room in
      let back = lent file n d domains (table_of n d tables) x says domains₀ domains' tables₀ tables' agenda₀ agenda' r given fits room in
      let agree : AllowSame n d (table_of n d tables) (table_of n d tables') =
      rw back.its_tables
      (agree_back (table_of n d (table_words n d (said_allowed file))) (table_of n d tables) (lent_agree file n d domains (table_of n d tables) x says)) in
      let proper : Proper (problem_of n d domains tables') = proper_agree n d (λ i. get_or domains i 0) (table_of n d tables) (table_of n d tables') agree
      life.proper in
      let reached : Reached n d domains tables' (slots_in n (length agenda₀)) x =
      reached_agree n d domains tables life.proper tables' agree (reached_moved life.reached room) in
      let long : length tables' ≡ n * n * d = ap length back.its_tables ∙ table_length n d (said_allowed file) in
      let passed : Passed n d domains tables' agenda₀ = record
      { proper = proper; domains_words = life.words; tables_words = long; slots = fits.slots } in
      let l =
      leaves n d domains tables' agenda₀ agenda' r.state x passed
      (reached_passes n d domains tables' (slots_in n (length agenda₀)) x proper reached)
      (known n d domains tables agenda s life.handed).shaped back.its_agenda (ap (λ st. st.counts.steps.0) back.its_state)
      (ap (λ st. st.counts.checks.0) back.its_state) (ap (λ st. st.subproblems) back.its_state) in
      record {
        handed = l.handed;
        same = record {
          words = life.same.words ∙ p.passed.tables_words ∙ sym long;
          masks = λ i j a h k f m. life.same.masks i j a h k f m ∙ agree i j a h k f m;
        };
        proper = proper;
        words = life.words;
        reached = rw (l.search, l.length_kept) reached;
      }

-- What a move to an agenda of another length leaves: what a call would that was lent so many words, zeros here.
module _ (n d : ℕ) (domains opened-tables tables agenda : List ℕ) (s : State) (life : Life n d domains opened-tables tables agenda s) (words : ℕ)
    (slots : WholeSlots n words) (takes : s.subproblems ≤ slots_in n words) where
  moved_to : Life n d domains opened-tables tables (agenda_of n words (stack_of n agenda s.subproblems)) s
  moved_to =
      let k = known n d domains tables agenda s life.handed in
      let x = search_of n agenda s in
      let count : length x.memory ≡ s.subproblems = length_stack_of n agenda s.subproblems in
      let other : List ℕ = replicate words 0 in
      let long : length other ≡ words = length-replicate words 0 in
      let room : length x.memory ≤ slots_in n words = omega arith in
      let reached : Reached n d domains tables (slots_in n words) x = reached_moved life.reached room in
      let passed : Passed n d domains tables other =
      record { proper = life.proper; domains_words = life.words; tables_words = k.passed.passed.tables_words; slots = rw long slots } in
      let passes = reached_passes n d domains tables (slots_in n words) x life.proper reached in
      let l =
      leaves n d domains tables other (agenda_of n words x.memory) s x passed (rw long passes) k.shaped
      (ap (λ (w : ℕ). agenda_of n w x.memory) (sym long)) refl refl (sym count) in
      record {
        handed = l.handed;
        same = life.same;
        proper = life.proper;
        words = life.words;
        reached = rw (l.search, l.length_kept, long) reached;
      }

-- It is known of each.
pub lived : {n d : ℕ} {domains opened-tables tables agenda : List ℕ} {s : State} → Lived n d domains opened-tables tables agenda s
    → Life n d domains opened-tables tables agenda s
lived {n} {d} {domains} {opened-tables} (opened {before} {after} {r} opens none) =
    let l = open_leaves n d domains opened-tables before after r opens none in
    let passed = (known n d domains opened-tables after r.state l.handed).passed.passed in
    record {
      handed = l.handed;
      same = record { words = refl; masks = λ i j a h k f m. refl };
      proper = passed.proper;
      words = passed.domains_words;
      reached = rw l.search (reached_opened n d domains opened-tables (slots_in n (length after)) (some_slots n (length after) passed.slots));
    }
lived {n} {d} {domains} {opened-tables} (ran {tables} {before} {after} {s} {r} h requests runs) =
    let life = lived h in
    let both = run_leaves n d domains tables before after requests s r life.handed runs in
    elim (whole_requests n (length requests)) [
      | yes w ↦
          gone_on n d domains opened-tables tables before after s r.state life (both.0 w) (ReachedBy.ran life.reached (requests_in n requests))
      | no w ↦ gone_on n d domains opened-tables tables before after s r.state life (both.1 w) life.reached
    ]
lived {n} {d} {domains} {opened-tables} (chose {tables} {before} {after} {s} {r} h limit chooses) =
    let life = lived h in
    gone_on n d domains opened-tables tables before after s r.state life
    (chooser_leaves n d domains tables before after limit s r life.handed chooses)
    (ReachedBy.chose life.reached limit)
lived {n} {d} {domains} {opened-tables}
    (loaded {tables} {agenda} {before} {after} {domains₀} {domains'} {tables₀} {tables'} {agenda₀} {agenda'} {s} {saved} {r} h saves none loads accepted) =
    loaded_on n d domains opened-tables tables agenda s (lived h) before after saved saves none domains₀ domains' tables₀ tables' agenda₀ agenda' r
    loads accepted
lived {n} {d} {domains} {opened-tables} (moved {tables} {agenda} {s} h words slots takes) =
    moved_to n d domains opened-tables tables agenda s (lived h) words slots takes

-- Of the problem that was opened.
module _ {n d : ℕ} {domains opened-tables tables agenda : List ℕ} {s : State} (life : Life n d domains opened-tables tables agenda s) where
  back : AllowSame n d (table_of n d tables) (table_of n d opened-tables)
  back = agree_back (table_of n d opened-tables) (table_of n d tables) life.same.masks

  pub proper₀ : Proper (problem_of n d domains opened-tables)
  proper₀ = proper_agree n d (λ i. get_or domains i 0) (table_of n d tables) (table_of n d opened-tables) back life.proper

  pub reached₀ : Reached n d domains opened-tables (slots_in n (length agenda)) (search_of n agenda s)
  reached₀ = reached_agree n d domains tables life.proper opened-tables back life.reached

  -- What a verdict says of it.
  pub says_unsolvable : (v : Verdict) → v ≡ verdict_of n (stack_of n agenda s.subproblems) → number_of v ≡ 3
      → HasSolution (problem_of n d domains opened-tables) → ⊥
  says_unsolvable v e h =
      reached_unsolvable n d domains opened-tables (slots_in n (length agenda)) (search_of n agenda s) proper₀ reached₀ (ap number_of (sym e) ∙ h)

  pub says_solved : (v : Verdict) → v ≡ verdict_of n (stack_of n agenda s.subproblems) → number_of v ≡ 2
      → Shown (problem_of n d domains opened-tables) (stack_of n agenda s.subproblems)
  says_solved v e h =
      solved_shows (problem_of n d domains opened-tables) (slots (slots_in n (length agenda))) (search_of n agenda s)
      (reached_passes n d domains opened-tables (slots_in n (length agenda)) (search_of n agenda s) proper₀ reached₀) (ap number_of (sym e) ∙ h)

-- A run that returns a verdict was handed whole requests, and its verdict is that of what it leaves.
pub run_verdict : (n d : ℕ) (domains tables before after requests : List ℕ) (s : State) (r : Ran) → Handed n d domains tables before s
    → Runs n d domains tables before after requests s r → 1 ≤ number_of r.verdict → r.verdict ≡ verdict_of n (stack_of n after r.state.subproblems)
run_verdict n d domains tables before after requests s r handed runs some =
    elim (ℕ_discrete (run_refusal n d domains tables before requests s.counts.steps.0 s.counts.checks.0 s.subproblems) 0) [
      | yes none ↦
          (run_says n d domains tables before after requests s r handed
          ((run_is_passed n d domains tables before s.counts.steps.0 s.counts.checks.0 s.subproblems requests).0 none).1 runs).verdict
      | no refused ↦
          let test : eqb (run_refusal n d domains tables before requests s.counts.steps.0 s.counts.checks.0 s.subproblems) 0 ≡ false =
          ne_eqb _ 0 refused in
          let nothing : r.verdict ≡ None = rw test at runs.verdict in
          absurd (omega (arith, ap number_of nothing, some))
    ]
