-- Words made of bytes, lent to the covered calls and written back: each call's statement at the words that the bytes say.
-- Assumes nothing.
use mathlib.Core.Path.{◌≡◌, sym, ap, ap₂, subst, ◌∙◌}
use mathlib.Core.Logic.{◌⊎◌, inl, inr}
use mathlib.Core.List.{List, [], ◌++◌, append-nil}
use Prim.Native.Nat.{ℕ, ◌+◌, ◌*◌, ◌/◌, ◌%◌, ◌^◌, ◌≤◌, ◌<◌}
use native.Mathlib.Omega.{arith}
use native.Mathlib.Decide.{ℕ_discrete, dec_lt}
use lib.ListN.{length, get_or, take, drop, length-append, length-drop, take-append-drop, drop_of_length-le, get_or-eq_default}
use lib.Seq.{take_at, take_all, take-take, length-take-le, get_or-drop, ext_get_or}
use borrow.Author.Tests.{ne_eqb}
use Rattle.searches.specs.Runs.{requests_in}
use Rattle.search.specs.Calls.{Opens, Runs, Chooses}
use Rattle.search.specs.declared.state.State.{State}
use Rattle.search.specs.Outcomes.{Opened}
use Rattle.search.specs.Outcomes.{Ran}
use Rattle.search.proofs.first_checks.FirstPassing.{search_is_passed}
use Rattle.blocks.specs.Blocks.{blocks_for}
use Rattle.files.specs.Calls.{handed_content, save_refusal, Saves, Loads}
use Rattle.files.specs.Outcomes.{Saved}
use Rattle.files.specs.Outcomes.{Loaded}
use Rattle.files.proofs.Refusals.{save_none}
use Rattle.files.proofs.Saving.{saved_few}
use Rattle.word_bytes.specs.Bytes.{Whole, Fits, words_of, bytes_of}
use Rattle.word_bytes.specs.Calls.{Lent, WordsOf, ThreeOf, Writes}
use Rattle.word_bytes.specs.declared.Three.{Three}
use Rattle.console.specs.Calls.{WholeProblem, OpensWords, RunsWords, ChoosesWords, LoadsWords}
use Rattle.console.specs.Loops.Rooms.{Room}
use Rattle.console.specs.Loops.Fronts.{WritesBack, Shorter, FrontOf}
use Rattle.console.specs.Loops.Parts.{Listed, RunsAt, Narrow}
use Rattle.word_bytes.proofs.Words.{words_length, bytes_length, word_at, words_small, words_append, bytes_append, bytes_again, middle_said, writes_front}
use Rattle.word_bytes.proofs.Fitting.{Said, count_is, three_said, words_said}
use Rattle.console.proofs.parts.Runs.{choose_narrow, run_narrow, run_past, run_lower}
use Rattle.console.proofs.parts.SoFar.{whole_words, requests_count}
use Rattle.console.proofs.fronts.Reaching.{Zeros, runs_front}

-- Domains, agenda and tables turned into words, in the order in which the calls make them.
pub said_last : {domains tables agenda u u' v v' w w' : List ℕ} {r : Three} {most : ℕ} → Room domains tables agenda most → 32 ≡ length u
    → most ≡ length v → 16384 ≡ length w → ThreeOf domains agenda tables u u' v v' w w' r
    → Said domains r.first u' × Said agenda r.second v' × Said tables r.third w'
said_last {domains} {tables} {agenda} room a b c t =
    three_said (subst (Fits (length domains)) a room.of_domains) (subst (Fits (length agenda)) b room.of_agenda)
    (subst (Fits (length tables)) c room.of_tables) t

-- Of one slice.
pub said_one : {b u u' : List ℕ} {k most : ℕ} → Fits (length b) most → most ≡ length u → WordsOf b u u' k → Said b k u'
said_one {b} {u} fits e h =
    let room : length b ≤ 2 * length u = subst (λ (j : ℕ). length b ≤ 2 * j) e fits.few in
    words_said fits.even room h

-- Lists of one length that agree from k on.
drop_same : (k : ℕ) (a b : List ℕ) → length a ≡ length b → ((i : ℕ) → k ≤ i → i < length a → get_or a i 0 ≡ get_or b i 0) → drop k a ≡ drop k b
drop_same k a b e h =
    ext_get_or 0 (drop k a) (drop k b) (simp length-drop (omega arith))
    (λ i l. let inside : k + i < length a = omega (arith, length-drop k a) in get_or-drop k a i 0 ∙ h (k + i) (omega arith) inside ∙ sym
    (get_or-drop k b i 0))

-- A callee left y in the part of the words that was lent to it.
module _ {before words : List ℕ} {k : ℕ} (y : List ℕ) (t : Lent k before words) (kept : length y ≡ length (take k words)) where
  left_length : length y ≡ k
  left_length = kept ∙ sym (count_is t)

  -- The part again.
  left_again : take k (y ++ drop k words) ≡ y
  left_again = take_at y (drop k words) k left_length

  pub left_fits : k ≤ length (y ++ drop k words)
  left_fits = rw length-append (omega (arith, left_length))

  pub left_count : k ≡ length (take k (y ++ drop k words))
  left_count = sym (ap length left_again ∙ left_length)

  -- Two bytes a word.
  pub left_bytes : (b : List ℕ) → k ≡ length b / 2 → Whole b → length b ≡ 2 * length (take k (y ++ drop k words))
  left_bytes b half w = omega (arith, left_count)

  -- Turned back.
  left_said : (b after : List ℕ) → k ≡ length b / 2 → Whole b → Writes (y ++ drop k words) b after → after ≡ bytes_of y
  left_said b after half w s =
      writes_front (y ++ drop k words) b after w (omega (arith, left_fits)) s
      ∙ ap (λ (j : ℕ). bytes_of (take j (y ++ drop k words))) (sym half) ∙ ap bytes_of left_again

module _ {n d i j k : ℕ} {domains tables agenda ds ts ws xs after : List ℕ} (y : List ℕ) (e : Said domains i ds) (f : Said tables j ts)
    (g : Said agenda k xs) (t : Lent k ws xs) (kept : length y ≡ length (take k xs)) (w : Whole agenda)
    (said : Writes (y ++ drop k xs) agenda after) where
  pub opens_words : {r : Opened} → Opens n d (take i ds) (take j ts) (take k xs) y r → OpensWords n d domains tables agenda after r
  opens_words h = record { left = y; opens = rw (← e.said, ← f.said, ← g.said) h; said = left_said y t kept agenda after g.count w said }

  pub chooses_words : {limit : ℕ} {s : State} {r : Ran} → Chooses n d (take i ds) (take j ts) (take k xs) y limit s r
      → ChoosesWords n d domains tables agenda after limit s r
  chooses_words h = record { left = y; chooses = rw (← e.said, ← f.said, ← g.said) h; said = left_said y t kept agenda after g.count w said }

-- A run that left y in the part of the words that was lent to it, of which what can have changed is written back.
pub runs_at : {n d k : ℕ} {domains tables agenda ws xs requests after : List ℕ} {s : State} {r : Ran} (y : List ℕ) → Said agenda k xs → Lent k ws xs
    → Whole agenda
    → length y ≡ length (take k xs) → ((i : ℕ) → get_or agenda i 0 < 256) → s.counts.steps.0 < 2 ^ 32 → Listed n (length requests)
    → Runs n d domains tables (take k xs) y (words_of requests) s r
    → WritesBack n s.subproblems r.taken r.state.subproblems (take k (y ++ drop k xs)) agenda after
    → RunsAt n d domains tables agenda after requests s r
runs_at {n} {d} {domains = domains} {tables = tables} {agenda = agenda} {requests = requests} {after = after} {s = s} {r = r} y g t w kept small stepped
    listed h written =
    let runs : Runs n d domains tables (words_of agenda) y (words_of requests) s r = rw (← g.said) h in
    let back : WritesBack n s.subproblems r.taken r.state.subproblems y agenda after = rw (left_again y t kept) at written in
    let long : length y ≡ length (words_of agenda) = kept ∙ ap length g.said in
    let whole = whole_words n requests (listed.requests, listed.whole) in
    let fits : s.counts.steps.0 ≤ 4294967295 = omega arith in
    let low : take back.from y ≡ take back.from (words_of agenda) =
    sym (take-take back.from _ y back.lower) ∙ ap (take back.from)
    (run_lower n d domains tables (words_of agenda) s (words_small agenda small) fits y (words_of requests) r whole runs)
    ∙ take-take back.from _ (words_of agenda) back.lower in
    let past : drop back.to y ≡ drop back.to (words_of agenda) =
    drop_same back.to y (words_of agenda) long
    (λ i l m. let (b, a) = back.front.past i l m in
    run_past n d domains tables (words_of agenda) s (words_small agenda small) fits y (words_of requests) r whole runs i (omega arith) m b a) in
    record { left = y; runs = runs; said = back.said ∙ middle_said back.from back.to agenda y w small back.order low past }

-- A run of a list that was turned into words whole: what it returns fits 32 bits.
pub few_runs : (n d : ℕ) {j k : ℕ} (domains tables : List ℕ) {agenda xs requests words : List ℕ} (y : List ℕ) (s : State) (r : Ran)
    → Said agenda k xs → Said requests j words → ((i : ℕ) → get_or agenda i 0 < 256) → s.counts.steps.0 < 2 ^ 32 → s.subproblems < 4294967296
    → Listed n (length requests) → Runs n d domains tables (take k xs) y (take j words) s r
    → Runs n d domains tables (take k xs) y (words_of requests) s r × Narrow r
few_runs n d {k = k} domains tables {agenda} {xs} {requests} y s r t e small stepped few listed h =
    let list : Runs n d domains tables (take k xs) y (words_of requests) s r = rw (← e.said) h in
    let runs : Runs n d domains tables (words_of agenda) y (words_of requests) s r = rw (← t.said) list in
    let whole = whole_words n requests (listed.requests, listed.whole) in
    (list, run_narrow n d domains tables (words_of agenda) s (words_small agenda small) (omega arith) y (words_of requests) r whole few runs)

-- A run at the words that the bytes of the problem say.
pub runs_words : {n d i j : ℕ} {domains tables agenda ds ts requests after : List ℕ} {s : State} {r : Ran} → Said domains i ds → Said tables j ts
    → RunsAt n d (take i ds) (take j ts) agenda after requests s r × Narrow r → RunsWords n d domains tables agenda after requests s r × Narrow r
runs_words e f (h, narrow) = (record { left = h.left; runs = rw (← e.said, ← f.said) h.runs; said = h.said }, narrow)

-- Bytes that are zero say words that are.
zeros_said : (b : List ℕ) → Zeros b → Zeros (words_of b)
zeros_said b h i = elim (dec_lt (2 * i + 1) (length b)) [
  | yes l ↦ word_at b i l ∙ ap₂ (λ (x y : ℕ). x + 256 * y) (h (2 * i)) (h (2 * i + 1))
  | no l ↦ let past : length (words_of b) ≤ i = omega (arith, words_length b) in get_or-eq_default (words_of b) 0 past
]

-- A run in the front of an agenda that tells how it ends is the run in all of it.
pub front_runs : {n d : ℕ} {domains tables agenda requests front : List ℕ} {f : ℕ} {s : State} {r : Ran}
    → FrontOf n s.subproblems (length requests) agenda f
    → Listed n (length requests) → length front ≡ length (take f agenda) → RunsWords n d domains tables (take f agenda) front requests s r
    → RunsWords n d domains tables agenda (front ++ drop f agenda) requests s r
front_runs {n} {d} {domains} {tables} {agenda} {requests} {front} {f} {s} {r} fronts listed kept h = go fronts.reach.how
  where
    go : Shorter n s.subproblems (length requests) (length agenda) f ⊎ (f ≡ length agenda)
        → RunsWords n d domains tables agenda (front ++ drop f agenda) requests s r
    go (inr e) =
        let all : take f agenda ≡ agenda = take_all f agenda (omega arith) in
        let past : length agenda ≤ f = omega arith in
        let none : drop f agenda ≡ [] = drop_of_length-le agenda past in
        rw (none, append-nil front) (rw all at h)
    go (inl short) =
        let two : short.slots * (2 * (n + 2)) ≡ 2 * (short.slots * (n + 2)) = omega arith in
        let all_two : short.all * (2 * (n + 2)) ≡ 2 * (short.all * (n + 2)) = omega arith in
        let long : length (take f agenda) ≡ f = length-take-le f agenda fronts.reach.inside in
        let even : length (take f agenda) % 2 ≡ 0 = omega (arith, short.its) in
        let rest-even : length (drop f agenda) % 2 ≡ 0 = rw length-drop (omega (arith, short.its, short.whole)) in
        let a : List ℕ = words_of (take f agenda) in
        let z : List ℕ = words_of (drop f agenda) in
        let both : words_of agenda ≡ a ++ z = ap words_of (sym (take-append-drop f agenda)) ∙ words_append (take f agenda) (drop f agenda) even in
        let its : length a ≡ short.slots * (n + 2) = words_length (take f agenda) ∙ omega (arith, short.its) in
        let whole : length (a ++ z) ≡ short.all * (n + 2) = ap length (sym both) ∙ words_length agenda ∙ omega (arith, short.whole) in
        let zeros : Zeros (drop f agenda) = λ i. get_or-drop f agenda i 0 ∙ fronts.zero (f + i) (omega arith) in
        let left : length h.left ≡ length a =
        let said : length front ≡ 2 * length h.left = ap length h.said ∙ bytes_length h.left in omega (arith, short.its) in
        let added : (n + 1) * length (requests_in n (words_of requests)) ≡ (n + 1) * (length requests / (2 * (n + 3))) =
        ap (λ (k : ℕ). (n + 1) * k) (requests_count n requests listed) in
        let runs : Runs n d (words_of domains) (words_of tables) (a ++ z) (h.left ++ z) (words_of requests) s r =
        runs_front n d (words_of domains) (words_of tables) a h.left z (words_of requests) s r short.slots short.all its whole
        (omega (arith, short.room)) short.within short.few left
        (zeros_said (drop f agenda) zeros) (omega (arith, short.room)) h.runs in
        record {
          left = h.left ++ z;
          runs = rw both runs;
          said =
              ap₂ ◌++◌ h.said (sym (bytes_again (drop f agenda) rest-even (λ i. omega (arith, zeros i)))) ∙ sym (bytes_append h.left z);
        }

-- The callee left x, y and z, which are turned back.
pub loads_words : {file domains tables agenda us ds vs ts ws xs domains' tables' agenda' : List ℕ} {r : Loaded} {h i j : ℕ} (x y z : List ℕ)
    → Said domains h ds → Said tables i ts → Said agenda j xs
    → Lent h us ds → Lent i vs ts → Lent j ws xs
    → length x ≡ length (take h ds) → length y ≡ length (take i ts) → length z ≡ length (take j xs)
    → Loads file (take h ds) x (take i ts) y (take j xs) z r
    → WholeProblem domains tables agenda → Writes (x ++ drop h ds) domains domains' → Writes (y ++ drop i ts) tables tables'
    → Writes (z ++ drop j xs) agenda agenda' → LoadsWords file domains domains' tables tables' agenda agenda' r
loads_words {domains = domains} {tables} {agenda} {domains' = domains'} {tables'} {agenda'} x y z e f g p q r a b c h w s t u = record {
  left_domains = x;
  left_tables = y;
  left_agenda = z;
  loads = rw (← e.said, ← f.said, ← g.said) h;
  said_domains = left_said x p a domains domains' e.count w.of_domains s;
  said_tables = left_said y q b tables tables' f.count w.of_tables t;
  said_agenda = left_said z r c agenda agenda' g.count w.of_agenda u;
}

-- ---- what fits 32 bits

-- What the chooser returns.
pub choose_fits : {n d : ℕ} {domains tables before after : List ℕ} {limit : ℕ} {s : State} {r : Ran} → ((i : ℕ) → get_or before i 0 < 256)
    → s.counts.steps.0 < 2 ^ 32 → s.subproblems < 4294967296 → ChoosesWords n d domains tables before after limit s r → Narrow r
choose_fits {n} {d} {domains} {tables} {before} {after} {limit} {s} {r} small stepped few h =
    choose_narrow n d (words_of domains) (words_of tables) (words_of before) s (words_small before small) (omega arith) h.left limit r few
    h.chooses

-- The blocks that save writes.
save_fits : (n d : ℕ) (domains tables agenda : List ℕ) (s : State) (before after : List ℕ) (r : Saved)
    → ((i : ℕ) → get_or agenda i 0 < 256) → Saves n d domains tables (words_of agenda) s before after r → r.blocks < 4294967296
save_fits n d domains tables bytes s before after r small h = elim (ℕ_discrete (save_refusal n d domains tables (words_of bytes) s before) 0) [
  | yes e ↦
      let passed = ((save_none n d domains tables (words_of bytes) s before).0 e).0 in
      let passing = (search_is_passed n d domains tables (words_of bytes) s.counts.steps.0 s.counts.checks.0 s.subproblems).0 passed in
      let few = saved_few n d domains tables (words_of bytes) s (words_small bytes small) passing in
      let blocks : r.blocks ≡ blocks_for (length (handed_content n d domains tables (words_of bytes) s)) = rw e at h.blocks in
      omega arith
  | no f ↦ let none : r.blocks ≡ 0 = rw (ne_eqb (save_refusal n d domains tables (words_of bytes) s before) 0 f) at h.blocks in omega arith
]

-- Save at the words that the bytes say.
pub saves_words : (n d : ℕ) {i j k : ℕ} {domains tables agenda ds ts xs : List ℕ} (s : State) (before after : List ℕ) (r : Saved)
    → Said domains i ds → Said tables j ts → Said agenda k xs → ((i : ℕ) → get_or agenda i 0 < 256) → Saves n d (take i ds) (take j ts) (take k xs) s before after r
    → Saves n d (words_of domains) (words_of tables) (words_of agenda) s before after r × (r.blocks < 4294967296)
saves_words n d {domains = domains} {tables = tables} {agenda = agenda} s before after r e f g small h =
    let saves : Saves n d (words_of domains) (words_of tables) (words_of agenda) s before after r = rw (← e.said, ← f.said, ← g.said) h in
    (saves, save_fits n d (words_of domains) (words_of tables) agenda s before after r small saves)
