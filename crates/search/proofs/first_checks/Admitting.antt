-- What first checks that refuse nothing tell: the numbers and lengths fit, and memory holds a search that is ready.
-- Assumes nothing.
use mathlib.Core.Path.{◌≡◌, refl, sym, ap, ◌∙◌}
use mathlib.Core.Logic.{⊎_elim}
use mathlib.Core.Bool.{Bool, true, false, not, cond, ◌&&◌, ◌||◌}
use mathlib.Core.List.{List, Memᴰ, [], ◌∷◌, ◌++◌}
use Prim.Native.Nat.{ℕ, zero, suc, ◌+◌, ◌-◌, ◌*◌, ◌%◌, ◌^◌, ◌≤◌, ◌<◌}
use native.Mathlib.Omega.{arith}
use native.Mathlib.Decide.{dec_lt}
use native.Mathlib.Nat.{mul-le-mul_right, div-add-mod', le_refl}
use lib.ListN.{length, get_or, take, drop, replicate, length-append, length-take, length-drop, length-replicate, get_or-eq_default}
use lib.Seq.{length-take-le, get_or-append-add}
use lib.Pow.{pow_pos}
use lib.Dec.{eqb, leb, ltb}
use borrow.Author.Tests.{eqb-true, eqb-false, leb-true, ltb-false, ltb-true, not-true}
use Rattle.problem.specs.Masks.{minus}
use Rattle.problem.specs.Problem.{Problem, problem_of}
use Rattle.splits.specs.Subproblems.{domain}
use Rattle.splits.specs.declared.subproblem.Subproblem.{Subproblem}
use Rattle.problem.proofs.mask.Masks.{minus_part_of, part_lt}
use Rattle.problem.proofs.Tests.{and_left, and_right, or_left, or_right, every_at}
use Rattle.search.specs.Agenda.{holding, subproblem_of, slot_at, stack_of, slots_in}
use Rattle.problem.specs.Tests.FirstChecks.{or_else, refusal_of_numbers, masks_below, refusal_of_problem}
use Rattle.search.specs.Tests.FirstChecks.{whole_slots, refusal_of_lengths, refusal_of_requests, domain_obeys, obeys, all_obey, zeros_from, refusal_of_search, open_refusal, search_refusal, run_refusal}
use Rattle.search.specs.Calls.{search_of}
use Rattle.search.specs.Loops.Kept.{Regular, Ready}
use Rattle.search.specs.Loops.Ends.{Openable}
use Rattle.search.specs.declared.state.State.{State}
use Rattle.search.proofs.step.Accepting.{not_first, then_none}
use Rattle.search.proofs.Encoding.{length_stack_of, agenda_of_words, part_small}

-- Of two refusals that are none together each is none.
or_first : (a b : ℕ) → or_else a b ≡ 0 → a ≡ 0
or_first a b e = go (eqb a 0) refl e
  where
    go : (z : Bool) → eqb a 0 ≡ z → cond z b a ≡ 0 → a ≡ 0
    go true h e = eqb-true a 0 h
    go false h e = e

-- The second.
or_then : (a b : ℕ) → or_else a b ≡ 0 → b ≡ 0
or_then a b e = go (eqb a 0) refl e
  where
    go : (z : Bool) → eqb a 0 ≡ z → cond z b a ≡ 0 → b ≡ 0
    go true h e = e
    go false h e = absurd (eqb-false a 0 h e)

-- A test that must pass did.
met : (b : Bool) (x y : ℕ) → (y ≡ 0 → ⊥) → cond b x y ≡ 0 → b ≡ true
met true x y h e = refl
met false x y h e = absurd (h e)

-- 1 and 2.
numbers_fit : (n d : ℕ) → refusal_of_numbers n d ≡ 0 → (1 ≤ n) × (n ≤ 32) × (d ≤ 16)
unfolding refusal_of_numbers
numbers_fit n d e =
    let first : (ltb n 1 || ltb 32 n) ≡ false = not_first (ltb n 1 || ltb 32 n) 1 _ (λ z. omega arith) e in
    let second : (ltb d 1 || ltb 16 d) ≡ false =
    not_first (ltb d 1 || ltb 16 d) 2 0 (λ z. omega arith) (then_none (ltb n 1 || ltb 32 n) 1 _ (λ z. omega arith) e) in (
      ltb-false n 1 (or_left (ltb n 1) (ltb 32 n) first),
      ltb-false 32 n (or_right (ltb n 1) (ltb 32 n) first),
      ltb-false 16 d (or_right (ltb d 1) (ltb 16 d) second),
    )

-- 3.
pub record Lengths (n d domains tables agenda : ℕ) : Type 0 where
  pub domains_fit : domains ≡ n
  pub tables_fit : tables ≡ n * n * d
  pub some : 1 ≤ slots_in n agenda
  pub whole : agenda ≡ slots_in n agenda * (n + 2)

-- The lengths tell it.
lengths_fit : (n d domains tables agenda : ℕ) → refusal_of_lengths n d domains tables agenda ≡ 0 → Lengths n d domains tables agenda
unfolding refusal_of_lengths whole_slots
lengths_fit n d domains tables agenda e =
    let all = met _ 0 3 (λ z. omega arith) e in
    let two : (eqb domains n && eqb tables (n * n * d)) ≡ true = and_left (eqb domains n && eqb tables (n * n * d)) _ all in
    let slots = and_right (eqb domains n && eqb tables (n * n * d)) _ all in
    let front : (eqb (agenda % (n + 2)) 0 && leb 1 (slots_in n agenda)) ≡ true = and_left _ (leb (slots_in n agenda) 512) slots in
    let none : agenda % (n + 2) ≡ 0 = eqb-true (agenda % (n + 2)) 0 (and_left _ (leb 1 (slots_in n agenda)) front) in
    record {
      domains_fit = eqb-true domains n (and_left (eqb domains n) (eqb tables (n * n * d)) two);
      tables_fit = eqb-true tables (n * n * d) (and_right (eqb domains n) (eqb tables (n * n * d)) two);
      some = leb-true 1 (slots_in n agenda) (and_right (eqb (agenda % (n + 2)) 0) (leb 1 (slots_in n agenda)) front);
      whole = omega (arith, div-add-mod' agenda (n + 2));
    }

-- What opening's first checks tell.
pub record Opened (n d : ℕ) (domains tables agenda : List ℕ) : Type 0 where
  pub few : n ≤ 32
  pub small : d ≤ 16
  pub lengths : Lengths n d (length domains) (length tables) (length agenda)
  pub masks : (i : ℕ) → i < n → get_or domains i 0 < 2 ^ d

-- 4 and 5: the domains have d values at most.
problem_fits : (n d : ℕ) (domains tables : List ℕ) → refusal_of_problem (problem_of n d domains tables) ≡ 0 → (i : ℕ) → i < n → get_or domains i 0 < 2 ^ d
unfolding refusal_of_problem masks_below
problem_fits n d domains tables e i h =
    let all : masks_below (problem_of n d domains tables) ≡ true = met (masks_below (problem_of n d domains tables)) _ 4 (λ z. omega arith) e in
    ltb-true (get_or domains i 0) (2 ^ d) (every_at (λ i. ltb (get_or domains i 0) (2 ^ d)) n i h (and_left _ _ all))

-- The three parts together.
parts_opened : (n d : ℕ) (domains tables agenda : List ℕ) → refusal_of_numbers n d ≡ 0
    → refusal_of_lengths n d (length domains) (length tables) (length agenda) ≡ 0 → refusal_of_problem (problem_of n d domains tables) ≡ 0
    → Opened n d domains tables agenda
parts_opened n d domains tables agenda a b c =
    let (some, few, small) = numbers_fit n d a in
    record {
      few = few;
      small = small;
      lengths = lengths_fit n d (length domains) (length tables) (length agenda) b;
      masks = problem_fits n d domains tables c;
    }

-- The first checks of opening tell it.
pub opened : (n d : ℕ) (domains tables agenda : List ℕ) → open_refusal n d domains tables agenda ≡ 0 → Opened n d domains tables agenda
unfolding open_refusal
opened n d domains tables agenda e =
    let rest = or_then (refusal_of_numbers n d) _ e in
    parts_opened n d domains tables agenda (or_first (refusal_of_numbers n d) _ e)
    (or_first (refusal_of_lengths n d (length domains) (length tables) (length agenda)) _ rest)
    (or_then (refusal_of_lengths n d (length domains) (length tables) (length agenda)) _ rest)

-- So there is a slot for the problem.
pub openable : (n d : ℕ) (domains tables agenda : List ℕ) (x : ℕ) → x ≡ open_refusal n d domains tables agenda → x ≡ 0 → Openable n domains agenda
openable n d domains tables agenda x e z =
    let o = opened n d domains tables agenda (sym e ∙ z) in
    record { few = o.few; named = o.lengths.domains_fit; some = o.lengths.some; whole = o.lengths.whole }

-- ---- 6

-- The subproblem of a slot obeys, and what it is.
member_slot : (n : ℕ) (agenda : List ℕ) (m : ℕ) (P : Subproblem) → Memᴰ P (stack_of n agenda m)
    → (k : ℕ) × (k < m) × (P ≡ subproblem_of n (slot_at n agenda k))
unfolding stack_of
member_slot n agenda zero P i = absurd (mathlib.Core.List.Memᴰ.not-nil i)
member_slot n agenda (suc m) P i =
    ⊎_elim (λ (e : P ≡ subproblem_of n (slot_at n agenda m)). (m, le_refl (suc m), e))
    (λ (j : Memᴰ P (stack_of n agenda m)). let (k, h, e) = member_slot n agenda m P j in (k, omega arith, e)) (mathlib.Core.List.Memᴰ.cases_cons i)

-- Each of a stack that obeys does.
member_obeys : (p : Problem) (S : List Subproblem) → all_obey p S ≡ true → (P : Subproblem) → Memᴰ P S → obeys p P ≡ true
unfolding all_obey
member_obeys p [] e P i = absurd (mathlib.Core.List.Memᴰ.not-nil i)
member_obeys p (Q ∷ S) e P i =
    ⊎_elim (λ (s : P ≡ Q). rw s (and_left (obeys p Q) (all_obey p S) e))
    (λ (j : Memᴰ P S). member_obeys p S (and_right (obeys p Q) (all_obey p S) e) P j)
    (mathlib.Core.List.Memᴰ.cases_cons i)

-- An entry of zeros.
zero_at : (k j : ℕ) → get_or {A = ℕ} (replicate k 0) j 0 ≡ 0
zero_at zero j = refl
zero_at (suc k) zero = refl
zero_at (suc k) (suc j) = zero_at k j

-- What words make a subproblem of: 32 domains, empty from n on, and marks of two words.
module _ (n : ℕ) (ws : List ℕ) (few : n ≤ 32) (long : length ws ≡ n + 2) (small : (i : ℕ) → get_or ws i 0 < 2 ^ 16) where
  -- 32 domains.
  words_long : length (subproblem_of n ws).domains ≡ 32
  unfolding subproblem_of holding
  words_long = simp (length-append, length-take, length-replicate) (omega arith)

  -- Empty from n on.
  words_past : (i : ℕ) → n ≤ i → domain (subproblem_of n ws) i ≡ 0
  unfolding subproblem_of holding
  words_past i h =
      let front : length (take n ws) ≡ n = length-take-le n ws (omega arith) in
      let at : length (take n ws) + (i - n) ≡ i = omega arith in
      ap (λ (j : ℕ). get_or (take n ws ++ replicate (32 - n) 0) j 0) (sym at)
      ∙ get_or-append-add (take n ws) (replicate (32 - n) 0) (i - n) 0 ∙ zero_at (32 - n) (i - n)

  -- Marks of 32 bits.
  words_marks : (subproblem_of n ws).marked < 2 ^ 32
  unfolding subproblem_of holding
  words_marks = omega (arith, small n, small (n + 1))

-- What an obeying subproblem tells of a domain.
obeys_at : (p : Problem) (P : Subproblem) (i : ℕ) → obeys p P ≡ true → i < p.n → domain_obeys p P i ≡ true
unfolding obeys
obeys_at p P i e h = every_at (domain_obeys p P) p.n i h (and_left _ _ (and_left _ (ltb P.marked (2 ^ p.n)) e))

-- It is not empty.
obeys_filled : (p : Problem) (P : Subproblem) (i : ℕ) → obeys p P ≡ true → i < p.n → domain P i ≡ 0 → ⊥
unfolding domain_obeys
obeys_filled p P i e h =
    eqb-false (domain P i) 0 (not-true (eqb (domain P i) 0) (and_left (not (eqb (domain P i) 0)) _ (and_left _ _ (obeys_at p P i e h))))

-- It has d values at most.
obeys_small : (p : Problem) (P : Subproblem) (i : ℕ) → obeys p P ≡ true → i < p.n → p.domain i < 2 ^ p.d → domain P i < 2 ^ p.d
unfolding domain_obeys
obeys_small p P i e h s =
    part_lt p.d (domain P i) (p.domain i)
    (minus_part_of (domain P i) (p.domain i)
    (eqb-true (minus (domain P i) (p.domain i)) 0 (and_right (not (eqb (domain P i) 0)) _ (and_left _ _ (obeys_at p P i e h)))))
    s

-- What the first checks of a search tell, besides those of opening.
record Found (n d : ℕ) (domains tables agenda : List ℕ) (s : State) : Type 0 where
  pub fits : s.subproblems ≤ slots_in n (length agenda)
  pub each : (P : Subproblem) → Memᴰ P (stack_of n agenda s.subproblems) → obeys (problem_of n d domains tables) P ≡ true
  pub zeros : (i : ℕ) → s.subproblems * (n + 2) ≤ i → get_or agenda i 0 ≡ 0
  pub counted : s.counts.checks.0 ≤ 496 * s.counts.steps.0

-- A test of zeros tells of every word.
zeros_are : (from : ℕ) (l : List ℕ) → zeros_from from l ≡ true → (i : ℕ) → from ≤ i → get_or l i 0 ≡ 0
unfolding zeros_from
zeros_are from l e i h = elim (dec_lt i (length l)) [
  | yes k ↦
      let at : from + (i - from) ≡ i = omega arith in
      ap (λ (j : ℕ). get_or l j 0) (sym at)
      ∙ eqb-true (get_or l (from + (i - from)) 0) 0 (every_at (λ k. eqb (get_or l (from + k) 0) 0) (length l - from) (i - from) (omega arith) e)
  | no k ↦ let past : length l ≤ i = omega arith in get_or-eq_default l 0 past
]

-- The checks of the search tell it.
found : (n d : ℕ) (domains tables agenda : List ℕ) (s : State)
    → refusal_of_search (problem_of n d domains tables) agenda s.counts.steps.0 s.counts.checks.0 s.subproblems ≡ 0
    → Found n d domains tables agenda s
unfolding refusal_of_search
found n d domains tables agenda s e =
    let few : Bool = leb s.subproblems (slots_in n (length agenda)) in
    let obey : Bool = all_obey (problem_of n d domains tables) (stack_of n agenda s.subproblems) in
    let clear : Bool = zeros_from (s.subproblems * (n + 2)) agenda in
    let counts : Bool = leb s.counts.checks.0 (496 * s.counts.steps.0) in
    let all : (few && obey && clear && counts) ≡ true = met (few && obey && clear && counts) 0 6 (λ z. omega arith) e in
    let three : (few && obey && clear) ≡ true = and_left (few && obey && clear) counts all in
    let two : (few && obey) ≡ true = and_left (few && obey) clear three in
    record {
      fits = leb-true s.subproblems (slots_in n (length agenda)) (and_left few obey two);
      each = member_obeys (problem_of n d domains tables) (stack_of n agenda s.subproblems) (and_right few obey two);
      zeros = zeros_are (s.subproblems * (n + 2)) agenda (and_right (few && obey) clear three);
      counted = leb-true s.counts.checks.0 (496 * s.counts.steps.0) (and_right (few && obey && clear) counts all);
    }

-- Memory of words that passed holds a search that is ready.
module _ (n d : ℕ) (domains tables agenda : List ℕ) (s : State) (o : Opened n d domains tables agenda) (f : Found n d domains tables agenda s)
    (small : (i : ℕ) → get_or agenda i 0 < 2 ^ 16) (stepped : s.counts.steps.0 < 2 ^ 32) where
  -- The slots in use lie within.
  within : s.subproblems * (n + 2) ≤ length agenda
  within = rw o.lengths.whole (mul-le-mul_right (n + 2) f.fits)

  -- Each subproblem in them is regular.
  each_regular : (P : Subproblem) → Memᴰ P (stack_of n agenda s.subproblems) → Regular n d P
  unfolding slot_at
  each_regular P i =
      let (k, l, e) = member_slot n agenda s.subproblems P i in
      let fine : obeys (problem_of n d domains tables) P ≡ true = f.each P i in
      let up : (k + 1) * (n + 2) ≤ s.subproblems * (n + 2) = mul-le-mul_right (n + 2) (omega arith) in
      let ws : List ℕ = take (n + 2) (drop (k * (n + 2)) agenda) in
      let long : length ws ≡ n + 2 = simp (length-take, length-drop) (omega (arith, within)) in
      let words : (i : ℕ) → get_or ws i 0 < 2 ^ 16 = part_small (n + 2) (k * (n + 2)) agenda small in
      let past : (i : ℕ) → n ≤ i → domain P i ≡ 0 = rw e (words_past n ws o.few long words) in
      record {
        shape = record {
          long = rw e (words_long n ws o.few long words);
          masks = λ j. elim (dec_lt j n) [
            | yes h ↦ obeys_small (problem_of n d domains tables) P j fine h (o.masks j h)
            | no h ↦ rw (past j (omega arith)) (pow_pos d)
          ];
          past = past;
          marks = rw e (words_marks n ws o.few long words);
        };
        filled = λ j. obeys_filled (problem_of n d domains tables) P j fine;
      }

  -- The search is ready.
  ready : Ready n d tables agenda (search_of n agenda s)
  ready = record {
    fitting = record { few = o.few; small = o.small; words = o.lengths.tables_fit };
    whole = o.lengths.whole;
    fits = rw (length_stack_of n agenda s.subproblems) f.fits;
    words = agenda_of_words n agenda s.subproblems within small f.zeros;
    each = each_regular;
    counted = omega (arith, f.counted);
    stepped = stepped;
  }

-- So do the first checks of the chooser, and those of a run.
module _ (n d : ℕ) (domains tables agenda : List ℕ) (s : State) (x : ℕ) (none : x ≡ 0) (small : (i : ℕ) → get_or agenda i 0 < 2 ^ 16)
    (stepped : s.counts.steps.0 < 2 ^ 32) where
  -- Those of the chooser.
  pub search_ready : x ≡ search_refusal n d domains tables agenda s.counts.steps.0 s.counts.checks.0 s.subproblems
      → Ready n d tables agenda (search_of n agenda s)
  unfolding search_refusal
  search_ready e =
      let z = sym e ∙ none in
      ready n d domains tables agenda s (opened n d domains tables agenda (or_first (open_refusal n d domains tables agenda) _ z))
      (found n d domains tables agenda s (or_then (open_refusal n d domains tables agenda) _ z)) small stepped

  -- Those of a run.
  pub run_ready : (requests : List ℕ)
      → x ≡ run_refusal n d domains tables agenda requests s.counts.steps.0 s.counts.checks.0 s.subproblems
      → Ready n d tables agenda (search_of n agenda s)
  unfolding run_refusal
  run_ready requests e =
      let z = sym e ∙ none in
      let z2 = or_then (refusal_of_numbers n d) _ z in
      let z3 = or_then (refusal_of_lengths n d (length domains) (length tables) (length agenda)) _ z2 in
      let z4 = or_then (refusal_of_requests n (length requests)) _ z3 in
      ready n d domains tables agenda s
      (parts_opened n d domains tables agenda (or_first (refusal_of_numbers n d) _ z)
      (or_first (refusal_of_lengths n d (length domains) (length tables) (length agenda)) _ z2)
      (or_first (refusal_of_problem (problem_of n d domains tables)) _ z4))
      (found n d domains tables agenda s (or_then (refusal_of_problem (problem_of n d domains tables)) _ z4)) small stepped
