-- Files whose words are accepted: what passing 15 says, and what 15 says, rule by rule.
-- Assumes nothing.
use mathlib.Core.Path.{◌≡◌, refl, sym, ap, ◌∙◌}
use mathlib.Core.Logic.{◌⊎◌, inl, inr, ⊎_elim, ◌↔◌}
use mathlib.Core.Bool.{Bool, true, false, cond, ◌&&◌, ◌||◌}
use mathlib.Core.List.{List, Memᴰ}
use Prim.Native.Nat.{ℕ, ◌+◌, ◌-◌, ◌*◌, ◌^◌, ◌≤◌, ◌<◌}
use native.Mathlib.Omega.{arith}
use native.Mathlib.Decide.{dec_lt}
use lib.Arith.{lt_of_le-ne}
use lib.ListN.{length}
use lib.Dec.{eqb, leb, ltb}
use borrow.Author.Tests.{eq-eqb, le-leb, lt-ltb, le-ltb, eqb-true, eqb-false, leb-true, leb-false}
use Rattle.problem.specs.Masks.{bit}
use Rattle.problem.specs.Problem.{Proper}
use Rattle.splits.specs.Subproblems.{Rules}
use Rattle.problem.specs.Lists.{every}
use Rattle.splits.specs.declared.subproblem.Subproblem.{Subproblem}
use Rattle.problem.proofs.mask.Masks.{bit_le}
use Rattle.problem.proofs.Tests.{true_false, and_left, and_right, every_at, every_all}
use Rattle.search.specs.Agenda.{slots_in}
use Rattle.problem.specs.FirstChecks.{Deserves1, Deserves2, Deserves4, Deserves5}
use Rattle.search.specs.FirstChecks.{Deserves6}
use Rattle.problem.specs.Tests.FirstChecks.{refusal_of_numbers, masks_below, symmetric, refusal_of_problem}
use Rattle.search.specs.Tests.FirstChecks.{all_obey, zeros_from, refusal_of_search}
use Rattle.problem.proofs.Decisions.{Decides, Refutes, every_fails}
use Rattle.problem.proofs.first_checks.Parts.{given_if}
use Rattle.problem.proofs.first_checks.Deserved.{decides_1, decides_2, over_not, refutes_4, refutes_5}
use Rattle.search.proofs.first_checks.Deserved.{refutes_6, all_rules}
use Rattle.problem.proofs.first_checks.Passing.{numbers_none, gives_none, problem_none, proper_is_passed}
use Rattle.search.proofs.first_checks.FirstPassing.{search_none}
use Rattle.blocks.specs.Blocks.{blocks_for}
use Rattle.blocks.specs.Reading.{blocks_in, content_word}
use Rattle.files.specs.Reading.{said_n, said_d, said_steps, said_checks, said_subproblems, said_allowed, said_problem, said_agenda, said_search, said_words, agenda_from, gathered, Deserves15, refusal_of_words}
use Rattle.blocks.proofs.Tests.{either, one_of}
use Rattle.files.proofs.Tests.{given_exactly}
use Rattle.blocks.proofs.Contents.{length_from}
use Rattle.files.proofs.Stacks.{slots_in_lem}
use Rattle.files.proofs.Gathered.{gathered_lt, gathered_bit}

-- What an accepted file says.
pub record Accepts (file : List ℕ) : Type 0 where
  pub some_variable : 1 ≤ said_n file
  pub variables : said_n file ≤ 32
  pub some_value : 1 ≤ said_d file
  pub values : said_d file ≤ 16
  pub few : said_subproblems file ≤ 512
  pub fills : blocks_in file ≡ blocks_for (said_words file)
  pub zeros : (k : ℕ) → said_words file ≤ k → k < blocks_in file * 253 → content_word file k ≡ 0
  pub domains : (i : ℕ) → i < said_n file → (said_problem file).domain i < 2 ^ said_d file
  pub masks : (i j a : ℕ) → i < j → j < said_n file → a < said_d file → said_allowed file i j a < 2 ^ said_d file
  pub rules : (P : Subproblem) → Memᴰ P (said_search file).memory → Rules (said_problem file) P
  pub counted : said_checks file ≤ 496 * said_steps file

module _ (file : List ℕ) where
  -- A mask below the triangle is put together of those above.
  above_is : (i j a : ℕ) → j < i → said_allowed file i j a ≡ gathered (said_d file) (λ b. bit (said_allowed file j i b) a)
  unfolding said_allowed
  above_is i j a l = rw (le-ltb i j (omega arith), lt-ltb j i l) refl

  -- So the tables are symmetric.
  mirror : (i j a b : ℕ) → i < j → a < said_d file → bit (said_allowed file i j a) b ≡ bit (said_allowed file j i b) a
  mirror i j a b l m =
      sym
      (ap (λ (x : ℕ). bit x a) (above_is j i b l) ∙ gathered_bit (said_d file) (λ v. bit (said_allowed file i j v) b)
      (λ v. bit_le (said_allowed file i j v) b) a m)

  both_ways : (i j v w : ℕ) → (i ≡ j → ⊥) → v < said_d file → w < said_d file → bit (said_allowed file i j v) w ≡ bit (said_allowed file j i w) v
  both_ways i j v w f m o = elim (dec_lt i j) [
    | yes h ↦ mirror i j v w h m
    | no h ↦ let less : j < i = lt_of_le-ne (omega arith) (λ e. f (sym e)) in sym (mirror j i w v less o)
  ]

  -- A problem of such numbers, domains and masks is proper.
  proper_said : 1 ≤ said_n file → said_n file ≤ 32 → 1 ≤ said_d file → said_d file ≤ 16
      → ((i : ℕ) → i < said_n file → (said_problem file).domain i < 2 ^ said_d file)
      → ((i j a : ℕ) → i < j → j < said_n file → a < said_d file → said_allowed file i j a < 2 ^ said_d file) → Proper (said_problem file)
  proper_said n₁ n₂ d₁ d₂ domains masks = record {
    some_variable = n₁;
    variables = n₂;
    some_value = d₁;
    values = d₂;
    domains = domains;
    masks = λ i j v l k f m. elim (dec_lt i j) [
      | yes h ↦ masks i j v h k m
      | no h ↦
          let less : j < i = lt_of_le-ne (omega arith) (λ e. f (sym e)) in
          rw (above_is i j v less) (gathered_lt (said_d file) (λ b. bit (said_allowed file j i b) v) (λ b. bit_le (said_allowed file j i b) v))
    ];
    symmetric = λ i j v w l k f m o. both_ways i j v w f m o;
  }

  -- The problem that an accepted file says is proper.
  pub said_proper : Accepts file → Proper (said_problem file)
  said_proper a = proper_said a.some_variable a.variables a.some_value a.values a.domains a.masks

  t_numbers : Bool
  t_numbers = eqb (refusal_of_numbers (said_n file) (said_d file)) 0

  t_few : Bool
  t_few = leb (said_subproblems file) 512

  t_fills : Bool
  t_fills = eqb (blocks_in file) (blocks_for (said_words file))

  t_zero : Bool
  t_zero = every (blocks_in file * 253 - said_words file) (λ k. eqb (content_word file (said_words file + k)) 0)

  t_problem : Bool
  t_problem = eqb (refusal_of_problem (said_problem file)) 0

  t_search : Bool
  t_search = eqb (refusal_of_search (said_problem file) (said_agenda file) (said_steps file) (said_checks file) (said_subproblems file)) 0

  tests : Bool
  tests = t_numbers && t_few && t_fills && t_zero && t_problem && t_search

  is_tests : refusal_of_words file ≡ cond tests 0 15
  unfolding refusal_of_words tests t_numbers t_few t_fills t_zero t_problem t_search
  is_tests = refl

  -- The stack of its agenda obeys the rules, and the checks are few enough, where 6 is not given.
  searched : Proper (said_problem file)
      → refusal_of_search (said_problem file) (said_agenda file) (said_steps file) (said_checks file) (said_subproblems file) ≡ 0
      → ((P : Subproblem) → Memᴰ P (said_search file).memory → Rules (said_problem file) P) × (said_checks file ≤ 496 * said_steps file)
  unfolding refusal_of_search
  searched proper e =
      let room : Bool = leb (said_subproblems file) (slots_in (said_n file) (length (said_agenda file))) in
      let rules : Bool = all_obey (said_problem file) (said_search file).memory in
      let zeros : Bool = zeros_from (said_subproblems file * (said_n file + 2)) (said_agenda file) in
      let limit : Bool = leb (said_checks file) (496 * said_steps file) in
      let all : (room && rules && zeros && limit) ≡ true = given_if (room && rules && zeros && limit) 6 (λ z. absurd (omega arith)) e in (
        all_rules (said_problem file) (said_search file).memory proper
            (and_right room rules (and_left (room && rules) zeros (and_left (room && rules && zeros) limit all))),
        leb-true (said_checks file) (496 * said_steps file) (and_right (room && rules && zeros) limit all),
      )

  -- What the tests say.
  tests_accept : tests ≡ true → Accepts file
  unfolding tests t_numbers t_few t_fills t_zero t_problem t_search
  tests_accept e6 =
      let e5 : (t_numbers && t_few && t_fills && t_zero && t_problem) ≡ true = and_left (t_numbers && t_few && t_fills && t_zero && t_problem) t_search
      e6 in
      let e4 : (t_numbers && t_few && t_fills && t_zero) ≡ true = and_left (t_numbers && t_few && t_fills && t_zero) t_problem e5 in
      let e3 : (t_numbers && t_few && t_fills) ≡ true = and_left (t_numbers && t_few && t_fills) t_zero e4 in
      let e2 : (t_numbers && t_few) ≡ true = and_left (t_numbers && t_few) t_fills e3 in
      let none : refusal_of_numbers (said_n file) (said_d file) ≡ 0 = eqb-true (refusal_of_numbers (said_n file) (said_d file)) 0
      (and_left t_numbers t_few e2) in
      let problem : refusal_of_problem (said_problem file) ≡ 0 = eqb-true (refusal_of_problem (said_problem file)) 0
      (and_right (t_numbers && t_few && t_fills && t_zero) t_problem e5) in
      let proper = proper_is_passed (said_problem file) none problem in
      let search = searched proper
      (eqb-true (refusal_of_search (said_problem file) (said_agenda file) (said_steps file) (said_checks file) (said_subproblems file)) 0
      (and_right (t_numbers && t_few && t_fills && t_zero && t_problem) t_search e6)) in
      record {
        some_variable = proper.some_variable;
        variables = proper.variables;
        some_value = proper.some_value;
        values = proper.values;
        few = leb-true (said_subproblems file) 512 (and_right t_numbers t_few e2);
        fills = eqb-true (blocks_in file) (blocks_for (said_words file)) (and_right (t_numbers && t_few) t_fills e3);
        zeros = λ k l m.
            let at : said_words file + (k - said_words file) ≡ k = omega arith in
            rw (← at) (eqb-true (content_word file (said_words file + (k - said_words file))) 0
            (every_at (λ k. eqb (content_word file (said_words file + k)) 0) (blocks_in file * 253 - said_words file) (k - said_words file) (omega arith)
            (and_right (t_numbers && t_few && t_fills) t_zero e4)));
        domains = proper.domains;
        masks = λ i j a l k m. proper.masks i j a (omega arith) k (λ e. absurd (omega arith)) m;
        rules = search.0;
        counted = search.1;
      }

  -- Its agenda has no slot that is not used.
  pub agenda_length : length (said_agenda file) ≡ said_subproblems file * (said_n file + 2)
  unfolding said_agenda
  agenda_length = length_from file (agenda_from (said_n file) (said_d file)) (said_subproblems file * (said_n file + 2))

  -- An accepted file breaks none.
  pub accepts_deserves_not : Accepts file → Deserves15 file → ⊥
  accepts_deserves_not a (inl (inl l)) = omega (arith, a.some_variable)
  accepts_deserves_not a (inl (inr l)) = omega (arith, a.variables)
  accepts_deserves_not a (inr (inl (inl l))) = omega (arith, a.some_value)
  accepts_deserves_not a (inr (inl (inr l))) = omega (arith, a.values)
  accepts_deserves_not a (inr (inr (inl l))) = omega (arith, a.few)
  accepts_deserves_not a (inr (inr (inr (inl f)))) = f a.fills
  accepts_deserves_not a (inr (inr (inr (inr (inl (k, l, m, f)))))) = f (a.zeros k l m)
  accepts_deserves_not a (inr (inr (inr (inr (inr (inl (inl (i, l, o)))))))) = over_not (said_d file) ((said_problem file).domain i) (a.domains i l) o
  accepts_deserves_not a (inr (inr (inr (inr (inr (inl (inr (i, j, v, l, k, f, m, o)))))))) =
      over_not (said_d file) (said_allowed file i j v) ((said_proper a).masks i j v l k f m) o
  accepts_deserves_not a (inr (inr (inr (inr (inr (inr (inl (P, m, f)))))))) = f (a.rules P m)
  accepts_deserves_not a (inr (inr (inr (inr (inr (inr (inr (inl l)))))))) =
      omega (arith, l, ap (slots_in (said_n file)) agenda_length, slots_in_lem (said_n file) (said_subproblems file))
  accepts_deserves_not a (inr (inr (inr (inr (inr (inr (inr (inr (inl (k, l, m, f)))))))))) = omega (arith, l, m, agenda_length)
  accepts_deserves_not a (inr (inr (inr (inr (inr (inr (inr (inr (inr l))))))))) = omega (arith, a.counted)

  -- No pair is allowed one way only: each is said once.
  said_both_ways : Deserves5 (said_problem file) → ⊥
  said_both_ways x = x.10 (sym (both_ways x.0 x.1 x.2 x.3 x.6 x.7 x.8) ∙ x.9)

  -- It passes every test.
  accept_tests : Accepts file → tests ≡ true
  unfolding tests t_numbers t_few t_fills t_zero t_problem t_search
  accept_tests a =
      let no = accepts_deserves_not a in
      let proper = said_proper a in
      let numbers : refusal_of_numbers (said_n file) (said_d file) ≡ 0 = (numbers_none (said_n file) (said_d file)).1
      ((λ h. no (inl h)), (λ h. no (inr (inl h)))) in
      let problem : refusal_of_problem (said_problem file) ≡ 0 = (problem_none (said_problem file)).1
      ((λ h. no (inr (inr (inr (inr (inr (inl h))))))), said_both_ways) in
      let search : refusal_of_search (said_problem file) (said_agenda file) (said_steps file) (said_checks file) (said_subproblems file) ≡ 0 =
      (search_none (said_problem file) (said_agenda file) (said_steps file) (said_checks file) (said_subproblems file) proper).1
      (λ h. no (inr (inr (inr (inr (inr (inr h))))))) in
      let zero : t_zero ≡ true = every_all (λ k. eqb (content_word file (said_words file + k)) 0) (blocks_in file * 253 - said_words file)
      (λ k l. eq-eqb (content_word file (said_words file + k)) 0 (a.zeros (said_words file + k) (omega arith) (omega arith))) in
      rw (
        numbers,
        le-leb (said_subproblems file) 512 a.few,
        eq-eqb (blocks_in file) (blocks_for (said_words file)) a.fills,
        zero,
        problem,
        search,
      ) refl

  -- A test of numbers that fails: 1 or 2 is deserved.
  numbers_fail : (refusal_of_numbers (said_n file) (said_d file) ≡ 0 → ⊥) → Deserves1 (said_n file) ⊎ Deserves2 (said_d file)
  unfolding refusal_of_numbers
  numbers_fail f =
      go (ltb (said_n file) 1 || ltb 32 (said_n file)) (ltb (said_d file) 1 || ltb 16 (said_d file)) (decides_1 (said_n file)) (decides_2 (said_d file)) f
    where
      go : (a b : Bool) → Decides a (Deserves1 (said_n file)) → Decides b (Deserves2 (said_d file)) → (◌≡◌ {A = ℕ} (cond a 1 (cond b 2 0)) 0 → ⊥)
          → Deserves1 (said_n file) ⊎ Deserves2 (said_d file)
      go true b s t g = inl (s.holds refl)
      go false true s t g = inr (t.holds refl)
      go false false s t g = absurd (g refl)

  -- One of the problem: 4 or 5.
  problem_fails : (refusal_of_problem (said_problem file) ≡ 0 → ⊥) → Deserves4 (said_problem file) ⊎ Deserves5 (said_problem file)
  unfolding refusal_of_problem
  problem_fails f =
      go (masks_below (said_problem file)) (symmetric (said_problem file)) (refutes_4 (said_problem file)) (refutes_5 (said_problem file)) f
    where
      go : (a b : Bool) → Refutes a (Deserves4 (said_problem file)) → Refutes b (Deserves5 (said_problem file))
          → (◌≡◌ {A = ℕ} (cond a (cond b 0 5) 4) 0 → ⊥)
          → Deserves4 (said_problem file) ⊎ Deserves5 (said_problem file)
      go false b s t g = inl (s.holds refl)
      go true false s t g = inr (t.holds refl)
      go true true s t g = absurd (g refl)

  -- One of the search: 6.
  search_fails : Proper (said_problem file)
      → (refusal_of_search (said_problem file) (said_agenda file) (said_steps file) (said_checks file) (said_subproblems file) ≡ 0 → ⊥)
      → Deserves6 (said_problem file) (said_agenda file) (said_steps file) (said_checks file) (said_subproblems file)
  unfolding refusal_of_search
  search_fails proper f =
      go _ (refutes_6 (said_problem file) (said_agenda file) (said_steps file) (said_checks file) (said_subproblems file) proper) f
    where
      go : (b : Bool) → Refutes b (Deserves6 (said_problem file) (said_agenda file) (said_steps file) (said_checks file) (said_subproblems file))
          → (◌≡◌ {A = ℕ} (cond b 0 6) 0 → ⊥) → Deserves6 (said_problem file) (said_agenda file) (said_steps file) (said_checks file) (said_subproblems file)
      go true s g = absurd (g refl)
      go false s g = s.holds refl

  -- If they do not all pass, a rule is broken.
  tests_deserve : tests ≡ false → Deserves15 file
  unfolding tests t_numbers t_few t_fills t_zero t_problem t_search
  tests_deserve e = one (either t_numbers) (either t_few) (either t_fills) (either t_zero) (either t_problem) (either t_search)
    where
      Way : Bool → Type 0
      Way b = (b ≡ true) ⊎ (b ≡ false)

      searched_not : t_numbers ≡ true → t_problem ≡ true → t_search ≡ false → Deserves15 file
      searched_not a g h =
          let proper = proper_is_passed (said_problem file) (eqb-true (refusal_of_numbers (said_n file) (said_d file)) 0 a)
          (eqb-true (refusal_of_problem (said_problem file)) 0 g) in
          inr (inr (inr (inr (inr (inr (search_fails proper
          (eqb-false (refusal_of_search (said_problem file) (said_agenda file) (said_steps file) (said_checks file) (said_subproblems file)) 0 h)))))))

      one : Way t_numbers → Way t_few → Way t_fills → Way t_zero → Way t_problem → Way t_search → Deserves15 file
      one (inr a) w x y z v = ⊎_elim (λ h. inl h) (λ h. inr (inl h)) (numbers_fail (eqb-false (refusal_of_numbers (said_n file) (said_d file)) 0 a))
      one (inl a) (inr b) x y z v = inr (inr (inl (leb-false (said_subproblems file) 512 b)))
      one (inl a) (inl b) (inr c) y z v = inr (inr (inr (inl (eqb-false (blocks_in file) (blocks_for (said_words file)) c))))
      one (inl a) (inl b) (inl c) (inr d) z v =
          let (k, l, w) = every_fails (λ k. eqb (content_word file (said_words file + k)) 0) (blocks_in file * 253 - said_words file) d in
          inr (inr (inr (inr (inl (said_words file + k, omega arith, omega arith, eqb-false (content_word file (said_words file + k)) 0 w)))))
      one (inl a) (inl b) (inl c) (inl d) (inr g) v =
          ⊎_elim (λ h. inr (inr (inr (inr (inr (inl h)))))) (λ h. absurd (said_both_ways h))
          (problem_fails (eqb-false (refusal_of_problem (said_problem file)) 0 g))
      one (inl a) (inl b) (inl c) (inl d) (inl g) (inr h) = searched_not a g h
      one (inl a) (inl b) (inl c) (inl d) (inl g) (inl h) = absurd (true_false (sym (rw (a, b, c, d, g) h) ∙ e))

  -- Passing 15 says that the file is accepted.
  pub words_accept : refusal_of_words file ≡ 0 → Accepts file
  words_accept e = tests_accept (given_if tests 15 (λ z. absurd (omega arith)) (sym is_tests ∙ e))

  -- An accepted file passes 15.
  pub accept_words : Accepts file → refusal_of_words file ≡ 0
  accept_words a = is_tests ∙ rw (accept_tests a) refl

  -- The tests fail exactly where 15 is deserved.
  tests_refute : Refutes tests (Deserves15 file)
  tests_refute = record { holds = tests_deserve; fails = λ e. accepts_deserves_not (tests_accept e) }

  -- 15 is given exactly if it is deserved.
  pub refusal_15 : (refusal_of_words file ≡ 15) ↔ Deserves15 file
  refusal_15 = rw is_tests (given_exactly tests 15 (Deserves15 file) (λ z. absurd (omega arith)) tests_refute)

  -- It passes exactly if 15 is not deserved.
  pub refusal_not_15 : (refusal_of_words file ≡ 0) ↔ (Deserves15 file → ⊥)
  refusal_not_15 = rw is_tests (gives_none tests (Deserves15 file) 15 (λ z. absurd (omega arith)) tests_refute)

  -- The answer is 0 or 15.
  pub words_either : (refusal_of_words file ≡ 0) ⊎ (refusal_of_words file ≡ 15)
  words_either = rw is_tests (one_of tests 0 15)
