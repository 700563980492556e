-- Each part of the first checks passes exactly where nothing of it is deserved, and what passes them all is what document 01 allows.
-- Assumes nothing.
use mathlib.Core.Path.{◌≡◌, sym, ◌∙◌}
use mathlib.Core.Logic.{inl, inr, ⊎_elim, ◌↔◌}
use mathlib.Core.Bool.{Bool, true, ◌&&◌}
use mathlib.Core.List.{List, Memᴰ}
use Prim.Native.Nat.{ℕ, ◌+◌, ◌*◌, ◌%◌, ◌≤◌, ◌<◌}
use native.Mathlib.Omega.{arith}
use native.Mathlib.Decide.{ℕ_discrete}
use lib.ListN.{length, get_or}
use lib.Dec.{eqb, leb}
use borrow.Author.Tests.{eqb-true, leb-true}
use Rattle.problem.specs.Problem.{Problem, Proper, problem_of}
use Rattle.splits.specs.Subproblems.{Rules}
use Rattle.splits.specs.declared.subproblem.Subproblem.{Subproblem}
use Rattle.problem.proofs.Tests.{and_left, and_right}
use Rattle.search.specs.Agenda.{stack_of, slots_in}
use Rattle.problem.specs.FirstChecks.{Deserves1, Deserves2, Deserves4, Deserves5}
use Rattle.search.specs.FirstChecks.{WholeSlots, WholeRequests, Deserves3, Deserves6}
use Rattle.search.specs.Tests.FirstChecks.{whole_slots, refusal_of_lengths, refusal_of_requests, all_obey, zeros_from, refusal_of_search, open_refusal, search_refusal, run_refusal}
use Rattle.search.proofs.first_checks.Deserved.{slots_true, refutes_3, requests_true, refutes_requests, refutes_6, all_rules}
use Rattle.problem.proofs.first_checks.Deserved.{over_not}
use Rattle.search.proofs.first_checks.FirstOrder.{open_first, search_first, run_first}
use Rattle.problem.proofs.first_checks.Passing.{passes, proper_where, gives_none}

-- ---- the parts

-- 3
pub lengths_none : (n d : ℕ) (domains tables agenda : List ℕ)
    → (refusal_of_lengths n d (length domains) (length tables) (length agenda) ≡ 0) ↔ (Deserves3 n d domains tables agenda → ⊥)
unfolding refusal_of_lengths
lengths_none n d domains tables agenda =
    gives_none (eqb (length domains) n && eqb (length tables) (n * n * d) && whole_slots n (length agenda)) (Deserves3 n d domains tables agenda) 3
    (λ z. absurd (omega arith)) (refutes_3 n d domains tables agenda)

-- 3, of the list of requests
pub requests_none : (n words : ℕ) → (refusal_of_requests n words ≡ 0) ↔ WholeRequests n words
unfolding refusal_of_requests
requests_none n words =
    let both = gives_none (eqb (words % (n + 3)) 0) (WholeRequests n words → ⊥) 3 (λ z. absurd (omega arith)) (refutes_requests n words) in (
      (λ e. requests_true n words (passes (eqb (words % (n + 3)) 0) (WholeRequests n words → ⊥) (refutes_requests n words) (both.0 e))),
      (λ w. both.1 (λ f. f w)),
    )

-- 6
pub search_none : (p : Problem) (agenda : List ℕ) (steps checks subproblems : ℕ) → Proper p
    → (refusal_of_search p agenda steps checks subproblems ≡ 0) ↔ (Deserves6 p agenda steps checks subproblems → ⊥)
unfolding refusal_of_search
search_none p agenda steps checks subproblems proper =
    gives_none (leb subproblems (slots_in p.n (length agenda)) && all_obey p (stack_of p.n agenda subproblems)
    && zeros_from (subproblems * (p.n + 2)) agenda && leb checks (496 * steps)) (Deserves6 p agenda steps checks subproblems) 6
    (λ z. absurd (omega arith)) (refutes_6 p agenda steps checks subproblems proper)

-- ---- what passes

-- Numbers, lengths and words that document 01 allows: a proper problem in n and n × n × d words, and 1 to 512 whole slots.
pub record Passed (n d : ℕ) (domains tables agenda : List ℕ) : Type 0 where
  pub proper : Proper (problem_of n d domains tables)
  pub domains_words : length domains ≡ n
  pub tables_words : length tables ≡ n * n * d
  pub slots : WholeSlots n (length agenda)

-- A search that document 01 allows: every subproblem obeys the rules, there are at most as many as slots, unused slots hold zeros, and
-- the checks are at most 496 × steps.
pub record PassedSearch (n d : ℕ) (domains tables agenda : List ℕ) (steps checks subproblems : ℕ) : Type 0 where
  pub passed : Passed n d domains tables agenda
  pub rules : (P : Subproblem) → Memᴰ P (stack_of n agenda subproblems) → Rules (problem_of n d domains tables) P
  pub room : subproblems ≤ slots_in n (length agenda)
  pub zeros : (k : ℕ) → subproblems * (n + 2) ≤ k → k < length agenda → get_or agenda k 0 ≡ 0
  pub limit : checks ≤ 496 * steps

module _ (n d : ℕ) (domains tables agenda : List ℕ) where
  -- the problem that the words say
  abbrev p : Problem
  p = problem_of n d domains tables

  -- where none of 1 to 5 is deserved
  pub passed_of : (Deserves1 n → ⊥) → (Deserves2 d → ⊥) → (Deserves3 n d domains tables agenda → ⊥) → (Deserves4 p → ⊥)
      → (Deserves5 p → ⊥) → Passed n d domains tables agenda
  passed_of f1 f2 f3 f4 f5 =
      let one : Bool = eqb (length domains) n in
      let two : Bool = eqb (length tables) (n * n * d) in
      let three : Bool = whole_slots n (length agenda) in
      let all : (one && two && three) ≡ true =
      passes (one && two && three) (Deserves3 n d domains tables agenda) (refutes_3 n d domains tables agenda) f3 in
      let both : (one && two) ≡ true = and_left (one && two) three all in
      record {
        proper = proper_where p f1 f2 f4 f5;
        domains_words = eqb-true (length domains) n (and_left one two both);
        tables_words = eqb-true (length tables) (n * n * d) (and_right one two both);
        slots = slots_true n (length agenda) (and_right (one && two) three all);
      }

  module _ (s : Passed n d domains tables agenda) where
    -- what passed deserves none of the five
    pub not_1 : Deserves1 n → ⊥
    not_1 x = ⊎_elim (λ h. absurd (omega (arith, s.proper.some_variable))) (λ h. absurd (omega (arith, s.proper.variables))) x

    -- 2
    pub not_2 : Deserves2 d → ⊥
    not_2 x = ⊎_elim (λ h. absurd (omega (arith, s.proper.some_value))) (λ h. absurd (omega (arith, s.proper.values))) x

    -- 3
    pub not_3 : Deserves3 n d domains tables agenda → ⊥
    not_3 x = ⊎_elim (λ f. f s.domains_words) (λ y. ⊎_elim (λ f. f s.tables_words) (λ f. f s.slots) y) x

    -- 4
    pub not_4 : Deserves4 p → ⊥
    not_4 x =
        ⊎_elim (λ y. over_not d (p.domain y.0) (s.proper.domains y.0 y.1) y.2)
        (λ y. over_not d (p.allowed y.0 y.1 y.2) (s.proper.masks y.0 y.1 y.2 y.3 y.4 y.5 y.6) y.7) x

    -- 5
    pub not_5 : Deserves5 p → ⊥
    not_5 x = x.10 (sym (s.proper.symmetric x.0 x.1 x.2 x.3 x.4 x.5 x.6 x.7 x.8) ∙ x.9)

  -- What passes the first checks of opening.
  pub open_is_passed : (open_refusal n d domains tables agenda ≡ 0) ↔ Passed n d domains tables agenda
  open_is_passed =
      let none = (open_first n d domains tables agenda).1.1.1.1.1 in (
        (λ e. let t = none.0 e in passed_of t.0.0.0.0.1 t.0.0.0.1 t.0.0.1 t.0.1 t.1),
        (λ s. none.1 (((((tt, not_1 s), not_2 s), not_3 s), not_4 s), not_5 s)),
      )

  module _ (steps checks subproblems : ℕ) where
    -- where 6 is not deserved either
    pub searched_of : Passed n d domains tables agenda → (Deserves6 p agenda steps checks subproblems → ⊥)
        → PassedSearch n d domains tables agenda steps checks subproblems
    searched_of s f =
        let room : Bool = leb subproblems (slots_in n (length agenda)) in
        let rules : Bool = all_obey p (stack_of n agenda subproblems) in
        let zeros : Bool = zeros_from (subproblems * (n + 2)) agenda in
        let limit : Bool = leb checks (496 * steps) in
        let all : (room && rules && zeros && limit) ≡ true =
        passes (room && rules && zeros && limit) (Deserves6 p agenda steps checks subproblems)
        (refutes_6 p agenda steps checks subproblems s.proper) f in
        let three : (room && rules && zeros) ≡ true = and_left (room && rules && zeros) limit all in
        let two : (room && rules) ≡ true = and_left (room && rules) zeros three in
        record {
          passed = s;
          rules = all_rules p (stack_of n agenda subproblems) s.proper (and_right room rules two);
          room = leb-true subproblems (slots_in n (length agenda)) (and_left room rules two);
          zeros = λ k h l. elim (ℕ_discrete (get_or agenda k 0) 0) [ yes e ↦ e | no g ↦ absurd (f (inr (inr (inl (k, h, l, g))))) ];
          limit = leb-true checks (496 * steps) (and_right (room && rules && zeros) limit all);
        }

    -- what passed deserves no 6
    pub not_6 : PassedSearch n d domains tables agenda steps checks subproblems → Deserves6 p agenda steps checks subproblems → ⊥
    not_6 s x =
        ⊎_elim (λ r. r.2 (s.rules r.0 r.1))
        (λ y. ⊎_elim (λ h. absurd (omega (arith, s.room)))
        (λ z. ⊎_elim (λ r. r.3 (s.zeros r.0 r.1 r.2)) (λ h. absurd (omega (arith, s.limit))) z) y) x

    -- What passes those of the chooser and save.
    pub search_is_passed : (search_refusal n d domains tables agenda steps checks subproblems ≡ 0)
        ↔ PassedSearch n d domains tables agenda steps checks subproblems
    search_is_passed =
        let none = (search_first n d domains tables agenda steps checks subproblems).1.1.1.1.1.1 in (
          (λ e. let t = none.0 e in
              searched_of (passed_of t.0.0.0.0.0.1 t.0.0.0.0.1 t.0.0.0.1 t.0.0.1 t.0.1) t.1),
          (λ s. let q = s.passed in none.1 ((((((tt, not_1 q), not_2 q), not_3 q), not_4 q), not_5 q), not_6 s)),
        )

    -- What passes those of a run.
    pub run_is_passed : (requests : List ℕ) → (run_refusal n d domains tables agenda requests steps checks subproblems ≡ 0)
        ↔ (PassedSearch n d domains tables agenda steps checks subproblems × WholeRequests n (length requests))
    run_is_passed requests =
        let none = (run_first n d domains tables agenda steps checks subproblems requests).1.1.1.1.1.1 in
        let list : Bool = eqb (length requests % (n + 3)) 0 in (
          (λ e. let t = none.0 e in (
            searched_of (passed_of t.0.0.0.0.0.1 t.0.0.0.0.1 (λ x. t.0.0.0.1 (inl x)) t.0.0.1 t.0.1) t.1,
            requests_true n (length requests)
                (passes list (WholeRequests n (length requests) → ⊥) (refutes_requests n (length requests)) (λ x. t.0.0.0.1 (inr x))),
          )),
          (λ s. let q = s.0.passed in
              none.1 ((((((tt, not_1 q), not_2 q), (λ x. ⊎_elim (not_3 q) (λ f. f s.1) x)), not_4 q), not_5 q), not_6 s.0)),
        )
