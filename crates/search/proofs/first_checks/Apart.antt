-- What stands in the tables for a variable with itself is never read: tables that agree elsewhere have the same refusal.
-- Assumes nothing.
use mathlib.Core.Path.{◌≡◌, refl, sym, ap, ◌∙◌, subst}
use mathlib.Core.Logic.{inl, inr, ⊎_elim}
use mathlib.Core.Bool.{Bool, true, false}
use mathlib.Core.List.{List}
use Prim.Native.Nat.{ℕ}
use native.Mathlib.Decide.{ℕ_discrete}
use lib.ListN.{length}
use borrow.Author.Tests.{ne_eqb}
use Rattle.problem.specs.Masks.{◌∈◌}
use Rattle.problem.specs.Problem.{Problem, Proper, AgreeApart, problem_of}
use Rattle.splits.specs.Subproblems.{Rules}
use Rattle.splits.specs.declared.subproblem.Subproblem.{Subproblem}
use Rattle.problem.proofs.mask.Masks.{member_lt}
use Rattle.problem.proofs.Tests.{same_test}
use Rattle.search.specs.Agenda.{stack_of}
use Rattle.problem.specs.FirstChecks.{Over, Deserves4, Deserves5}
use Rattle.problem.specs.Tests.FirstChecks.{refusal_of_numbers, masks_below, symmetric, refusal_of_problem, or_else}
use Rattle.search.specs.Tests.FirstChecks.{refusal_of_lengths, refusal_of_requests, all_obey, refusal_of_search, open_refusal, search_refusal, run_refusal}
use Rattle.problem.proofs.Decisions.{Refutes}
use Rattle.problem.proofs.first_checks.Deserved.{refutes_4, refutes_5}
use Rattle.search.proofs.first_checks.Deserved.{all_rules, all_obey_lem}
use Rattle.search.proofs.first_checks.FirstParts.{open_parts}
use Rattle.problem.proofs.first_checks.Passing.{proper_is_passed}

-- tests that refute the same are the same
same_refuted : (a b : Bool) (A B : Type 0) → Refutes a A → Refutes b B → (A → B) → (B → A) → a ≡ b
same_refuted true true A B s t f g = refl
same_refuted false false A B s t f g = refl
same_refuted true false A B s t f g = absurd (s.fails refl (g (t.holds refl)))
same_refuted false true A B s t f g = absurd (t.fails refl (f (s.holds refl)))

-- where the first of two refusals passes, the second decides
pub else_same : (a b c : ℕ) → (a ≡ 0 → b ≡ c) → or_else a b ≡ or_else a c
else_same a b c f = elim (ℕ_discrete a 0) [ yes e ↦ simp (f e) | no g ↦ simp (ne_eqb a 0 g) ]

module _ (n d : ℕ) (domains : List ℕ) where
  -- the problem with these tables
  abbrev problem : List ℕ → Problem
  problem tables = problem_of n d domains tables

  -- what is deserved of one is deserved of the other
  apart_4 : (s t : List ℕ) → AgreeApart n d s t → Deserves4 (problem s) → Deserves4 (problem t)
  apart_4 s t h x =
      ⊎_elim inl (λ y. inr (
        y.0,
        y.1,
        y.2,
        y.3,
        y.4,
        y.5,
        y.6,
        subst (Over d) (h.masks y.0 y.1 y.2 y.3 y.4 y.5 y.6) y.7,
      )) x

  -- the same of 5
  apart_5 : (s t : List ℕ) → AgreeApart n d s t → Deserves5 (problem s) → Deserves5 (problem t)
  apart_5 s t h x =
      let one = h.masks x.0 x.1 x.2 x.4 x.5 x.6 x.7 in
      let two = h.masks x.1 x.0 x.3 x.5 x.4 (λ e. x.6 (sym e)) x.8 in (
        x.0,
        x.1,
        x.2,
        x.3,
        x.4,
        x.5,
        x.6,
        x.7,
        x.8,
        subst (λ (m : ℕ). x.3 ∈ m) one x.9,
        (λ k. x.10 (subst (λ (m : ℕ). x.2 ∈ m) (sym two) k)),
      )

  -- a subproblem that obeys the rules of one obeys those of the other
  apart_rules : (s t : List ℕ) → AgreeApart n d s t → Proper (problem s) → (P : Subproblem) → Rules (problem s) P → Rules (problem t) P
  apart_rules s t h proper P r = record {
    filled = r.filled;
    part = r.part;
    one_value = r.one_value;
    mutual_values = λ i j a b l k f m o x y.
        subst (λ (mask : ℕ). b ∈ mask) (h.masks i j a l k f (member_lt d ((problem s).domain i) a (proper.domains i l) (r.part i l a x)))
        (r.mutual_values i j a b l k f m o x y);
    marks = r.marks;
  }

  -- agreement is the same from either side
  turned : (s t : List ℕ) → AgreeApart n d s t → AgreeApart n d t s
  turned s t h = record { words = sym h.words; masks = λ i j a l k f m. sym (h.masks i j a l k f m) }

  module _ (s t : List ℕ) (h : AgreeApart n d s t) where
    -- 4 and 5 are given of both or of neither
    apart_problem : refusal_of_problem (problem s) ≡ refusal_of_problem (problem t)
    unfolding refusal_of_problem
    apart_problem =
        let back : AgreeApart n d t s = turned s t h in
        let four = same_refuted (masks_below (problem s)) (masks_below (problem t)) (Deserves4 (problem s)) (Deserves4 (problem t))
        (refutes_4 (problem s)) (refutes_4 (problem t)) (apart_4 s t h) (apart_4 t s back) in
        let five = same_refuted (symmetric (problem s)) (symmetric (problem t)) (Deserves5 (problem s)) (Deserves5 (problem t))
        (refutes_5 (problem s)) (refutes_5 (problem t)) (apart_5 s t h) (apart_5 t s back) in
        rw (four, five)

    module _ (agenda : List ℕ) where
      -- so is 3
      apart_lengths : refusal_of_lengths n d (length domains) (length s) (length agenda) ≡ refusal_of_lengths n d (length domains) (length t) (length agenda)
      apart_lengths = ap (λ (x : ℕ). refusal_of_lengths n d (length domains) x (length agenda)) h.words

      -- opening's first checks
      open_same : open_refusal n d domains s agenda ≡ open_refusal n d domains t agenda
      unfolding open_refusal
      open_same = rw (apart_lengths, apart_problem)

      -- of a problem that passed
      search_same : (steps checks subproblems : ℕ) → Proper (problem s) → Proper (problem t)
          → refusal_of_search (problem s) agenda steps checks subproblems ≡ refusal_of_search (problem t) agenda steps checks subproblems
      unfolding refusal_of_search
      search_same steps checks subproblems ps pt =
          let S : List Subproblem = stack_of n agenda subproblems in
          let same : all_obey (problem s) S ≡ all_obey (problem t) S =
          same_test (all_obey (problem s) S) (all_obey (problem t) S)
          (λ e. all_obey_lem (problem t) S pt (λ P m. apart_rules s t h ps P (all_rules (problem s) S ps e P m)))
          (λ e. all_obey_lem (problem s) S ps (λ P m. apart_rules t s (turned s t h) pt P (all_rules (problem t) S pt e P m))) in
          rw same

-- The three calls.
pub apart_open : (n d : ℕ) (domains tables others agenda : List ℕ) → AgreeApart n d tables others
    → open_refusal n d domains tables agenda ≡ open_refusal n d domains others agenda
apart_open n d domains tables others agenda h = open_same n d domains tables others h agenda

-- the chooser and save
pub apart_search : (n d : ℕ) (domains tables others agenda : List ℕ) (steps checks subproblems : ℕ) → AgreeApart n d tables others
    → search_refusal n d domains tables agenda steps checks subproblems ≡ search_refusal n d domains others agenda steps checks subproblems
unfolding search_refusal
apart_search n d domains tables others agenda steps checks subproblems h =
    let p : Problem = problem_of n d domains tables in
    let q : Problem = problem_of n d domains others in
    let same = open_same n d domains tables others h agenda in
    else_same (open_refusal n d domains tables agenda) (refusal_of_search p agenda steps checks subproblems)
    (refusal_of_search q agenda steps checks subproblems)
    (λ e.
    let a = open_parts n d domains tables agenda e in
    let b = open_parts n d domains others agenda (sym same ∙ e) in
    search_same n d domains tables others h agenda steps checks subproblems (proper_is_passed p a.0 a.2) (proper_is_passed q b.0 b.2))
    ∙ ap (λ (x : ℕ). or_else x (refusal_of_search q agenda steps checks subproblems)) same

-- a run
pub apart_run : (n d : ℕ) (domains tables others agenda requests : List ℕ) (steps checks subproblems : ℕ) → AgreeApart n d tables others
    → run_refusal n d domains tables agenda requests steps checks subproblems ≡ run_refusal n d domains others agenda requests steps checks subproblems
unfolding run_refusal
apart_run n d domains tables others agenda requests steps checks subproblems h =
    let p : Problem = problem_of n d domains tables in
    let q : Problem = problem_of n d domains others in
    let lengths : ℕ = refusal_of_lengths n d (length domains) (length others) (length agenda) in
    let list : ℕ = refusal_of_requests n (length requests) in
    rw (apart_lengths n d domains tables others h agenda, apart_problem n d domains tables others h)
    (else_same (refusal_of_numbers n d) _ _ (λ e1. else_same lengths _ _ (λ e2. else_same list _ _ (λ e3. else_same (refusal_of_problem q) _ _ (λ e4.
    search_same n d domains tables others h agenda steps checks subproblems
    (proper_is_passed p e1 (apart_problem n d domains tables others h ∙ e4)) (proper_is_passed q e1 e4))))))
