-- The first checks of the three calls: the number they give is the first that is deserved.
-- Assumes nothing.
use mathlib.Core.Path.{◌≡◌, refl, sym, subst}
use mathlib.Core.Bool.{Bool, true, false, not, cond, ◌&&◌, ◌||◌}
use mathlib.Core.List.{List, [], ◌∷◌}
use Prim.Native.Nat.{ℕ, ◌+◌, ◌*◌, ◌%◌}
use lib.ListN.{length}
use lib.Dec.{eqb, leb, ltb}
use Rattle.problem.specs.Problem.{Problem, problem_of}
use Rattle.problem.specs.Refusing.{FirstOf}
use Rattle.problem.proofs.Refusing.{first_by}
use Rattle.search.specs.Agenda.{stack_of, slots_in}
use Rattle.search.specs.FirstChecks.{WholeRequests, Deserves3}
use Rattle.problem.specs.Tests.FirstChecks.{refusal_of_numbers, masks_below, symmetric, refusal_of_problem, or_else}
use Rattle.search.specs.Tests.FirstChecks.{whole_slots, refusal_of_lengths, refusal_of_requests, all_obey, zeros_from, refusal_of_search, open_refusal, search_refusal, run_refusal}
use Rattle.search.specs.Promises.{open_table, search_table, run_table}
use Rattle.problem.proofs.Decisions.{decided, refuted, refutes_and}
use Rattle.problem.proofs.first_checks.Deserved.{decides_1, decides_2, refutes_4, refutes_5}
use Rattle.search.proofs.first_checks.Deserved.{refutes_3, refutes_requests, refutes_6}
use Rattle.problem.proofs.first_checks.Passing.{proper_where}

-- Opening's five tests, one after the other: each gives its number where those before it passed.
abbrev open_tests : Bool → Bool → Bool → Bool → Bool → ℕ
open_tests b1 b2 c3 c4 c5 = or_else (cond b1 1 (cond b2 2 0)) (or_else (cond c3 0 3) (cond c4 (cond c5 0 5) 4))

open_chain : (b1 b2 c3 c4 c5 : Bool)
    → open_tests b1 b2 c3 c4 c5 ≡ cond b1 1 (cond b2 2 (cond (not c3) 3 (cond (not c4) 4 (cond (not c5) 5 0))))
open_chain true b2 c3 c4 c5 = refl
open_chain false true c3 c4 c5 = refl
open_chain false false false c4 c5 = refl
open_chain false false true false c5 = refl
open_chain false false true true false = refl
open_chain false false true true true = refl

-- The sixth comes last.
search_chain : (b1 b2 c3 c4 c5 c6 : Bool)
    → or_else (open_tests b1 b2 c3 c4 c5) (cond c6 0 6)
    ≡ cond b1 1 (cond b2 2 (cond (not c3) 3 (cond (not c4) 4 (cond (not c5) 5 (cond (not c6) 6 0)))))
search_chain true b2 c3 c4 c5 c6 = refl
search_chain false true c3 c4 c5 c6 = refl
search_chain false false false c4 c5 c6 = refl
search_chain false false true false c5 c6 = refl
search_chain false false true true false c6 = refl
search_chain false false true true true false = refl
search_chain false false true true true true = refl

-- A run's list of requests is part of 3.
run_chain : (b1 b2 c3 q c4 c5 c6 : Bool)
    → or_else (cond b1 1 (cond b2 2 0)) (or_else (cond c3 0 3) (or_else (cond q 0 3) (or_else (cond c4 (cond c5 0 5) 4) (cond c6 0 6))))
    ≡ cond b1 1 (cond b2 2 (cond (not (c3 && q)) 3 (cond (not c4) 4 (cond (not c5) 5 (cond (not c6) 6 0)))))
run_chain true b2 c3 q c4 c5 c6 = refl
run_chain false true c3 q c4 c5 c6 = refl
run_chain false false false q c4 c5 c6 = refl
run_chain false false true false c4 c5 c6 = refl
run_chain false false true true false c5 c6 = refl
run_chain false false true true true false c6 = refl
run_chain false false true true true true false = refl
run_chain false false true true true true true = refl

module _ (n d : ℕ) (domains tables agenda : List ℕ) where
  -- the problem that the words say
  abbrev p : Problem
  p = problem_of n d domains tables

  -- the tests for 1 to 3
  abbrev one : Bool
  one = ltb n 1 || ltb 32 n

  abbrev two : Bool
  two = ltb d 1 || ltb 16 d

  abbrev lengths : Bool
  lengths = eqb (length domains) n && eqb (length tables) (n * n * d) && whole_slots n (length agenda)

  -- what opening gives is the first deserved
  pub open_first : FirstOf (open_table n d domains tables agenda) (open_refusal n d domains tables agenda)
  unfolding open_refusal refusal_of_numbers refusal_of_lengths refusal_of_problem
  open_first =
      subst (FirstOf (open_table n d domains tables agenda)) (sym (open_chain one two lengths (masks_below p) (symmetric p)))
      (first_by (open_table n d domains tables agenda) (one ∷ two ∷ not lengths ∷ not (masks_below p) ∷ not (symmetric p) ∷ []) refl (
        decided (decides_1 n),
        λ f1. (
          decided (decides_2 d),
          λ f2. (
            refuted (refutes_3 n d domains tables agenda),
            λ f3.
                (refuted (refutes_4 p), λ f4. (refuted (refutes_5 p), λ f5. tt)),
          ),
        ),
      ))

  module _ (steps checks subproblems : ℕ) where
    -- the test for 6
    abbrev search : Bool
    search =
        leb subproblems (slots_in n (length agenda)) && all_obey p (stack_of n agenda subproblems) && zeros_from (subproblems * (n + 2)) agenda
        && leb checks (496 * steps)

    -- what the chooser and save give
    pub search_first : FirstOf (search_table n d domains tables agenda steps checks subproblems)
        (search_refusal n d domains tables agenda steps checks subproblems)
    unfolding search_refusal open_refusal refusal_of_numbers refusal_of_lengths refusal_of_problem refusal_of_search
    search_first =
        subst (FirstOf (search_table n d domains tables agenda steps checks subproblems))
        (sym (search_chain one two lengths (masks_below p) (symmetric p) search))
        (first_by (search_table n d domains tables agenda steps checks subproblems)
        (one ∷ two ∷ not lengths ∷ not (masks_below p) ∷ not (symmetric p) ∷ not search ∷ []) refl (
          decided (decides_1 n),
          λ f1. (
            decided (decides_2 d),
            λ f2. (
              refuted (refutes_3 n d domains tables agenda),
              λ f3. (
                refuted (refutes_4 p),
                λ f4. (
                  refuted (refutes_5 p),
                  λ f5.
                      (refuted (refutes_6 p agenda steps checks subproblems (proper_where p f1 f2 f4 f5)), λ f6. tt),
                ),
              ),
            ),
          ),
        ))

    module _ (requests : List ℕ) where
      -- what a run gives
      pub run_first : FirstOf (run_table n d domains tables agenda requests steps checks subproblems)
          (run_refusal n d domains tables agenda requests steps checks subproblems)
      unfolding run_refusal refusal_of_numbers refusal_of_lengths refusal_of_requests refusal_of_problem refusal_of_search
      run_first =
          let list : Bool = eqb (length requests % (n + 3)) 0 in
          subst (FirstOf (run_table n d domains tables agenda requests steps checks subproblems))
          (sym (run_chain one two lengths list (masks_below p) (symmetric p) search))
          (first_by (run_table n d domains tables agenda requests steps checks subproblems)
          (one ∷ two ∷ not (lengths && list) ∷ not (masks_below p) ∷ not (symmetric p) ∷ not search ∷ []) refl (
            decided (decides_1 n),
            λ f1. (
              decided (decides_2 d),
              λ f2. (
                refuted (refutes_and lengths list (Deserves3 n d domains tables agenda) (WholeRequests n (length requests) → ⊥)
                    (refutes_3 n d domains tables agenda) (refutes_requests n (length requests))),
                λ f3. (
                  refuted (refutes_4 p),
                  λ f4. (
                    refuted (refutes_5 p),
                    λ f5.
                        (refuted (refutes_6 p agenda steps checks subproblems (proper_where p f1 f2 f4 f5)), λ f6. tt),
                  ),
                ),
              ),
            ),
          ))
