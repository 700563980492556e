-- The first checks of a problem: the number they give is the first that is deserved.
-- Assumes nothing.
use mathlib.Core.Path.{◌≡◌, refl, sym, subst}
use mathlib.Core.Bool.{Bool, true, false, not, cond, ◌&&◌, ◌||◌}
use mathlib.Core.List.{[], ◌∷◌}
use Prim.Native.Nat.{ℕ, ◌*◌}
use lib.ListN.{length}
use lib.Dec.{eqb, ltb}
use Rattle.problem.specs.Problem.{Problem, problem_of}
use Rattle.problem.specs.FirstChecks.{Deserves3Problem}
use Rattle.problem.specs.Refusing.{FirstOf}
use Rattle.problem.specs.Tests.FirstChecks.{refusal_of_numbers, masks_below, symmetric, refusal_of_problem, or_else, problem_sizes, problem_refusal}
use Rattle.problem.specs.Promises.{sizes_table, problem_table, SizesRefusals, ProblemRefusals}
use Rattle.problem.proofs.Decisions.{Refutes, refutes_eq, refutes_and, decided, refuted}
use Rattle.problem.proofs.Refusing.{first_by}
use Rattle.problem.proofs.first_checks.Deserved.{decides_1, decides_2, refutes_4, refutes_5}

sizes_chain : (b1 b2 c3 : Bool) → or_else (cond b1 1 (cond b2 2 0)) (cond c3 0 3) ≡ cond b1 1 (cond b2 2 (cond (not c3) 3 0))
sizes_chain true b2 c3 = refl
sizes_chain false true c3 = refl
sizes_chain false false false = refl
sizes_chain false false true = refl

problem_chain : (b1 b2 c3 c4 c5 : Bool)
    → or_else (or_else (cond b1 1 (cond b2 2 0)) (cond c3 0 3)) (cond c4 (cond c5 0 5) 4)
    ≡ cond b1 1 (cond b2 2 (cond (not c3) 3 (cond (not c4) 4 (cond (not c5) 5 0))))
problem_chain true b2 c3 c4 c5 = refl
problem_chain false true c3 c4 c5 = refl
problem_chain false false false c4 c5 = refl
problem_chain false false true false c5 = refl
problem_chain false false true true false = refl
problem_chain false false true true true = refl

refutes_3 : (n d domains tables : ℕ) → Refutes (eqb domains n && eqb tables (n * n * d)) (Deserves3Problem n d domains tables)
refutes_3 n d domains tables =
    refutes_and (eqb domains n) (eqb tables (n * n * d)) (domains ≡ n → ⊥) (tables ≡ n * n * d → ⊥) (refutes_eq domains n) (refutes_eq tables (n * n * d))

pub sizes_first : SizesRefusals
unfolding problem_sizes refusal_of_numbers
sizes_first n d domains tables =
    let one : Bool = ltb n 1 || ltb 32 n in
    let two : Bool = ltb d 1 || ltb 16 d in
    let three : Bool = eqb domains n && eqb tables (n * n * d) in
    subst (FirstOf (sizes_table n d domains tables)) (sym (sizes_chain one two three))
    (first_by (sizes_table n d domains tables) (one ∷ two ∷ not three ∷ []) refl
    (decided (decides_1 n), λ f1. (decided (decides_2 d), λ f2. (refuted (refutes_3 n d domains tables), λ f3. tt))))

pub problem_first : ProblemRefusals
unfolding problem_refusal problem_sizes refusal_of_numbers refusal_of_problem
problem_first n d domains tables =
    let p : Problem = problem_of n d domains tables in
    let one : Bool = ltb n 1 || ltb 32 n in
    let two : Bool = ltb d 1 || ltb 16 d in
    let three : Bool = eqb (length domains) n && eqb (length tables) (n * n * d) in
    subst (FirstOf (problem_table n d domains tables)) (sym (problem_chain one two three (masks_below p) (symmetric p)))
    (first_by (problem_table n d domains tables) (one ∷ two ∷ not three ∷ not (masks_below p) ∷ not (symmetric p) ∷ []) refl (
      decided (decides_1 n),
      λ f1. (
        decided (decides_2 d),
        λ f2. (
          refuted (refutes_3 n d (length domains) (length tables)),
          λ f3.
              (refuted (refutes_4 p), λ f4. (refuted (refutes_5 p), λ f5. tt)),
        ),
      ),
    ))
