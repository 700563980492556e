-- The tests of the first checks, worked out. What they give is said exactly by the promises, so that they need not be believed; sizes_refusal alone is to be read.
use Rattle.std.specs.Prelude.{Bool, true, not, cond, ◌&&◌, ◌||◌, List, [], ◌∷◌, ℕ, ◌+◌, ◌-◌, ◌*◌, ◌%◌, ◌^◌, length, get_or, eqb, leb, ltb}
use Rattle.problem.specs.Masks.{bit, minus, size, lowest}
use Rattle.problem.specs.Problem.{Problem, problem_of}
use Rattle.splits.specs.Subproblems.{domain}
use Rattle.problem.specs.Lists.{every}
use Rattle.splits.specs.declared.subproblem.Subproblem.{Subproblem}
use Rattle.search.specs.Agenda.{stack_of, slots_in}
use Rattle.problem.specs.Tests.FirstChecks.{refusal_of_numbers, refusal_of_problem, or_else}

-- 3, of the numbers of words lent as domains, tables and agenda.
unfoldable pub whole_slots : ℕ → ℕ → Bool
whole_slots n words = eqb (words % (n + 2)) 0 && leb 1 (slots_in n words) && leb (slots_in n words) 512

unfoldable pub refusal_of_lengths : ℕ → ℕ → ℕ → ℕ → ℕ → ℕ
refusal_of_lengths n d domains tables agenda = cond (eqb domains n && eqb tables (n * n * d) && whole_slots n agenda) 0 3

unfoldable pub refusal_of_requests : ℕ → ℕ → ℕ
refusal_of_requests n words = cond (eqb (words % (n + 3)) 0) 0 3

-- 6. Whether a subproblem obeys the rules: each domain is a part, not empty, of the problem's, and of one value if instantiated;
-- instantiated values are mutually allowed; no mark stands at n or above.
unfoldable pub domain_obeys : Problem → Subproblem → ℕ → Bool
domain_obeys p P i =
    not (eqb (domain P i) 0) && eqb (minus (domain P i) (p.domain i)) 0 && (eqb (bit P.marked i) 0 || eqb (size (domain P i)) 1)

unfoldable pub values_agree : Problem → Subproblem → ℕ → ℕ → Bool
values_agree p P i j =
    eqb i j || eqb (bit P.marked i) 0 || eqb (bit P.marked j) 0
    || eqb (bit (p.allowed i j (lowest (domain P i))) (lowest (domain P j))) 1

unfoldable pub obeys : Problem → Subproblem → Bool
obeys p P =
    every p.n (domain_obeys p P) && every p.n (λ i. every p.n (values_agree p P i)) && ltb P.marked (2 ^ p.n)

unfoldable pub all_obey : Problem → List Subproblem → Bool
all_obey p [] = true
all_obey p (P ∷ S) = obeys p P && all_obey p S

unfoldable pub zeros_from : ℕ → List ℕ → Bool
zeros_from from words = every (length words - from) (λ k. eqb (get_or words (from + k) 0) 0)

unfoldable pub refusal_of_search : Problem → List ℕ → ℕ → ℕ → ℕ → ℕ
refusal_of_search p agenda steps checks subproblems =
    cond (leb subproblems (slots_in p.n (length agenda)) && all_obey p (stack_of p.n agenda subproblems)
    && zeros_from (subproblems * (p.n + 2)) agenda && leb checks (496 * steps)) 0 6

-- 1 to 3, of the numbers and of how many words are lent.
unfoldable pub sizes_refusal : ℕ → ℕ → ℕ → ℕ → ℕ → ℕ
sizes_refusal n d domains tables agenda = or_else (refusal_of_numbers n d) (refusal_of_lengths n d domains tables agenda)

-- The first checks of opening (1 to 5), of the chooser and of save (1 to 6), and of a run, whose requests are part of 3.
unfoldable pub open_refusal : ℕ → ℕ → List ℕ → List ℕ → List ℕ → ℕ
open_refusal n d domains tables agenda =
    or_else (refusal_of_numbers n d)
    (or_else (refusal_of_lengths n d (length domains) (length tables) (length agenda)) (refusal_of_problem (problem_of n d domains tables)))

unfoldable pub search_refusal : ℕ → ℕ → List ℕ → List ℕ → List ℕ → ℕ → ℕ → ℕ → ℕ
search_refusal n d domains tables agenda steps checks subproblems =
    or_else (open_refusal n d domains tables agenda) (refusal_of_search (problem_of n d domains tables) agenda steps checks subproblems)

unfoldable pub run_refusal : ℕ → ℕ → List ℕ → List ℕ → List ℕ → List ℕ → ℕ → ℕ → ℕ → ℕ
run_refusal n d domains tables agenda requests steps checks subproblems =
    or_else (refusal_of_numbers n d)
    (or_else (refusal_of_lengths n d (length domains) (length tables) (length agenda))
    (or_else (refusal_of_requests n (length requests))
    (or_else (refusal_of_problem (problem_of n d domains tables)) (refusal_of_search (problem_of n d domains tables) agenda steps checks subproblems))))
