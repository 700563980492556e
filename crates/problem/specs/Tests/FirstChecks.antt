-- The tests that decide refusals 1 to 5, worked out. What they give is said exactly by the promises, so that they need not be believed.
use Rattle.std.specs.Prelude.{Bool, cond, ◌&&◌, ◌||◌, List, ℕ, ◌*◌, ◌^◌, length, eqb, ltb}
use Rattle.problem.specs.Masks.{bit}
use Rattle.problem.specs.Problem.{Problem, problem_of}
use Rattle.problem.specs.Lists.{every}

-- The first of two refusals, if it is one.
abbrev pub or_else : ℕ → ℕ → ℕ
or_else a b = cond (eqb a 0) b a

-- 1 and 2.
unfoldable pub refusal_of_numbers : ℕ → ℕ → ℕ
refusal_of_numbers n d = cond (ltb n 1 || ltb 32 n) 1 (cond (ltb d 1 || ltb 16 d) 2 0)

-- 4 and 5. A mask without a bit at d or above is less than 2 ^ d.
unfoldable pub masks_below : Problem → Bool
masks_below p =
    every p.n (λ i. ltb (p.domain i) (2 ^ p.d))
    && every p.n (λ i. every p.n (λ j. eqb i j || every p.d (λ a. ltb (p.allowed i j a) (2 ^ p.d))))

unfoldable pub symmetric : Problem → Bool
symmetric p =
    every p.n (λ i. every p.n (λ j. eqb i j
    || every p.d (λ a. every p.d (λ b. eqb (bit (p.allowed i j a) b) (bit (p.allowed j i b) a)))))

unfoldable pub refusal_of_problem : Problem → ℕ
refusal_of_problem p = cond (masks_below p) (cond (symmetric p) 0 5) 4

-- 1 to 3, of the numbers and of how many words are lent as domains and tables; 1 to 5, of a problem alone.
unfoldable pub problem_sizes : ℕ → ℕ → ℕ → ℕ → ℕ
problem_sizes n d domains tables = or_else (refusal_of_numbers n d) (cond (eqb domains n && eqb tables (n * n * d)) 0 3)

unfoldable pub problem_refusal : ℕ → ℕ → List ℕ → List ℕ → ℕ
problem_refusal n d domains tables =
    or_else (problem_sizes n d (length domains) (length tables)) (refusal_of_problem (problem_of n d domains tables))
