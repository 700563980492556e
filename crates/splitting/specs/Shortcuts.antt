-- Document 01's four shortcuts that lose plans: what each would make of P, and a small case for each.
use Rattle.std.specs.Prelude.{not, ◌&&◌, List, [], ◌∷◌, map, ℕ, get_or, eqb}
use Rattle.problem.specs.Masks.{bit, single, all_but}
use Rattle.problem.specs.Problem.{Table, Problem}
use Rattle.splits.specs.Subproblems.{domain}
use Rattle.splits.specs.Requests.{variable_of, value_of, target_of}
use Rattle.problem.specs.Lists.{below, keep}
use Rattle.splits.specs.Splits.{filled, without, precluded, disjunct, extract}
use Rattle.splits.specs.declared.subproblem.Subproblem.{Subproblem}

-- Kind 3 with no further piece for an instantiated variable.
unfoldable pub skipping : Problem → Subproblem → List ℕ → List Subproblem
skipping p P r =
    filled p.n
    (precluded p.n p.allowed P (variable_of r) (value_of r)
    ∷ map (disjunct p.allowed P (variable_of r) (value_of r))
    (keep (λ j. not (eqb j (variable_of r)) && not (eqb (bit P.marked j) 1)) (below p.n)))

-- The further piece of the weak IDC for j: V without v, j cut to values not allowed beside v, the earlier ones not cut.
unfoldable pub weak_disjunct : Table → Subproblem → ℕ → ℕ → ℕ → Subproblem
weak_disjunct allowed P V' v j = without (without P V' (single v)) j (allowed V' j v)

-- The weak IDC of 000, section 2. A variable that v does not constrain has an empty piece.
unfoldable pub weak : Problem → Subproblem → List ℕ → List Subproblem
weak p P r =
    filled p.n
    (precluded p.n p.allowed P (variable_of r) (value_of r)
    ∷ map (weak_disjunct p.allowed P (variable_of r) (value_of r)) (keep (λ j. not (eqb j (variable_of r))) (below p.n)))

-- Kind 5 with the target dropped.
unfoldable pub untargeted : Problem → Subproblem → List ℕ → List Subproblem
untargeted p P r = filled p.n (map (extract P r) (keep (λ j. not (eqb (target_of r j) (domain P j))) (below p.n)))

-- n variables, d values, domains as listed, every two variables unequal.
abbrev pub unequal : ℕ → ℕ → List ℕ → Problem
unequal n d domains = record { n = n; d = d; domain = λ i. get_or domains i 0; allowed = λ i j a. all_but d a }

-- Domains {0} and {0, 1}; variable 0 is instantiated.
abbrev pub two : Problem
two = unequal 2 2 (1 ∷ 3 ∷ [])

abbrev pub two_top : Subproblem
two_top = record { domains = 1 ∷ 3 ∷ []; marked = 1 }

-- Domains {0, 1, 2}, {0} and {0}; nothing is instantiated.
abbrev pub three : Problem
three = unequal 3 3 (7 ∷ 1 ∷ 1 ∷ [])

abbrev pub three_top : Subproblem
three_top = record { domains = 7 ∷ 1 ∷ 1 ∷ []; marked = 0 }

-- Domains {0} and {0}; nothing is instantiated.
abbrev pub pair : Problem
pair = unequal 2 1 (1 ∷ 1 ∷ [])

abbrev pub pair_top : Subproblem
pair_top = record { domains = 1 ∷ 1 ∷ []; marked = 0 }
