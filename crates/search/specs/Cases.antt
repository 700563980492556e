-- Document 01's marked cases, as one list of data. specs/Promises.antt states what is proved of each.
use Rattle.std.specs.Prelude.{Bool, false, cond, ◌&&◌, ◌||◌, List, [], ◌∷◌, map, ℕ, get_or, eqb}
use Rattle.problem.specs.Masks.{all_values, all_but}
use Rattle.problem.specs.Problem.{Problem}
use Rattle.splits.specs.declared.subproblem.Subproblem.{Subproblem}
use Rattle.search.specs.Agenda.{holding}

-- The problem: n variables, d values, domains as masks, and the pairs of variables that are to be unequal. The requests. Then what they lead to: the
-- verdict's number, the stack, top first, by masks in variable order and the instantiated set (bit i for variable i), the sizes, and both counts.
pub record Case : Type 0 where
  pub n : ℕ
  pub d : ℕ
  pub domains : List ℕ
  pub unequal : List (ℕ × ℕ)
  pub requests : List (List ℕ)
  pub verdict : ℕ
  pub stack : List (List ℕ × ℕ)
  pub sizes : List ℕ
  pub steps : ℕ
  pub checks : ℕ

-- Whether a list has the pair of i and j, either way round.
unfoldable pub joins : List (ℕ × ℕ) → ℕ → ℕ → Bool
joins [] i j = false
joins (e ∷ es) i j = (eqb e.0 i && eqb e.1 j) || (eqb e.0 j && eqb e.1 i) || joins es i j

-- The problem of a case: beside a any other value where the pair is to be unequal, and else all d bits set.
abbrev pub problem_in : Case → Problem
problem_in c = record {
  n = c.n;
  d = c.d;
  domain = λ i. get_or c.domains i 0;
  allowed = λ i j a. cond (joins c.unequal i j) (all_but c.d a) (all_values c.d);
}

-- The stack that the case expects.
abbrev pub expected : Case → List Subproblem
expected c = map (λ (m : List ℕ × ℕ). holding c.n m.0 m.1) c.stack

-- The ring of four paths and three windows, neighbours unequal, and one request.
abbrev ring : List ℕ → List (List ℕ × ℕ) → List ℕ → ℕ → Case
ring request stack sizes checks = record {
  n = 4;
  d = 3;
  domains = 7 ∷ 7 ∷ 7 ∷ 7 ∷ [];
  unequal = (0, 1) ∷ (1, 2) ∷ (2, 3) ∷ (3, 0) ∷ [];
  requests = request ∷ [];
  verdict = 1;
  stack = stack;
  sizes = sizes;
  steps = 1;
  checks = checks;
}

-- The cases, in document 01's order. The one of two variables with domains {0} and {0, 1} is two: after kind 3, and at its end.
unfoldable pub cases : List Case
cases =
    -- The ring split by backtracking, on 0 with 0.
    ring (1 ∷ 0 ∷ 0 ∷ []) ((1 ∷ 7 ∷ 7 ∷ 7 ∷ [], 1) ∷ (6 ∷ 7 ∷ 7 ∷ 7 ∷ [], 0) ∷ []) (27 ∷ 54 ∷ []) 0
    -- By forward checking.
    ∷ ring (2 ∷ 0 ∷ 0 ∷ []) ((1 ∷ 6 ∷ 7 ∷ 6 ∷ [], 1) ∷ (6 ∷ 7 ∷ 7 ∷ 7 ∷ [], 0) ∷ []) (12 ∷ 54 ∷ []) 9
    -- By IDC.
    ∷ ring (3 ∷ 0 ∷ 0 ∷ []) ((1 ∷ 6 ∷ 7 ∷ 6 ∷ [], 1) ∷ (6 ∷ 1 ∷ 7 ∷ 7 ∷ [], 0) ∷ (6 ∷ 6 ∷ 7 ∷ 1 ∷ [], 0) ∷ []) (12 ∷ 18 ∷ 12 ∷ []) 9
    -- A triangle of three values, its target extracted: the sizes of document 004.
    ∷ record {
      n = 3;
      d = 3;
      domains = 7 ∷ 7 ∷ 7 ∷ [];
      unequal = (0, 1) ∷ (1, 2) ∷ (2, 0) ∷ [];
      requests = (5 ∷ 0 ∷ 0 ∷ 3 ∷ 3 ∷ 3 ∷ []) ∷ [];
      verdict = 1;
      stack = (3 ∷ 3 ∷ 3 ∷ [], 0) ∷ (4 ∷ 7 ∷ 7 ∷ [], 0) ∷ (3 ∷ 4 ∷ 7 ∷ [], 0) ∷ (3 ∷ 3 ∷ 4 ∷ [], 0) ∷ [];
      sizes = 8 ∷ 9 ∷ 6 ∷ 4 ∷ [];
      steps = 1;
      checks = 0;
    }
    -- One domain, halved.
    ∷ record {
      n = 1;
      d = 3;
      domains = 7 ∷ [];
      unequal = [];
      requests = (4 ∷ 0 ∷ 0 ∷ []) ∷ [];
      verdict = 1;
      stack = (3 ∷ [], 0) ∷ (4 ∷ [], 0) ∷ [];
      sizes = 2 ∷ 1 ∷ [];
      steps = 1;
      checks = 0;
    }
    -- One value of one variable: a step solves it.
    ∷ record {
      n = 1;
      d = 1;
      domains = 1 ∷ [];
      unequal = [];
      requests = (1 ∷ 0 ∷ 0 ∷ []) ∷ [];
      verdict = 2;
      stack = (1 ∷ [], 1) ∷ [];
      sizes = 1 ∷ [];
      steps = 1;
      checks = 0;
    }
    -- One variable without a value: unsolvable as opened.
    ∷ record {
      n = 1;
      d = 1;
      domains = 0 ∷ [];
      unequal = [];
      requests = [];
      verdict = 3;
      stack = [];
      sizes = [];
      steps = 0;
      checks = 0;
    }
    -- Two variables with one value between them: forward checking leaves nothing.
    ∷ record {
      n = 2;
      d = 1;
      domains = 1 ∷ 1 ∷ [];
      unequal = (0, 1) ∷ [];
      requests = (2 ∷ 0 ∷ 0 ∷ []) ∷ [];
      verdict = 3;
      stack = [];
      sizes = [];
      steps = 1;
      checks = 1;
    }
    -- Backtracking on 0 has not cleared 1 of what 0 forbids: IDC on 1 must keep a piece for 0.
    ∷ record {
      n = 2;
      d = 2;
      domains = 1 ∷ 3 ∷ [];
      unequal = (0, 1) ∷ [];
      requests = (1 ∷ 0 ∷ 0 ∷ []) ∷ (3 ∷ 1 ∷ 0 ∷ []) ∷ [];
      verdict = 1;
      stack = (1 ∷ 2 ∷ [], 1) ∷ [];
      sizes = 1 ∷ [];
      steps = 2;
      checks = 1;
    }
    -- And that piece is solved by one step more.
    ∷ record {
      n = 2;
      d = 2;
      domains = 1 ∷ 3 ∷ [];
      unequal = (0, 1) ∷ [];
      requests = (1 ∷ 0 ∷ 0 ∷ []) ∷ (3 ∷ 1 ∷ 0 ∷ []) ∷ (1 ∷ 1 ∷ 1 ∷ []) ∷ [];
      verdict = 2;
      stack = (1 ∷ 2 ∷ [], 3) ∷ [];
      sizes = 1 ∷ [];
      steps = 3;
      checks = 2;
    }
    -- The same of a triangle of two values, with a subproblem below.
    ∷ record {
      n = 3;
      d = 2;
      domains = 3 ∷ 3 ∷ 3 ∷ [];
      unequal = (0, 1) ∷ (1, 2) ∷ (2, 0) ∷ [];
      requests = (1 ∷ 0 ∷ 0 ∷ []) ∷ (3 ∷ 1 ∷ 0 ∷ []) ∷ [];
      verdict = 1;
      stack = (1 ∷ 2 ∷ 3 ∷ [], 1) ∷ (2 ∷ 3 ∷ 3 ∷ [], 0) ∷ [];
      sizes = 2 ∷ 4 ∷ [];
      steps = 2;
      checks = 3;
    }
    ∷ []
