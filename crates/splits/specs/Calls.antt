-- What each public function of the crate hands back, for every input.
use Rattle.std.specs.Prelude.{◌≡◌, Bool, cond, ◌&&◌, List, ℕ, ◌≤◌, get_or, eqb, leb, ltb}
use Rattle.problem.specs.Masks.{bit, size, minus}
use Rattle.problem.specs.Problem.{table_of}
use Rattle.problem.specs.Lists.{total}
use Rattle.splits.specs.AtOnce.{loses, outside_to, filled}
use Rattle.splits.specs.Subproblems.{domain, empty, all_instantiated}
use Rattle.splits.specs.Requests.{kind_of, variable_of, value_of}
use Rattle.splits.specs.Splits.{instantiate, without, cut, cut_each, precluded_by, by_kind, candidates, candidate}
use Rattle.splits.specs.Checks.{checks}
use Rattle.splits.specs.Tests.Refusals.{refusal_of}
use Rattle.splits.specs.declared.subproblem.Subproblem.{Subproblem}
use Rattle.problem.specs.Ranges.{inside}

-- The same, of the words that the request's kind reads.
unfoldable pub readable : ℕ → ℕ → List ℕ → List ℕ → Bool
readable n d tables r =
    by_kind (kind_of r) (inside n d tables (variable_of r) (value_of r)) (inside n d tables (variable_of r) (value_of r))
    (inside n d tables (variable_of r) (value_of r)) (leb n 32 && ltb (variable_of r) n) (leb n 32) (leb n 32)

abbrev pub Domain : Subproblem → ℕ → ℕ → Type 0
Domain P variable r = r ≡ domain P variable

abbrev pub IsInstantiated : Subproblem → ℕ → Bool → Type 0
IsInstantiated P variable r = r ≡ eqb (bit P.marked variable) 1

abbrev pub AllInstantiated : Subproblem → ℕ → Bool → Type 0
AllInstantiated P n r = r ≡ all_instantiated n P

abbrev pub IsEmpty : Subproblem → ℕ → Bool → Type 0
IsEmpty P n r = r ≡ empty n P

-- Outside 32 variables and 16 values the subproblem comes back as it is.
abbrev pub Instantiate : Subproblem → ℕ → ℕ → Subproblem → Type 0
Instantiate P variable value r = r ≡ cond (ltb variable 32 && ltb value 16) (instantiate P variable value) P

abbrev pub Without : Subproblem → ℕ → ℕ → Subproblem → Type 0
Without P variable mask r = r ≡ without P variable mask

abbrev pub Cut : Subproblem → ℕ → ℕ → Subproblem → Type 0
Cut P variable mask r = r ≡ cut P variable mask

abbrev pub CutEach : Subproblem → List ℕ → Subproblem → Type 0
CutEach P masks r = r ≡ cut_each P masks

-- Outside 32 variables the subproblem comes back as it is.
abbrev pub Precluded : Subproblem → ℕ → List ℕ → Subproblem → Type 0
Precluded P variable row r = r ≡ cond (ltb variable 32) (precluded_by P variable row) P

-- How many candidates the kind of a request has; 0 for more than 32 variables.
abbrev pub Candidates : ℕ → List ℕ → ℕ → Type 0
Candidates n request r = r ≡ cond (leb n 32) (candidates n request) 0

-- The k-th candidate: a piece, or an empty subproblem. Past the last candidate, or where the words do not fit, the
-- subproblem comes back as it is.
abbrev pub Piece : Subproblem → ℕ → ℕ → List ℕ → List ℕ → ℕ → Subproblem → Type 0
Piece P n d tables request k r =
    r ≡ cond (readable n d tables request && ltb k (candidates n request)) (candidate n (table_of n d tables) P request k) P

-- The checks of a request; 0 where the words do not fit.
abbrev pub ChecksOf : Subproblem → ℕ → ℕ → List ℕ → List ℕ → ℕ → Type 0
ChecksOf P n d tables request r = r ≡ cond (readable n d tables request) (checks n (table_of n d tables) P request) 0

abbrev pub RefusalOf : Subproblem → ℕ → ℕ → List ℕ → ℕ → Type 0
RefusalOf P n d request r = r ≡ refusal_of n d P request

-- Of all 32 domains at once: how many values one has, and all together; whether one loses all its values where each is cut to its own mask; what one,
-- and each, has outside its mask; how many are not empty.
abbrev pub Few : ℕ → ℕ → Type 0
Few domain r = (r ≡ size domain) × (r ≤ 16)

abbrev pub Values : List ℕ → ℕ → Type 0
Values domains r = r ≡ total 32 (λ j. size (get_or domains j 0))

abbrev pub Loses : List ℕ → List ℕ → Bool → Type 0
Loses domains row r = r ≡ loses domains row

abbrev pub Outside : ℕ → ℕ → ℕ → Type 0
Outside domain mask r = r ≡ minus domain mask

abbrev pub Outsides : List ℕ → List ℕ → List ℕ → Type 0
Outsides domains row r = r ≡ outside_to domains row 32

abbrev pub Filled : List ℕ → ℕ → Type 0
Filled masks r = r ≡ filled masks 32
