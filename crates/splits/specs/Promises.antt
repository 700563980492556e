-- What the five splits promise, of any proper problem, any subproblem P on the agenda and any accepted request.
use Rattle.std.specs.Prelude.{◌≡◌, ◌↔◌, List, map, ℕ, ◌≤◌, ◌<◌, length}
use Rattle.problem.specs.Refused.{OneTold}
use Rattle.problem.specs.Problem.{Table, Words, AgreeApart}
use Rattle.splits.specs.Requests.{kind_of, variable_of, value_of, target_of}
use Rattle.problem.specs.Lists.{below}
use Rattle.splits.specs.Splits.{precluded, filled, pieces, precluded_by, candidates, candidate}
use Rattle.problem.specs.Beside.{RowOf}
use Rattle.splits.specs.Checks.{checks}
use Rattle.splits.specs.Kinds.{Decodes}
use Rattle.problem.specs.Refusing.{Refusals, FirstOf}
use Rattle.splits.specs.Refusals.{Accepted, refusals}
use Rattle.splits.specs.Tests.Refusals.{refusal_of}
use Rattle.splits.specs.declared.subproblem.Subproblem.{Subproblem}
use Rattle.splits.specs.Calls.{Domain, IsInstantiated, AllInstantiated, IsEmpty, Instantiate, Without, Cut, CutEach, Precluded, Candidates, Piece, ChecksOf, RefusalOf, Few, Values, Loses, Outside, Outsides, Filled}
use Rattle.problem.specs.Answers.{One}

-- What stands in the places, made one by one, is the split's pieces in order, with empty subproblems in the places that name none.
abbrev pub OneByOne : Type 0
OneByOne =
    (n d : ℕ) (allowed : Table) (P : Subproblem) (r : List ℕ) → Accepted n d P r
    → filled n (map (candidate n allowed P r) (below (candidates n r))) ≡ pieces n allowed P r

-- By the row of v, a value of V, what a row makes is the precluded piece, of a subproblem of 32 words.
abbrev pub ByRow : Type 0
ByRow =
    (n : ℕ) (allowed : Table) (P : Subproblem) (V' v : ℕ) (row : List ℕ) → n ≤ 32 → length P.domains ≡ 32 → Words P.domains → V' < n
    → RowOf n allowed V' v row → precluded_by P V' row ≡ precluded n allowed P V' v

-- ---- refusals, in the order 7, 8, 9, 10

-- Each of 7 to 10 is given exactly when it is deserved and none before it is; 0 exactly when none is.
abbrev pub RequestRefusals : Type 0
RequestRefusals = (n d : ℕ) (P : Subproblem) (r : List ℕ) → FirstOf (refusals n d P r) (refusal_of n d P r)

-- 0 exactly of an accepted request.
abbrev pub RequestAccepted : Type 0
RequestAccepted = (n d : ℕ) (P : Subproblem) (r : List ℕ) → (refusal_of n d P r ≡ 0) ↔ Accepted n d P r

-- ---- the words read

-- The kind that a word names, or that it names none, `Kind::try_from`.
abbrev pub KindTryFromOne : Type 0
KindTryFromOne = (word : ℕ) → One (Decodes word)

-- Requests that agree on the words that their kind reads: V for kinds 1 to 4, v for 1 to 3, the targets for 5.
pub record Agree (n : ℕ) (r s : List ℕ) : Type 0 where
  pub kind : kind_of r ≡ kind_of s
  pub variable : 1 ≤ kind_of r → kind_of r ≤ 4 → variable_of r ≡ variable_of s
  pub value : 1 ≤ kind_of r → kind_of r ≤ 3 → value_of r ≡ value_of s
  pub targets : kind_of r ≡ 5 → (i : ℕ) → i < n → target_of r i ≡ target_of s i

-- They have the same refusal.
abbrev pub ReadsRefusal : Type 0
ReadsRefusal = (n d : ℕ) (P : Subproblem) (r s : List ℕ) → Agree n r s → refusal_of n d P r ≡ refusal_of n d P s

-- They have the same pieces.
abbrev pub ReadsPieces : Type 0
ReadsPieces = (n : ℕ) (allowed : Table) (P : Subproblem) (r s : List ℕ) → Agree n r s → pieces n allowed P r ≡ pieces n allowed P s

-- They have the same checks.
abbrev pub ReadsChecks : Type 0
ReadsChecks = (n : ℕ) (allowed : Table) (P : Subproblem) (r s : List ℕ) → Agree n r s → checks n allowed P r ≡ checks n allowed P s

-- ---- a variable with itself

-- The places for i with itself are never read: no piece depends on them.
abbrev pub DiagonalPiece : Type 0
DiagonalPiece =
    (P : Subproblem) (n d : ℕ) (tables others request : List ℕ) (k : ℕ) (r : Subproblem) → AgreeApart n d tables others
    → Piece P n d tables request k r → Piece P n d others request k r

-- Nor does a count of checks.
abbrev pub DiagonalChecks : Type 0
DiagonalChecks =
    (P : Subproblem) (n d : ℕ) (tables others request : List ℕ) (r : ℕ) → AgreeApart n d tables others
    → ChecksOf P n d tables request r → ChecksOf P n d others request r

-- ---- one answer

-- Nor two differing numbers one refusal table.
abbrev pub FirstOne : Type 1
FirstOne = (t : Refusals) → One (FirstOf t)

-- The domain of a variable.
abbrev pub DomainOne : Type 0
DomainOne = (P : Subproblem) (variable : ℕ) → One (Domain P variable)

-- Whether a variable is instantiated.
abbrev pub IsInstantiatedOne : Type 0
IsInstantiatedOne = (P : Subproblem) (variable : ℕ) → One (IsInstantiated P variable)

-- Whether every variable is instantiated.
abbrev pub AllInstantiatedOne : Type 0
AllInstantiatedOne = (P : Subproblem) (n : ℕ) → One (AllInstantiated P n)

-- Whether a domain is empty.
abbrev pub IsEmptyOne : Type 0
IsEmptyOne = (P : Subproblem) (n : ℕ) → One (IsEmpty P n)

-- V instantiated to v.
abbrev pub InstantiateOne : Type 0
InstantiateOne = (P : Subproblem) (variable value : ℕ) → One (Instantiate P variable value)

-- V's domain without the values of a mask.
abbrev pub WithoutOne : Type 0
WithoutOne = (P : Subproblem) (variable mask : ℕ) → One (Without P variable mask)

-- V's domain cut to the values of a mask.
abbrev pub CutOne : Type 0
CutOne = (P : Subproblem) (variable mask : ℕ) → One (Cut P variable mask)

-- Every domain cut to its own mask.
abbrev pub CutEachOne : Type 0
CutEachOne = (P : Subproblem) (masks : List ℕ) → One (CutEach P masks)

-- The precluded piece, by a row.
abbrev pub PrecludedOne : Type 0
PrecludedOne = (P : Subproblem) (variable : ℕ) (row : List ℕ) → One (Precluded P variable row)

-- How many places the kind of a request has.
abbrev pub CandidatesOne : Type 0
CandidatesOne = (n : ℕ) (request : List ℕ) → One (Candidates n request)

-- What stands in the k-th place of a request.
abbrev pub PieceOne : Type 0
PieceOne = (P : Subproblem) (n d : ℕ) (tables request : List ℕ) (k : ℕ) → One (Piece P n d tables request k)

-- The constraint checks of a request.
abbrev pub ChecksOne : Type 0
ChecksOne = (P : Subproblem) (n d : ℕ) (tables request : List ℕ) → One (ChecksOf P n d tables request)

-- The refusal of a request, 0 for none.
abbrev pub RefusalOne : Type 0
RefusalOne = (P : Subproblem) (n d : ℕ) (request : List ℕ) → OneTold (RefusalOf P n d request)

-- What is asked of all domains at once.
abbrev pub CountOne : Type 0
CountOne = (domain : ℕ) → One (Few domain)

abbrev pub ValuesOne : Type 0
ValuesOne = (domains : List ℕ) → One (Values domains)

abbrev pub LosesOne : Type 0
LosesOne = (domains row : List ℕ) → One (Loses domains row)

abbrev pub OutsideOne : Type 0
OutsideOne = (domain mask : ℕ) → One (Outside domain mask)

abbrev pub OutsidesOne : Type 0
OutsidesOne = (domains row : List ℕ) → One (Outsides domains row)

abbrev pub FilledOne : Type 0
FilledOne = (masks : List ℕ) → One (Filled masks)
