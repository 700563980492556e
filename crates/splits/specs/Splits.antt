-- The five splits: what an accepted request makes of the top subproblem P.
use Rattle.std.specs.Prelude.{Bool, not, cond, ◌&&◌, List, [], ◌∷◌, ◌++◌, map, ℕ, ◌+◌, ◌-◌, get_or, set, eqb}
use Rattle.std.specs.Int.Bits.{bit_or}
use Rattle.problem.specs.Masks.{bit, single, common, minus, lowest, smaller_half}
use Rattle.problem.specs.Problem.{Table}
use Rattle.splits.specs.Subproblems.{domain, empty}
use Rattle.problem.specs.Lists.{some, below, changed, keep}
use Rattle.splits.specs.Requests.{kind_of, variable_of, value_of, target_of}
use Rattle.splits.specs.declared.subproblem.Subproblem.{Subproblem}

-- V instantiated to v.
unfoldable pub instantiate : Subproblem → ℕ → ℕ → Subproblem
instantiate P V' v = record { domains = set P.domains V' (single v); marked = bit_or P.marked (single V') }

-- A variable's domain without the values of a mask.
unfoldable pub without : Subproblem → ℕ → ℕ → Subproblem
without P i m = record { domains = set P.domains i (minus (domain P i) m); marked = P.marked }

-- A variable's domain cut to the values of a mask.
unfoldable pub cut : Subproblem → ℕ → ℕ → Subproblem
cut P i m = record { domains = set P.domains i (common (domain P i) m); marked = P.marked }

-- Every domain cut to its own mask of a list; a subproblem has 32.
unfoldable pub cut_each : Subproblem → List ℕ → Subproblem
cut_each P masks = record { domains = changed 32 (λ i m. common m (get_or masks i 0)) P.domains; marked = P.marked }

-- The variables before j, except V, cut to the values allowed beside v.
unfoldable pub cut_beside : Table → Subproblem → ℕ → ℕ → ℕ → Subproblem
cut_beside allowed P V' v j =
    record { domains = changed j (λ i m. cond (eqb i V') m (common m (allowed V' i v))) P.domains; marked = P.marked }

-- The variables before j at their targets.
unfoldable pub at_targets : Subproblem → List ℕ → ℕ → Subproblem
at_targets P r j = record { domains = changed j (λ i m. target_of r i) P.domains; marked = P.marked }

-- Kind 1 has no first piece where an instantiated value forbids v: whether that of variable i, which is instantiated, does.
unfoldable pub forbids : Table → Subproblem → ℕ → ℕ → ℕ → Bool
forbids allowed P V' v i = eqb (bit (allowed i V' (lowest (domain P i))) v) 0

-- Variable i is instantiated, and another than V.
unfoldable pub instantiated_other : Subproblem → ℕ → ℕ → Bool
instantiated_other P V' i = eqb (bit P.marked i) 1 && not (eqb i V')

-- Whether some instantiated value forbids v.
unfoldable pub forbidden : ℕ → Table → Subproblem → ℕ → ℕ → Bool
forbidden n allowed P V' v = some n (λ i. instantiated_other P V' i && forbids allowed P V' v i)

-- The precluded piece: all other domains cut to what is allowed beside v, and V instantiated to v.
unfoldable pub precluded : ℕ → Table → Subproblem → ℕ → ℕ → Subproblem
precluded n allowed P V' v = instantiate (cut_beside allowed P V' v n) V' v

-- The further piece of IDC for j: v is taken out of V's domain, the variables before j, but for V, keep what is allowed beside v, and j keeps what
-- is not.
unfoldable pub disjunct : Table → Subproblem → ℕ → ℕ → ℕ → Subproblem
disjunct allowed P V' v j = without (cut_beside allowed (without P V' (single v)) V' v j) j (allowed V' j v)

-- The further piece of extraction for j: the variables before j have their targets, and j loses the values of its own.
unfoldable pub extract : Subproblem → List ℕ → ℕ → Subproblem
extract P r j = without (at_targets P r j) j (target_of r j)

-- 1. Backtracking.
unfoldable pub backtracking : ℕ → Table → Subproblem → ℕ → ℕ → List Subproblem
backtracking n allowed P V' v =
    cond (forbidden n allowed P V' v) [] (instantiate P V' v ∷ []) ++ (without P V' (single v) ∷ [])

-- 2. Forward checking.
unfoldable pub forward_checking : ℕ → Table → Subproblem → ℕ → ℕ → List Subproblem
forward_checking n allowed P V' v = precluded n allowed P V' v ∷ without P V' (single v) ∷ []

-- 3. IDC: the precluded piece, then one for each other variable in rising order, instantiated or not.
unfoldable pub idc : ℕ → Table → Subproblem → ℕ → ℕ → List Subproblem
idc n allowed P V' v = precluded n allowed P V' v ∷ map (disjunct allowed P V' v) (keep (λ j. not (eqb j V')) (below n))

-- 4. Halving: V's smaller half, then the rest.
unfoldable pub halving : Subproblem → ℕ → List Subproblem
halving P V' = cut P V' (smaller_half (domain P V')) ∷ without P V' (smaller_half (domain P V')) ∷ []

-- 5. Extraction: all at their targets, then a piece for every variable, going up, that has another domain than its target.
unfoldable pub extraction : ℕ → Subproblem → List ℕ → List Subproblem
extraction n P r = at_targets P r n ∷ map (extract P r) (keep (λ j. not (eqb (target_of r j) (domain P j))) (below n))

-- What is said for each kind, 1 to 5, and else.
abbrev pub by_kind : {A : Type 0} → ℕ → A → A → A → A → A → A → A
by_kind k a b c d e other =
    cond (eqb k 1) a (cond (eqb k 2) b (cond (eqb k 3) c (cond (eqb k 4) d (cond (eqb k 5) e other))))

-- The pieces named by a request, the first named first.
unfoldable pub named : ℕ → Table → Subproblem → List ℕ → List Subproblem
named n allowed P r =
    by_kind (kind_of r) (backtracking n allowed P (variable_of r) (value_of r)) (forward_checking n allowed P (variable_of r) (value_of r))
    (idc n allowed P (variable_of r) (value_of r)) (halving P (variable_of r)) (extraction n P r) []

-- Those of a list of pieces that are not empty.
unfoldable pub filled : ℕ → List Subproblem → List Subproblem
filled n l = keep (λ Q. not (empty n Q)) l

-- The pieces placed: empty ones dropped, the first on top.
unfoldable pub pieces : ℕ → Table → Subproblem → List ℕ → List Subproblem
unfolding filled
pieces n allowed P r = filled n (named n allowed P r)

-- For the calls that make pieces one by one, or by a row: the rules' splits end above.

-- By the row of v of V: every other domain cut to its own mask, V's is the row's, which is v alone, and V marked. It is the precluded piece (ByRow).
unfoldable pub precluded_by : Subproblem → ℕ → List ℕ → Subproblem
precluded_by P V' row = record { domains = set (cut_each P row).domains V' (get_or row V' 0); marked = bit_or P.marked (single V') }

-- How many candidates for a piece the kind of a request has, counted from 0; some of them may be empty.
unfoldable pub candidates : ℕ → List ℕ → ℕ
candidates n r = by_kind (kind_of r) 2 2 (n + 1) 2 (n + 1) 0

-- The k-th candidate, kind by kind. One that names no piece is empty (kind 1 (a) where v is forbidden and kind 3's for V itself of
-- V's domain, kind 5's where the target is the domain of that one), so that the pieces placed are all these in order, empty ones dropped (OneByOne).
unfoldable pub backtracked : ℕ → Table → Subproblem → ℕ → ℕ → ℕ → Subproblem
backtracked n allowed P V' v k =
    cond (eqb k 0) (cond (forbidden n allowed P V' v) (cut P V' 0) (instantiate P V' v)) (without P V' (single v))

unfoldable pub checked : ℕ → Table → Subproblem → ℕ → ℕ → ℕ → Subproblem
checked n allowed P V' v k = cond (eqb k 0) (precluded n allowed P V' v) (without P V' (single v))

unfoldable pub inferred : ℕ → Table → Subproblem → ℕ → ℕ → ℕ → Subproblem
inferred n allowed P V' v k =
    cond (eqb k 0) (precluded n allowed P V' v) (cond (eqb (k - 1) V') (cut P V' 0) (disjunct allowed P V' v (k - 1)))

unfoldable pub halved : Subproblem → ℕ → ℕ → Subproblem
halved P V' k = cond (eqb k 0) (cut P V' (smaller_half (domain P V'))) (without P V' (smaller_half (domain P V')))

unfoldable pub extracted : ℕ → Subproblem → List ℕ → ℕ → Subproblem
extracted n P r k = cond (eqb k 0) (at_targets P r n) (extract P r (k - 1))

unfoldable pub candidate : ℕ → Table → Subproblem → List ℕ → ℕ → Subproblem
candidate n allowed P r k =
    by_kind (kind_of r) (backtracked n allowed P (variable_of r) (value_of r) k) (checked n allowed P (variable_of r) (value_of r) k)
    (inferred n allowed P (variable_of r) (value_of r) k) (halved P (variable_of r) k) (extracted n P r k) P
