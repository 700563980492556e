-- The kinds of a request, and their numbers.
use Rattle.std.specs.Prelude.{◌≡◌, ℕ, ◌<◌, ◌⊎◌, Result, MatchResult}
use Rattle.problem.specs.declared.refusal.Refusal.{Refusal}
use Rattle.problem.specs.declared.refusal.Refusal.TheVariants.{Kind as NoKind}
use Rattle.splits.specs.declared.kind.Kind.{Kind}
use Rattle.splits.specs.declared.kind.Kind.TheVariants.{Backtracking, ForwardChecking, Idc, Halving, Extraction}

-- Their numbers in a request.
abbrev pub kind_number : Kind → ℕ
kind_number Backtracking = 1
kind_number ForwardChecking = 2
kind_number Idc = 3
kind_number Halving = 4
kind_number Extraction = 5

-- A word that is not the number of a kind is refused 7.
abbrev pub Decodes : ℕ → Result Kind Refusal → Type 0
Decodes word r = MatchResult r (λ kind. kind_number kind ≡ word) (λ e. (e ≡ NoKind) × ((word < 1) ⊎ (5 < word)))
