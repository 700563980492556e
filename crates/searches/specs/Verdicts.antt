-- The verdicts, their numbers (number_of, of problem) and their words.
use Rattle.std.specs.Prelude.{Bool, not, cond, List, [], ◌∷◌, ℕ, eqb}
use Prim.Native.Char.{code}
use Prim.Native.String.{String, [] as []ᵗ, ◌∷◌ as ◌∷ᵗ◌}
pub use Rattle.problem.specs.Verdicts.{number_of}
use Rattle.splits.specs.Subproblems.{all_instantiated}
use Rattle.splits.specs.declared.subproblem.Subproblem.{Subproblem}
use Rattle.problem.specs.declared.verdict.Verdict.{Verdict}
use Rattle.problem.specs.declared.verdict.Verdict.TheVariants.{None, Running, Solved, Unsolvable}

-- The bytes of a text in ASCII.
unfoldable pub ascii : String → List ℕ
ascii []ᵗ = []
ascii (c ∷ᵗ text) = code c ∷ ascii text

-- Their words, which the program prints.
unfoldable pub word_of : Verdict → List ℕ
word_of None = ascii "none"
word_of Running = ascii "running"
word_of Solved = ascii "solved"
word_of Unsolvable = ascii "unsolvable"

-- Solved when the top subproblem has every variable instantiated, unsolvable when the agenda is empty, and otherwise running.
unfoldable pub verdict_of : ℕ → List Subproblem → Verdict
verdict_of n [] = Unsolvable
verdict_of n (P ∷ S) = cond (all_instantiated n P) Solved Running

-- A search is finished when its verdict is not running.
unfoldable pub finished : ℕ → List Subproblem → Bool
finished n S = not (eqb (number_of (verdict_of n S)) 1)
