-- The verdicts and their numbers.
use Rattle.std.specs.Prelude.{ℕ}
use Rattle.problem.specs.declared.verdict.Verdict.{Verdict}
use Rattle.problem.specs.declared.verdict.Verdict.TheVariants.{None, Running, Solved, Unsolvable}

-- Their numbers, as the C header has them; the promises use them.
abbrev pub number_of : Verdict → ℕ
number_of None = 0
number_of Running = 1
number_of Solved = 2
number_of Unsolvable = 3
