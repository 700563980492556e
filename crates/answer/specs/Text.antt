-- The text that the program prints, byte for byte.
use Rattle.std.specs.Prelude.{cond, List, [], ◌∷◌, ◌++◌, ℕ, zero, suc, ◌+◌, ◌/◌, ◌%◌, eqb, ltb}
use Rattle.problem.specs.Masks.{lowest}
use Rattle.splits.specs.Subproblems.{domain}
use Rattle.problem.specs.Lists.{below}
use Rattle.splits.specs.declared.subproblem.Subproblem.{Subproblem}
use Rattle.search.specs.Agenda.{stack_of}
use Rattle.search.specs.Slots.{Stopped}
use Rattle.searches.specs.Verdicts.{number_of, ascii, word_of, verdict_of}
use Rattle.search.specs.Outcomes.{Ran}
use Rattle.searches.specs.declared.verdict.Verdict.{Verdict}
use Rattle.blocks.specs.Lists.{each}

-- A number in decimal, no zero in front, of at most so many digits after the first. The digit 0 is byte 48.
unfoldable pub decimal_of : ℕ → ℕ → List ℕ
decimal_of zero x = (48 + x % 10) ∷ []
decimal_of (suc more) x = cond (ltb x 10) ((48 + x) ∷ []) (decimal_of more (x / 10) ++ ((48 + x % 10) ∷ []))

-- A number has no more digits after the first than it counts, so that these are enough.
unfoldable pub decimal : ℕ → List ℕ
decimal x = decimal_of x x

-- Line 1: the verdict.
unfoldable pub verdict_line : Verdict → List ℕ
verdict_line verdict = word_of verdict ++ ascii "\n"

-- Line 2: "steps", the count, "checks", the count.
unfoldable pub counts_line : ℕ → ℕ → List ℕ
counts_line steps checks = ascii "steps " ++ decimal steps ++ ascii " checks " ++ decimal checks ++ ascii "\n"

-- A line of a plan: number, value.
unfoldable pub plan_line : ℕ → ℕ → List ℕ
plan_line variable value = decimal variable ++ ascii " " ++ decimal value ++ ascii "\n"

-- A line for each of n variables.
abbrev pub plan_of : ℕ → (ℕ → ℕ) → List ℕ
plan_of n value = each (λ i. plan_line i (value i)) (below n)

-- If solved, a line for each variable; the top has one value for each.
unfoldable pub plan_lines : ℕ → List Subproblem → List ℕ
plan_lines n [] = []
plan_lines n (top ∷ below-it) = cond (eqb (number_of (verdict_of n (top ∷ below-it))) 2) (plan_of n (λ i. lowest (domain top i))) []

-- The line of a refusal: "refused" and the number.
unfoldable pub refused_line : ℕ → List ℕ
refused_line refusal = ascii "refused " ++ decimal refusal ++ ascii "\n"

-- The whole text of a run: a refusal adds its line after line 2; what is solved was not refused.
unfoldable pub whole_text : ℕ → Verdict → (steps checks refusal : ℕ) → List Subproblem → List ℕ
whole_text n verdict steps checks refusal stack =
    verdict_line verdict ++ counts_line steps checks ++ cond (eqb refusal 0) (plan_lines n stack) (refused_line refusal)

-- Of one that stops so.
unfoldable pub text_of : ℕ → Stopped → List ℕ
text_of n stopped =
    whole_text n (verdict_of n stopped.search.memory) stopped.search.steps stopped.search.checks stopped.refusal stopped.search.memory

-- Of one that returns this and leaves these words in the agenda.
unfoldable pub text_from : ℕ → List ℕ → Ran → List ℕ
text_from n agenda ran =
    whole_text n ran.verdict ran.state.counts.steps.0 ran.state.counts.checks.0 ran.refusal (stack_of n agenda ran.state.subproblems)
