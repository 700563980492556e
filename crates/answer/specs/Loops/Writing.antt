-- Text written from the front of a buffer of 512 bytes.
use Rattle.std.specs.Prelude.{◌≡◌, List, [], ◌++◌, ℕ, zero, suc, ◌+◌, ◌-◌, ◌*◌, ◌≤◌, length, replicate, get_or}
use Rattle.problem.specs.Masks.{lowest}
use Rattle.search.specs.Agenda.{stack_of}
use Rattle.searches.specs.Verdicts.{verdict_of}
use Rattle.search.specs.Outcomes.{Ran}
use Rattle.answer.specs.Text.{plan_line}
use Rattle.answer.specs.declared.text.Text.{Text}

-- The buffer holds this text and zeros after it.
pub record Holds (t : Text) (text : List ℕ) : Type 0 where
  pub bytes : t.bytes ≡ text ++ replicate (512 - length text) 0
  pub its_length : t.length ≡ length text

-- After is before with a part more, where there is room.
abbrev pub Adds : Text → List ℕ → Text → Type 0
Adds before part after = (text : List ℕ) → Holds before text → length text + length part ≤ 512 → Holds after (text ++ part)

-- The lines of the lowest values of the first so many of the masks.
unfoldable pub value_lines : ℕ → List ℕ → List ℕ
value_lines zero masks = []
value_lines (suc i) masks = value_lines i masks ++ plan_line i (lowest (get_or masks i 0))

-- What is returned shows what is left.
pub record Shows (n : ℕ) (agenda : List ℕ) (ran : Ran) : Type 0 where
  pub few : n ≤ 32
  pub verdict : ran.verdict ≡ verdict_of n (stack_of n agenda ran.state.subproblems)
  pub within : ran.state.subproblems * (n + 2) ≤ length agenda
