-- What save hands on from function to function.
use Rattle.std.specs.Prelude.{◌≡◌, List, [], ◌∷◌, ℕ, ◌+◌, ◌*◌, ◌/◌, ◌%◌, ◌^◌, ◌≤◌, length}
use Rattle.search.specs.declared.state.State.{State}
use Rattle.files.specs.Content.{first_word}

-- What the first checks leave.
pub record Savable (n d : ℕ) (domains tables agenda : List ℕ) (s : State) : Type 0 where
  pub domains_words : length domains ≡ n
  pub tables_words : length tables ≡ n * n * d
  pub few : s.subproblems ≤ 512
  pub agenda_words : s.subproblems * (n + 2) ≤ length agenda

-- The nine words before the domains.
unfoldable pub header : ℕ → ℕ → State → List ℕ
header n d s =
    first_word n ∷ d ∷ s.counts.steps.0 / 65536 ∷ s.counts.steps.0 % 65536 ∷ s.counts.checks.0 / 2 ^ 48
    ∷ s.counts.checks.0 / 2 ^ 32 % 65536 ∷ s.counts.checks.0 / 65536 % 65536 ∷ s.counts.checks.0 % 65536 ∷ s.subproblems ∷ []
