-- What save and load tell, with a refusal as its number, 0 for none: the promises speak of these, and the results of the code are read so.
use Rattle.std.specs.Prelude.{ℕ, Result, Ok, Err}
use Rattle.problem.specs.declared.refusal.Refusal.{Refusal}
use Rattle.problem.specs.Refused.{number_of}
use Rattle.search.specs.declared.state.State.{State}
use Rattle.search.specs.Outcomes.{fresh}
use Rattle.files.specs.declared.saved.Header.{Header}

-- What save tells: refused, no block is written.
pub record Saved : Type 0 where
  pub refusal : ℕ
  pub blocks : ℕ

abbrev pub saved : Result ℕ Refusal → Saved
saved (Ok blocks) = record { refusal = 0; blocks = blocks }
saved (Err refusal) = record { refusal = number_of refusal; blocks = 0 }

-- What load tells: refused, all numbers are 0.
pub record Loaded : Type 0 where
  pub refusal : ℕ
  pub n : ℕ
  pub d : ℕ
  pub state : State

abbrev pub loaded : Result Header Refusal → Loaded
loaded (Ok h) = record { refusal = 0; n = h.n; d = h.d; state = h.state }
loaded (Err refusal) = record { refusal = number_of refusal; n = 0; d = 0; state = fresh 0 }
