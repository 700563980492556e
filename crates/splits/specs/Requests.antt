-- The words of a request: kind, V, v, then a target mask for each variable. A word that is not there is 0.
use Rattle.std.specs.Prelude.{List, ℕ, ◌+◌, get_or}

abbrev pub kind_of : List ℕ → ℕ
kind_of r = get_or r 0 0

abbrev pub variable_of : List ℕ → ℕ
variable_of r = get_or r 1 0

abbrev pub value_of : List ℕ → ℕ
value_of r = get_or r 2 0

abbrev pub target_of : List ℕ → ℕ → ℕ
target_of r i = get_or r (3 + i) 0
