-- One statement, one answer.
use Rattle.std.specs.Prelude.{◌≡◌}

-- No two differing results satisfy one statement.
abbrev pub One : {A : Type 0} → (A → Type 0) → Type 0
One {A} S = (r s : A) → S r → S s → r ≡ s
