-- Refusals by a table: numbers in the order in which they are given, each with what deserves it.
use Rattle.std.specs.Prelude.{◌≡◌, ◌↔◌, List, [], ◌∷◌, ℕ}

-- The refusals that a call may give, first those that come first.
abbrev pub Refusals : Type 1
Refusals = List (ℕ × Type 0)

-- What is said of the number k by the rest of a table, `None` being that nothing before it is deserved.
abbrev pub FirstAfter : Type 0 → Refusals → ℕ → Type 0
FirstAfter None [] k = (k ≡ 0) ↔ None
FirstAfter None (e ∷ t) k = ((k ≡ e.0) ↔ (None × e.1)) × FirstAfter (None × (e.1 → ⊥)) t k

-- k is the number of an entry exactly if that entry is deserved and none before it is; 0 exactly if none is.
abbrev pub FirstOf : Refusals → ℕ → Type 0
FirstOf t k = FirstAfter Unit t k
