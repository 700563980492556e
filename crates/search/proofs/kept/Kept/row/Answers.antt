-- `Kept::row` meets its contract: its place is one of the variable, and what is put there leaves rows that are kept.
use Prim.Native.Nat.{ℕ, ◌<◌}
use mathlib.Core.List.{List}
use Rattle.problem.specs.Ranges.{Sized, Inside}
use Rattle.search.proofs.kept.Rows.{place_of, row_at, row_more}
use Rattle.search.proofs.kept.Kept.row.Goals as goal

its_numbers : (n d : ℕ) (t : List ℕ) (V' v : ℕ) → Sized n d t → (V' < n) × (v < d) → Inside n d t V' v
its_numbers n d t V' v fit asks = record { fit = fit; a_variable = asks.0; a_value = asks.1 }

pub row-requires : goal.row-requires
row-requires c =
    let inside = its_numbers _ _ _ _ _ c.self.invariant.0 (rw (← c.self.view_is) at c.requires) in
    let place = place_of _ _ _ _ _ _ _ c.self.invariant.1.0 inside c.min.ensures in
    (inside, row_at _ _ _ _ _ _ _ c.self.invariant.1.1 place.0 place.1)

pub invariant_of-self : goal.invariant_of-self
invariant_of-self c =
    let inside = its_numbers _ _ _ _ _ c.self.invariant.0 (rw (← c.self.view_is) at c.requires) in
    let place = place_of _ _ _ _ _ _ _ c.self.invariant.1.0 inside c.min.ensures in
    (c.self.invariant.0, (c.self.invariant.1.0, row_more _ _ _ _ _ _ _ c.self.invariant.1.1 place.0 place.1 _ _ _ c.row.ensures.0 c.row.ensures.1))
