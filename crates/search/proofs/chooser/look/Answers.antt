-- `search::chooser::look` meets its contract.
use Rattle.search.proofs.chooser.Settling.{found_inside, found_is}
use Rattle.search.proofs.chooser.look.Goals as goal

pub row-row-requires : goal.row-row-requires
row-row-requires c =
    let k = rw (← c.kept.view_is) at c.requires in
    let inside = found_inside _ _ _ _ c.kept.invariant.0 k.0 k.1 _ _ _ _ _ c.beyond.ensures c.least_key-key.ensures
    c.from-variable.ensures c.domain.ensures c.lowest-value.ensures in
    rw (← c.kept.view_is) (inside.a_variable, inside.a_value)

pub returns : goal.returns
returns c =
    let k = rw (← c.kept.view_is) at c.requires in
    let row = rw (← c.kept.view_is) at c.row-row.ensures.0 in
    rw (← c.kept.view_is) (
      found_is _ _ _ _ c.kept.invariant.0 k.0 k.1 _ _ _ _ _ c.beyond.ensures c.least_key-key.ensures
          c.from-variable.ensures c.domain.ensures c.lowest-value.ensures _ _ row c.loses-lost.ensures,
      rw c.kept.view_is c.row-row.ensures.1,
    )
