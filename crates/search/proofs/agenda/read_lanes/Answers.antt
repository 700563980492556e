-- `search::agenda::read_lanes` meets its contract.
use native.Mathlib.Omega.{arith}
use Rattle.search.proofs.lanes.Halves.{slot_lanes}
use Rattle.search.proofs.agenda.read_lanes.Goals as goal

pub returns : goal.returns
returns c =
    slot_lanes _ _ _ _ _ _ c.requires.0 (omega arith) c.requires.1
    c.kept_words.ensures c.marked_at.ensures
