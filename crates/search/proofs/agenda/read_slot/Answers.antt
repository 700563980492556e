-- `search::agenda::read_slot` meets its contract.
use Rattle.search.proofs.Encoding.{slot_read}
use Rattle.search.proofs.agenda.read_slot.Goals as goal

pub returns : goal.returns
returns c = slot_read _ _ _ _ _ _ c.slot-words.ensures.0 c.marked_at.ensures c.holding.ensures
