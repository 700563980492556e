-- `search::agenda::slot` meets its contract.
use mathlib.Core.Path.{◌∙◌, ap}
use lib.ListN.{length}
use Rattle.search.proofs.Encoding.{slot_part, slot_long}
use Rattle.search.proofs.agenda.slot.Goals as goal

pub returns : goal.returns
returns c = (slot_part _ _ _, ap length (slot_part _ _ _) ∙ slot_long _ _ _ c.requires)
