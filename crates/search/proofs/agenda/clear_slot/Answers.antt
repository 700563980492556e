-- `search::agenda::clear_slot` meets its contract.
use mathlib.Core.Path.{ap, ◌∙◌}
use Rattle.problem.specs.Lists.{splice}
use Rattle.search.proofs.Encoding.{slot_none}
use Rattle.search.proofs.agenda.clear_slot.Goals as goal

pub returns : goal.returns
returns c = c.write_slot.ensures ∙ ap (splice _ _) (slot_none _ c.requires.few)
