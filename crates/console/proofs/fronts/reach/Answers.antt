-- `console::fronts::reach` meets its contract.
use mathlib.Core.Path.{refl}
use Rattle.console.proofs.fronts.Measuring.{reach_least}
use Rattle.console.proofs.fronts.reach.Goals as goal

pub returns : goal.returns
returns c = reach_least _ _ _ _ _ _ c.if-agenda-slot-ne0.false c.if-slot-agenda.false refl c.min.ensures
