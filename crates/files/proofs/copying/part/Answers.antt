-- `copying::part` meets its contract.
use mathlib.Core.Path.{refl}
use Rattle.files.proofs.filling.Mirrors.{part_in_lem, part_long}
use Rattle.files.proofs.copying.part.Goals as goal

pub returns : goal.returns
returns c = (part_in_lem _ _ _ _ refl, part_long _ _ _ c.requires)
