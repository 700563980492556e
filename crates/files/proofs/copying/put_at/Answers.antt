-- `copying::put_at` meets its contract.
use mathlib.Core.Path.{refl}
use Rattle.problem.proofs.Copies.{put_part}
use Rattle.files.proofs.copying.put_at.Goals as goal

pub returns : goal.returns
returns c = (put_part _ _ _ _ _ c.put_words.ensures refl, refl)
