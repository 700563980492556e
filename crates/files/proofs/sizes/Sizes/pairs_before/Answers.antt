-- `sizes::Sizes::pairs_before` meets its contract.
use native.Mathlib.Omega.{arith}
use Rattle.files.proofs.filling.Mirrors.{pairs}
use Rattle.files.proofs.sizes.Sizes.pairs_before.Goals as goal

pub returns : goal.returns
returns c = let p = pairs c.args.self.n c.args.i c.args.self.numbers.variables c.requires in (p.closed, omega (arith, p.few))
