-- `console::numbers::refused` meets its contract.
use mathlib.Core.Path.{ap}
use Prim.Native.Nat.{ℕ}
use Rattle.search.specs.Outcomes.{Ran}
use Rattle.searches.specs.declared.verdict.Verdict.TheVariants.{None}
use Rattle.console.proofs.numbers.refused.Goals as goal

pub returns : goal.returns
returns c = ap {B = Ran} (λ (x : ℕ). record { verdict = None; refusal = x; taken = 0; state = c.args.state }) c.unwhole.ensures
