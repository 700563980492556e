-- `Asked::exceed` meets its contract.
use mathlib.Core.Path.{◌≡◌, ◌∙◌}
use lib.ListN.{length}
use borrow.Author.Tests.{le-ltb}
use Rattle.search.proofs.step.Gathering.{roomy}
use borrow.Author.Rules.{rules}
use Rattle.search.proofs.step.Asked.exceed.Goals as goal

pub returns-else-free-candidates : goal.returns-else-free-candidates
returns-else-free-candidates c =
    let long : length c.args.self.now.top.domains ≡ 32 = search rules in
    le-ltb _ _ c.if-free-candidates.false ∙ roomy _ _ _ _ _ c.args.self.now.reads _ _ long c.candidates.ensures c.if-free-candidates.false
