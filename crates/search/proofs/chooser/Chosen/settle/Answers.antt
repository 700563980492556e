-- `Chosen::settle` meets its contract.
use mathlib.Core.Path.{◌≡◌}
use native.Mathlib.Omega.{arith}
use lib.ListN.{length}
use Rattle.search.proofs.chooser.Settling.{settle_kept, settle_none, settle_rest}
use borrow.Author.Rules.{rules}
use Rattle.search.proofs.chooser.Chosen.settle.Goals as goal

pub returns-then-not-self : goal.returns-then-not-self
returns-then-not-self c =
    let long : length c.precluded.result.domains ≡ 32 = search rules in
    settle_kept _ _ _ _ _ _ c.requires
    c.if-not-self.true _ c.precluded.ensures long
    c.write_slot.ensures

pub returns-then-self-eq1 : goal.returns-then-self-eq1
returns-then-self-eq1 c = search (rules, settle_none)

pub returns : goal.returns
returns c =
    let long : length c.rest.result.domains ≡ 32 = search rules in
    let several : c.args.self.now.choice.values ≡ 1 → ⊥ = omega arith in
    settle_rest _ _ _ _ _ _ c.requires c.if-not-self.false several _ c.rest.ensures long c.write_slot-2.ensures
