-- `console::fronts::front_of` meets its contract.
use Rattle.console.proofs.fronts.Measuring.{front_zeros}
use Rattle.console.proofs.fronts.front_of.Goals as goal

pub returns-then-zeros : goal.returns-then-zeros
returns-then-zeros c =
    front_zeros _ _ _ c.args.agenda.now _ _ c.reach-front.ensures
    c.zeros.ensures c.if-zeros.true
