-- `console::calls::load_none` meets its contract.
use Rattle.console.proofs.calls.Refusing.{none_loaded}
use Rattle.console.proofs.calls.load_none.Goals as goal

pub returns : goal.returns
returns c = none_loaded _ _ _ _ _ c.load.ensures
