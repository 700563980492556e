-- `search::agenda::holding` meets its contract.
use mathlib.Core.Path.{refl}
use Rattle.problem.proofs.Copies.{drop_zeros}
use Rattle.search.specs.Agenda.{holding}
use Rattle.search.proofs.agenda.holding.Goals as goal

pub returns : goal.returns
unfolding holding
returns c = rw (c.copy_from_slice.ensures.after, drop_zeros 32 c.args.n) refl
