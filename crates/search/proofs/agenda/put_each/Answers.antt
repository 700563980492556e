-- `search::agenda::put_each` meets its contract.
use mathlib.Core.Path.{◌≡◌}
use native.Mathlib.Omega.{arith}
use lib.ListN.{length}
use Rattle.search.proofs.Encoding.{slot_made}
use borrow.Author.Rules.{rules}
use Rattle.search.proofs.agenda.put_each.Goals as goal

pub returns : goal.returns
returns c =
    let long : length c.args.p.domains ≡ 32 = search rules in
    slot_made _ c.args.p c.args.slot.now _ c.copy_from_slice.ensures.after (omega arith) (omega arith)
