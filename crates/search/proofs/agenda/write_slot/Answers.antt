-- `search::agenda::write_slot` meets its contract.
use mathlib.Core.Path.{◌≡◌}
use native.Mathlib.Omega.{arith}
use lib.ListN.{length}
use borrow.Author.Rules.{rules}
use Rattle.problem.proofs.Copies.{put_part}
use Rattle.search.proofs.Encoding.{length_slot}
use Rattle.search.proofs.agenda.write_slot.Goals as goal

pub returns : goal.returns
returns c =
    let a = c.args in
    let long : length a.p.domains ≡ 32 = search rules in
    put_part _ _ _ _ _ c.put_words.ensures (length_slot a.n a.p (omega arith))
