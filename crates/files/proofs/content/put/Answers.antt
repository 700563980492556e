-- `content::put` meets its contract: its parts are written one after the other.
use native.Mathlib.Omega.{arith}
use Rattle.files.proofs.content.Written.{content_put}
use Rattle.files.proofs.content.put.Goals as goal

pub returns : goal.returns
returns c =
    let three = c in
    let two = three in
    let one = two in
    let first = one in
    let pre = first.requires in
    content_put _ _ first.args.sizes.numbers _ _ _ _ pre.0 (λ i. omega (arith, first.type_inv.agenda i)) _ _ _ _ _ _ _ _ _ pre.1
    first.header-first.ensures
    one.put_at-at.ensures two.put_at-at-2.ensures three.put_masks-at.ensures c.put_at.ensures.0
