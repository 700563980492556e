-- `filling::put_turned` meets its contract.
use Rattle.files.proofs.filling.Mirrors.{columns_put}
use Rattle.files.proofs.filling.put_turned.Goals as goal

pub returns : goal.returns
returns c =
    let put = c.put_at-2.ensures in
    let turned = c in
    columns_put _ _ _ _ _ _ _ turned.requires.0 turned.put_at.ensures.0
    turned.turned-turned.ensures
    put.0 put.1
