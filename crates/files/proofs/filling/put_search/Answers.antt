-- `filling::put_search` meets its contract.
use mathlib.Core.Path.{◌∙◌}
use Rattle.files.proofs.filling.Filled.{padded_put}
use Rattle.files.proofs.filling.Mirrors.{slots_room, slots_put}
use borrow.Author.Rules.{rules}
use Rattle.files.proofs.filling.put_search.Goals as goal

pub returns : goal.returns
returns c =
    let pre = c.requires in
    let room = slots_room _ _ _ _ _ _ c.slots.ensures pre.agenda_words in
    let padded = padded_put _ _ _ _ _ room c.put_at-end.ensures c.put_at-end.auto.out c.put_zeros.ensures in
    (c.put_words.ensures ∙ search rules, (c.put_words-2.ensures, slots_put _ _ _ _ _ _ c.slots.ensures _ padded))
