-- `reading::Content::refusal_of_rules` meets its contract.
use Rattle.files.proofs.reading.Checked.{rules_kept, rules_broken, fifteen_or}
use Rattle.files.proofs.reading.Content.refusal_of_rules.Goals as goal

pub returns : goal.returns
returns c =
    let read = c.args.self.now.read in
    let said = c.search_refusal.ensures in
    rw c.or.ensures
    (fifteen_or c.search_refusal.result _
    (rules_kept _ _ _ _ _ _ read c.requires _ c.domains.ensures.0 c.slots.ensures.0 said)
    (rules_broken _ _ _ _ _ _ read c.requires _ c.domains.ensures.0 c.slots.ensures.0 said))
