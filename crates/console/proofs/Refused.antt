-- Opening, save and load that are refused leave every byte.
-- Assumes nothing.
use mathlib.Core.Path.{ap, ◌∙◌}
use borrow.Author.Tests.{ne_eqb}
use Rattle.search.specs.Outcomes.{Opened}
use Rattle.files.specs.Outcomes.{Saved}
use Rattle.files.specs.Outcomes.{Loaded}
use Rattle.word_bytes.specs.Bytes.{bytes_of}
use Rattle.word_bytes.proofs.Words.{bytes_again}
use Rattle.console.specs.Promises.{OpenRefused, SaveRefused, LoadRefused}
use Rattle.console.proofs.OneOutcome.{whole_or_not}

pub open_left : OpenRefused
open_left n d domains tables before after steps checks subproblems refusal bytes h f = elim (whole_or_not domains tables before) [
  | yes w ↦
      let x = h.opens.whole w in
      let test = ne_eqb _ 0 (λ e. f (h.its_refusal ∙ x.opens.refusal ∙ e)) in (
        x.said ∙ ap bytes_of (rw test at x.opens.agenda) ∙ bytes_again before w.of_agenda bytes,
        h.its_steps ∙ x.opens.steps,
        h.its_checks ∙ x.opens.checks,
        h.its_subproblems ∙ rw test at x.opens.subproblems,
      )
  | no g ↦
      let (e, same) = h.opens.odd g in (
        same,
        h.its_steps ∙ ap (λ (r : Opened). r.state.counts.steps.0) e,
        h.its_checks ∙ ap (λ (r : Opened). r.state.counts.checks.0) e,
        h.its_subproblems ∙ ap (λ (r : Opened). r.state.subproblems) e,
      )
]

pub save_left : SaveRefused
save_left n d domains tables agenda steps checks subproblems before after blocks refusal h f = elim (whole_or_not domains tables agenda) [
  | yes w ↦
      let x = h.saves.whole w in
      let test = ne_eqb _ 0 (λ e. f (h.its_refusal ∙ x.refusal ∙ e)) in (rw test at x.file, h.its_blocks ∙ rw test at x.blocks)
  | no g ↦ let (e, same) = h.saves.odd g in (same, h.its_blocks ∙ ap (λ (r : Saved). r.blocks) e)
]

pub load_left : LoadRefused
load_left file domains domains' tables tables' agenda agenda' n d steps checks subproblems refusal ds ts xs h f = elim (whole_or_not domains tables agenda) [
  | yes w ↦
      let x = h.loads.whole w in
      let l = x.loads in
      let test = ne_eqb _ 0 (λ e. f (h.its_refusal ∙ l.refusal ∙ e)) in (
        x.said_domains ∙ ap bytes_of (rw test at l.its_domains) ∙ bytes_again domains w.of_domains ds,
        x.said_tables ∙ ap bytes_of (rw test at l.its_tables) ∙ bytes_again tables w.of_tables ts,
        x.said_agenda ∙ ap bytes_of (rw test at l.its_agenda) ∙ bytes_again agenda w.of_agenda xs,
        h.its_n ∙ rw test at l.its_n,
        h.its_d ∙ rw test at l.its_d,
        h.its_steps ∙ rw test at l.steps,
        h.its_checks ∙ rw test at l.checks,
        h.its_subproblems ∙ rw test at l.subproblems,
      )
  | no g ↦
      let (e, a, b, c) = h.loads.odd g in (
        a,
        b,
        c,
        h.its_n ∙ ap (λ (r : Loaded). r.n) e,
        h.its_d ∙ ap (λ (r : Loaded). r.d) e,
        h.its_steps ∙ ap (λ (r : Loaded). r.state.counts.steps.0) e,
        h.its_checks ∙ ap (λ (r : Loaded). r.state.counts.checks.0) e,
        h.its_subproblems ∙ ap (λ (r : Loaded). r.state.subproblems) e,
      )
]
