-- `console::parts::run_part` meets its contract.
use Rattle.word_bytes.proofs.Fitting.{words_said}
use Rattle.console.proofs.parts.Runs.{runs_list}
use Rattle.console.proofs.parts.run_part.Goals as goal

pub returns : goal.returns
returns c =
    let pre = c.requires in
    runs_list _ _ _ _ _ _ _ _ _ _ (words_said pre.0 pre.1 c.words_of-count.ensures).said c.run.ensures
