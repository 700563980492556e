-- The text that `planner::main` prints lies within its buffer.
use Rattle.answer.proofs.Answering.{answer_within}
use Rattle.planner.proofs.main.Goals as goal

pub print-requires : goal.print-requires
print-requires c = answer_within _ _ c.answer_to.ensures
