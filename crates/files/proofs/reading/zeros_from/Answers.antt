-- `reading::zeros_from` meets its contract. The invariant: the words passed are zero.
use Rattle.problem.proofs.FirstLoops.{every_start}
use Rattle.files.proofs.reading.Found.{zero_stop, zero_turn}
use Rattle.files.proofs.reading.zeros_from.Goals as goal

pub loop-k-init : goal.loop-k-init
loop-k-init c = every_start _

pub returns-then-content_word-ne0 : goal.returns-then-content_word-ne0
returns-then-content_word-ne0 c = zero_stop _ _ _ _ _ c.loop-k-test.true c.content_word.ensures c.if-content_word-ne0.true

pub loop-k-preserved : goal.loop-k-preserved
loop-k-preserved c = zero_turn _ _ _ _ c.loop-k.invariant c.content_word.ensures c.if-content_word-ne0.false
