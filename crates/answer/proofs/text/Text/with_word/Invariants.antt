-- `answer::text::Text::with_word` meets its contract.
use lib.ListN.{take}
use Rattle.answer.specs.Loops.Writing.{Adds}
use Rattle.answer.proofs.text.Text.with_word.Given as goal

abbrev pub invariant-loop-byte : goal.invariant-loop-byte
invariant-loop-byte l = Adds l.initial.text (take l.byte-index l.word) l.text
