-- `answer::text::Text::with_verdict` meets its contract: the line of each verdict.
use mathlib.Core.Path.{sym, ap}
use Rattle.searches.specs.Verdicts.{ascii, word_of}
use Rattle.answer.specs.Text.{verdict_line}
use Rattle.answer.proofs.Writing.{adds_same}
use Rattle.answer.proofs.text.Text.with_verdict.Goals as goal

pub returns-in-None : goal.returns-in-None
unfolding verdict_line word_of ascii
returns-in-None c = adds_same _ _ _ _ (ap verdict_line (sym c.in-None.is)) c.with_word.ensures

pub returns-in-Running : goal.returns-in-Running
unfolding verdict_line word_of ascii
returns-in-Running c = adds_same _ _ _ _ (ap verdict_line (sym c.in-Running.is)) c.with_word-in-Running.ensures

pub returns-in-Solved : goal.returns-in-Solved
unfolding verdict_line word_of ascii
returns-in-Solved c = adds_same _ _ _ _ (ap verdict_line (sym c.in-Solved.is)) c.with_word-in-Solved.ensures

pub returns-in-Unsolvable : goal.returns-in-Unsolvable
unfolding verdict_line word_of ascii
returns-in-Unsolvable c = adds_same _ _ _ _ (ap verdict_line (sym c.in-Unsolvable.is)) c.with_word-in-Unsolvable.ensures
