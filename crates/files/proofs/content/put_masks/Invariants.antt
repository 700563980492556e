-- `content::put_masks` meets its contract. The invariant: the rows passed are written.
use Rattle.problem.specs.Problem.{table_of}
use Rattle.files.proofs.Triangle.{row}
use Rattle.files.proofs.filling.Filled.{Passed}
use Rattle.files.proofs.content.put_masks.Given as goal

abbrev pub invariant-loop-i : goal.invariant-loop-i
invariant-loop-i l = Passed (row l.sizes.n l.sizes.d (table_of l.sizes.n l.sizes.d l.tables)) l.initial.words l.at l.words l.i l.end
