-- `filling::put_tables` meets its contract. The invariant: the rows passed are written.
use Rattle.files.specs.Loops.Said.{row_part}
use Rattle.files.proofs.filling.Filled.{Passed}
use Rattle.files.proofs.filling.put_tables.Given as goal

abbrev pub invariant-loop-i : goal.invariant-loop-i
invariant-loop-i l = Passed (λ k. row_part l.content.words.now l.content.sizes.n l.content.sizes.d k l.content.sizes.n) l.initial.masks 0 l.masks l.i l.end
