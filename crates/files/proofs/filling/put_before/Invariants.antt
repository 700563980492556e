-- `filling::put_before` meets its contract. The invariant: the pairs passed are written.
use Rattle.files.specs.Loops.Said.{pair_part}
use Rattle.files.proofs.filling.Filled.{Passed}
use Rattle.files.proofs.filling.put_before.Given as goal

abbrev pub invariant-loop-j : goal.invariant-loop-j
invariant-loop-j l = Passed (λ k. pair_part l.content.words.now l.content.sizes.n l.content.sizes.d l.i k l.content.sizes.d) l.initial.masks l.at l.masks l.j l.end
