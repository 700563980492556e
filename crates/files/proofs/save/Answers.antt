-- `save` meets its contract: refused, nothing is changed; else the blocks are written.
use mathlib.Core.Path.{refl}
use native.Mathlib.Omega.{arith}
use Rattle.problem.proofs.Refused.{never_0, handed_err}
use Rattle.files.proofs.SaveOutcomes.{save_passed, save_refused, save_short, save_written, save_part}
use Rattle.files.proofs.save.Goals as goal

pub returns-in_err-search_refusal : goal.returns-in_err-search_refusal
returns-in_err-search_refusal c =
    rw (handed_err _ _ c.from_residual.ensures.1)
    (save_refused _ _ _ _ _ _ _ _ _ c.in_err-search_refusal.ensures (never_0 _) refl refl)

pub invariant_of-sizes : goal.invariant_of-sizes
invariant_of-sizes c = record { numbers = (save_passed _ _ _ _ _ _ _ c.in_ok-search_refusal.ensures refl).0 }

pub words-requires : goal.words-requires
words-requires c = (save_passed _ _ _ _ _ _ _ c.in_ok-search_refusal.ensures refl).1.few

pub returns-then-file-blocks : goal.returns-then-file-blocks
returns-then-file-blocks c =
    let small = c.type_inv.agenda in
    save_short _ _ _ _ _ _ _ (λ i. omega (arith, small i)) _ _ c.in_ok-search_refusal.ensures refl
    c.words.ensures.0 _ c.if-file-blocks.true refl refl

pub put-requires : goal.put-requires
put-requires c = ((save_passed _ _ _ _ _ _ _ c.in_ok-search_refusal.ensures refl).1, c.zeros-words.ensures)

pub slice_bounds-put_blocks-end : goal.slice_bounds-put_blocks-end
slice_bounds-put_blocks-end c = save_part _ _ c.put.array_long c.words.ensures.1

pub shape_of-file : goal.shape_of-file
shape_of-file c = c.put_blocks.auto.file

pub returns : goal.returns
returns c =
    let counted = c in
    let small = c.type_inv.agenda in
    save_written _ _ _ _ _ _ _ (λ i. omega (arith, small i)) _ _ c.in_ok-search_refusal.ensures refl
    counted.words.ensures.0 _ _ _ c.if-file-blocks.false counted.words.ensures.1 refl refl c.put.ensures
    c.put_blocks.ensures
