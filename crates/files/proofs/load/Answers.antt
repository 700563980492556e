-- `load` meets its contract: 14 and wrong sizes change nothing; else the content decides.
use mathlib.Core.Bool.{not}
use mathlib.Core.Path.{refl, sym, ap}
use native.Mathlib.Omega.{arith}
use Rattle.blocks.proofs.Whole.{refusal_is}
use Rattle.files.proofs.reading.Refused.{refused_14, refused_sizes}
use Rattle.problem.specs.declared.refusal.Refusal.TheVariants.{Content}
use Rattle.problem.proofs.Refused.{never_0, handed_err}
use Rattle.files.proofs.LoadOutcomes.{refuses, load_refused, load_numbers, load_read}
use Rattle.files.proofs.load.Goals as goal

pub returns-in_err-refusal_of_file : goal.returns-in_err-refusal_of_file
returns-in_err-refusal_of_file c =
    let is = refused_14 _ _ _ _ _ (refusal_is _ _ c.in_err-refusal_of_file.ensures) (never_0 _) in
    rw (handed_err _ _ c.from_residual.ensures.1) (load_refused _ _ _ _ _ is (never_0 _) _ (refuses _))

pub returns-then-not-is_sized : goal.returns-then-not-is_sized
returns-then-not-is_sized c =
    let whole = sym (refusal_is _ _ c.in_ok-refusal_of_file.ensures) in
    let is = refused_sizes _ _ _ _ whole _ c.is_sized.ensures (ap not c.if-not-is_sized.true) in
    load_refused _ _ _ _ _ is (λ z. absurd (omega arith)) _ (refuses Content)

pub invariant_of-content : goal.invariant_of-content
invariant_of-content c = record { numbers = (load_numbers _ _ _ c.header_of-header.ensures c.is_sized.ensures (ap not c.if-not-is_sized.false)).0 }

pub invariant_of-content-2 : goal.invariant_of-content-2
invariant_of-content-2 c =
    let small = c.type_inv.file in record {
      read = load_read _ _ _ _ _ _ (λ i. omega (arith, small i)) c.in_ok-refusal_of_file.ensures refl c.header_of-header.ensures c.is_sized.ensures
          (ap not c.if-not-is_sized.false) c.zeros-words.ensures c.put_content.ensures;
    }

pub shape_of-domains : goal.shape_of-domains
shape_of-domains c = c.load_content.auto.domains

pub shape_of-tables : goal.shape_of-tables
shape_of-tables c = c.load_content.auto.tables

pub shape_of-agenda : goal.shape_of-agenda
shape_of-agenda c = c.load_content.auto.agenda

pub returns : goal.returns
returns c = c.load_content.ensures
