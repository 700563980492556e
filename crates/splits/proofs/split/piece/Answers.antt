-- `split::piece` meets its contract, kind by kind.
use mathlib.Core.Logic.{inr}
use Rattle.splits.proofs.Numbering.{kind_not_4, kind_not_5}
use Rattle.splits.proofs.split.ByKind.{piece_over, some_place, named, to_three, peel_place, piece_3, piece_4, piece_5}
use mathlib.Core.Path.{refl, ap}
use Rattle.splits.specs.Kinds.{kind_number}
use Rattle.splits.proofs.split.piece.Goals as goal

pub returns-then-candidates-k : goal.returns-then-candidates-k
returns-then-candidates-k c = piece_over _ _ _ _ _ _ _ c.candidates.ensures c.if-candidates-k.true

pub returns-in_default : goal.returns-in_default
returns-in_default c =
    absurd (named _ _ _ (some_place _ _ _ _ c.candidates.ensures c.if-candidates-k.false).1 _ refl c.in_default.ensures.1)

pub returns-in-Halving : goal.returns-in-Halving
returns-in-Halving c =
    piece_4 _ _ _ _ _ _ _ c.candidates.ensures c.if-candidates-k.false _
    c.in-Ok.ensures _ (ap kind_number c.in-Halving.is) c.halving.ensures

pub extraction-requires : goal.extraction-requires
extraction-requires c =
    let place = some_place _ _ _ _ c.candidates.ensures c.if-candidates-k.false in
    (place.0, peel_place _ _ _ place.1 _ c.in-Ok.ensures (inr (ap kind_number c.in-Extraction.is)))

pub returns-in-Extraction : goal.returns-in-Extraction
returns-in-Extraction c =
    piece_5 _ _ _ _ _ _ _ c.candidates.ensures c.if-candidates-k.false _
    c.in-Ok.ensures _ (ap kind_number c.in-Extraction.is) c.extraction.ensures

pub around_value-requires : goal.around_value-requires
around_value-requires c =
    let place = some_place _ _ _ _ c.candidates.ensures c.if-candidates-k.false in (
      place.1,
      (
        c.in-Ok.ensures,
        to_three _ _ _ place.1 _ c.in-Ok.ensures (kind_not_4 _ c.in_default-kind.not-Halving) (kind_not_5 _ c.in_default-kind.not-Extraction),
      ),
    )

pub returns-in_default-kind : goal.returns-in_default-kind
returns-in_default-kind c =
    piece_3 _ _ _ _ _ _ _ c.candidates.ensures c.if-candidates-k.false _
    c.in-Ok.ensures _ (kind_not_4 _ c.in_default-kind.not-Halving) (kind_not_5 _ c.in_default-kind.not-Extraction) c.around_value.ensures
