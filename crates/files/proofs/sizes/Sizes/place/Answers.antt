-- `sizes::Sizes::place` meets its contract.
use native.Mathlib.Omega.{arith}
use Rattle.files.proofs.filling.Mirrors.{place_within, place_made}
use Rattle.files.proofs.sizes.Sizes.place.Goals as goal

pub returns : goal.returns
returns c =
    let s = c.args.self in (
      place_made _ _ _ _ _ c.pairs_before.ensures.0,
      omega (
        arith,
        place_within s.n s.d c.args.i c.args.j _ s.numbers c.requires.0 c.requires.1 c.pairs_before.ensures.0,
      ),
    )
