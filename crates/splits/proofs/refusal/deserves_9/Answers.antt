-- `refusal::deserves_9` meets its contract, test by test.
use borrow.Author.Tests.{le-leb, lt-leb, ne_eqb}
use denote.Enum.Bare.{same_true, same_false}
use borrow.Author.Rules.{rules}
use mathlib.Core.Path.{◌≡◌, sym, ◌∙◌}
use Rattle.splits.specs.contracts.kind.Kind.{the_type}
use Rattle.splits.specs.Loops.Kinds.{deserves9}
use Rattle.splits.proofs.Numbering.{kind_not_4}
use Rattle.splits.proofs.refusal.Refusals.{lacks}
use Rattle.splits.specs.declared.kind.Kind.TheVariants.{Halving}
use Rattle.splits.proofs.refusal.deserves_9.Goals as goal

pub returns-then-eq : goal.returns-then-eq
unfolding deserves9
returns-then-eq c =
    let four : c.args.kind ≡ Halving = same_true the_type (search rules) c.args.kind Halving (sym c.eq.ensures ∙ c.if-eq.true) in
    rw (four, c.count.ensures)

pub returns-then-d-value : goal.returns-then-d-value
unfolding deserves9
returns-then-d-value c =
    rw (
      ← c.value-value.ensures,
      ne_eqb _ _ (kind_not_4 c.args.kind (same_false the_type c.args.kind Halving (sym c.eq.ensures ∙ c.if-eq.false))),
      le-leb _ _ c.if-d-value.true,
    )

pub returns-else-d-value : goal.returns-else-d-value
unfolding deserves9
returns-else-d-value c =
    rw (
      ← c.value-value.ensures,
      ne_eqb _ _ (kind_not_4 c.args.kind (same_false the_type c.args.kind Halving (sym c.eq.ensures ∙ c.if-eq.false))),
      lt-leb _ _ c.if-d-value.false,
      lacks _ _ _ c.has.ensures,
    )
