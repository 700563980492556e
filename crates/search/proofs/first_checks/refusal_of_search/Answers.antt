-- `first::refusal_of_search` meets its contract: slots, checks, zeros, then the rules.
use native.Mathlib.Omega.{arith}
use borrow.Author.Rules.{rules}
use Rattle.search.proofs.first_checks.FirstParts.{slots_within, search_slots, search_checks, search_zeros, search_last}
use Rattle.search.proofs.first_checks.Zeros.{zeros_found}
use Rattle.search.proofs.first_checks.refusal_of_search.Goals as goal

pub overflow_add-n : goal.overflow_add-n
overflow_add-n c = omega (arith, c.requires.fitting.sized.few)

pub returns-then-agenda-n : goal.returns-then-agenda-n
returns-then-agenda-n c = search_slots _ _ c.args.domains.now _ _ _ _ _ c.if-agenda-n.true

pub returns-then-state : goal.returns-then-state
returns-then-state c = search_checks _ _ c.args.domains.now _ _ _ _ _ c.if-state.true

pub overflow_add-used : goal.overflow_add-used
overflow_add-used c = omega (arith, c.requires.fitting.sized.few)

pub overflow_mul-used : goal.overflow_mul-used
overflow_mul-used c = omega (arith, slots_within _ _ _ c.if-agenda-n.false)

pub offset_bounds-agenda-used : goal.offset_bounds-agenda-used
offset_bounds-agenda-used c = let within = slots_within _ _ _ c.if-agenda-n.false in search rules

pub slice_bounds-bits_of-count : goal.slice_bounds-bits_of-count
slice_bounds-bits_of-count c = slots_within _ _ _ c.if-agenda-n.false

pub slice_bounds-bits_of-start : goal.slice_bounds-bits_of-start
slice_bounds-bits_of-start c = slots_within _ _ _ c.if-agenda-n.false

pub returns-then-bits_of-ne0 : goal.returns-then-bits_of-ne0
returns-then-bits_of-ne0 c =
    search_zeros _ _ c.args.domains.now _ _ _ _ _ _ (zeros_found _ _ _ c.bits_of.ensures) c.if-bits_of-ne0.true

pub all_obey-requires : goal.all_obey-requires
all_obey-requires c = (c.requires, slots_within _ _ _ c.if-agenda-n.false)

pub returns-then-all_obey : goal.returns-then-all_obey
returns-then-all_obey c =
    rw c.if-all_obey.true at
    (search_last _ _ c.args.domains.now c.args.tables.now _ _ _ _ _ _ c.if-agenda-n.false c.if-state.false
    (zeros_found _ _ _ c.bits_of.ensures) c.if-bits_of-ne0.false c.all_obey.ensures)

pub returns : goal.returns
returns c =
    rw c.if-all_obey.false at
    (search_last _ _ c.args.domains.now c.args.tables.now _ _ _ _ _ _ c.if-agenda-n.false c.if-state.false
    (zeros_found _ _ _ c.bits_of.ensures) c.if-bits_of-ne0.false c.all_obey.ensures)
