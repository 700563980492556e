-- `tables::allowed` meets its contract: the place is inside the tables.
use native.Mathlib.Omega.{arith}
use mathlib.Core.Path.{refl}
use Rattle.problem.proofs.tables.Ranges.{given_within, given_word}
use Rattle.problem.proofs.tables.allowed.Goals as goal

pub overflow_mul-result : goal.overflow_mul-result
overflow_mul-result c = omega (arith, given_within _ _ _ _ _ _ _ c.if-n-j.false c.within.ensures c.if-not-within.false)

pub overflow_add-result : goal.overflow_add-result
overflow_add-result c = omega (arith, given_within _ _ _ _ _ _ _ c.if-n-j.false c.within.ensures c.if-not-within.false)

pub overflow_mul-result-2 : goal.overflow_mul-result-2
overflow_mul-result-2 c = omega (arith, given_within _ _ _ _ _ _ _ c.if-n-j.false c.within.ensures c.if-not-within.false)

pub overflow_add-result-2 : goal.overflow_add-result-2
overflow_add-result-2 c = omega (arith, given_within _ _ _ _ _ _ _ c.if-n-j.false c.within.ensures c.if-not-within.false)

pub offset_bounds-tables-i : goal.offset_bounds-tables-i
offset_bounds-tables-i c = omega (arith, given_within _ _ _ _ _ _ _ c.if-n-j.false c.within.ensures c.if-not-within.false)

pub bounds-tables-i : goal.bounds-tables-i
bounds-tables-i c = omega (arith, given_within _ _ _ _ _ _ _ c.if-n-j.false c.within.ensures c.if-not-within.false)

pub returns : goal.returns
returns c = given_word _ _ _ _ _ _ _ c.if-n-j.false c.within.ensures c.if-not-within.false _ c.if-i-j.false refl
