-- `word_bytes::three_of` meets its contract.
use mathlib.Core.Path.{sym, ◌∙◌}
use Rattle.word_bytes.proofs.Fitting.{all_true, puts_none, puts_so}
use Rattle.word_bytes.proofs.three_of.Goals as goal

pub returns-then-not-all_fit : goal.returns-then-not-all_fit
returns-then-not-all_fit c =
    let none = sym c.all_fit.ensures ∙ c.if-not-all_fit.true in
    record { of_first = puts_none _ _ _ none; of_second = puts_none _ _ _ none; of_third = puts_none _ _ _ none }

pub put-first-requires : goal.put-first-requires
put-first-requires c = (all_true _ _ _ _ _ _ (sym c.all_fit.ensures ∙ c.if-not-all_fit.false)).0

pub put-second-requires : goal.put-second-requires
put-second-requires c = (all_true _ _ _ _ _ _ (sym c.all_fit.ensures ∙ c.if-not-all_fit.false)).1

pub put-third-requires : goal.put-third-requires
put-third-requires c = (all_true _ _ _ _ _ _ (sym c.all_fit.ensures ∙ c.if-not-all_fit.false)).2

pub returns : goal.returns
returns c =
    let so = sym c.all_fit.ensures ∙ c.if-not-all_fit.false in
    record { of_first = puts_so so c.put-first.ensures; of_second = puts_so so c.put-second.ensures; of_third = puts_so so c.put-third.ensures }
