-- Words that are zeros from a place on.
-- Assumes nothing.
use mathlib.Core.Path.{◌≡◌, ap, ◌∙◌}
use mathlib.Core.List.{List}
use Prim.Native.Nat.{ℕ, ◌+◌, ◌-◌}
use lib.Dec.{eqb}
use lib.ListN.{length, get_or, take, drop, length-drop}
use lib.Seq.{take-length, get_or-drop}
use Rattle.problem.specs.Lists.{every, row_in, joined}
use Rattle.problem.proofs.Tests.{every_same}
use Rattle.search.specs.Tests.FirstChecks.{zeros_from}
use Rattle.problem.proofs.first_checks.Joining.{joined_zero}

-- every word from a place on is zero
pub zeros_found : (words : List ℕ) (from b : ℕ)
    → b ≡ joined (length (take (length words - from) (drop from words))) (row_in (take (length words - from) (drop from words)))
    → eqb b 0 ≡ zeros_from from words
unfolding zeros_from row_in
zeros_found words from b e =
    let rest : take (length words - from) (drop from words) ≡ drop from words = rw (← length-drop from words) (take-length (drop from words)) in
    ap (λ (x : ℕ). eqb x 0) e ∙ ap (λ (l : List ℕ). eqb (joined (length l) (row_in l)) 0) rest
    ∙ joined_zero (length (drop from words)) (row_in (drop from words))
    ∙ ap (λ (k : ℕ). every k (λ i. eqb (get_or (drop from words) i 0) 0)) (length-drop from words)
    ∙ every_same (λ i. eqb (get_or (drop from words) i 0) 0) (λ i. eqb (get_or words (from + i) 0) 0) (length words - from)
    (λ i l. ap (λ (x : ℕ). eqb x 0) (get_or-drop from words i 0))
