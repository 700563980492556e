-- The promises of specs/Promises.antt.
-- Assumes nothing.
use mathlib.Core.Path.{◌≡◌, sym, ◌∙◌}
use mathlib.Core.Bool.{Bool}
use mathlib.Core.List.{List}
use Prim.Native.Nat.{ℕ}
use native.Mathlib.Omega.{arith}
use Rattle.problem.proofs.Answers.{one}
use Rattle.word_bytes.specs.Calls.{Puts}
use Rattle.word_bytes.specs.Promises.{WordsAgain, BytesAgain, AllFitIf, AllFitOne, WordsOfOne, ThreeOfOne, BytesOfOne, ZerosOne}
use Rattle.word_bytes.proofs.Words as words
use Rattle.word_bytes.proofs.Fitting.{all_true, true_all}

pub words_again : WordsAgain
words_again w = (omega (arith, words.bytes_length w), words.bytes_small w, words.words_again w)

pub bytes_again : BytesAgain
bytes_again b e h = (words.words_small b h, words.bytes_again b e h)

pub all_fit_if : AllFitIf
all_fit_if a b c x y z = (all_true a b c x y z, (λ f. true_all a b c x y z f.0 f.1 f.2))

-- ---- one answer

puts_one : (so : Bool) (bytes words left left' : List ℕ) (k k' : ℕ) → Puts so bytes words left k → Puts so bytes words left' k'
    → (left ≡ left') × (k ≡ k')
puts_one so bytes words left left' k k' h g = (h.left ∙ sym g.left, h.count ∙ sym g.count)

pub all_fit_one : AllFitOne
all_fit_one a b c x y z = one _

pub words_of_one : WordsOfOne
words_of_one bytes words left left' k k' h g = puts_one _ bytes words left left' k k' h g

pub three_of_one : ThreeOfOne
three_of_one a b c u u₁ u₂ v v₁ v₂ w w₁ w₂ r q h g =
    let (x, i) = puts_one _ a u u₁ u₂ r.first q.first h.of_first g.of_first in
    let (y, j) = puts_one _ b v v₁ v₂ r.second q.second h.of_second g.of_second in
    let (z, k) = puts_one _ c w w₁ w₂ r.third q.third h.of_third g.of_third in
    (x, y, z, (λ t. record { first = i t; second = j t; third = k t }))

pub bytes_of_one : BytesOfOne
bytes_of_one words before = one _

pub zeros_one : ZerosOne
zeros_one bytes = one _
