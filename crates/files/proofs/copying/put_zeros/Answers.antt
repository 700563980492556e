-- `copying::put_zeros` meets its contract.
use mathlib.Core.Path.{◌≡◌, sym, ap, ◌∙◌}
use mathlib.Core.List.{List}
use Prim.Native.Nat.{ℕ, ◌+◌, ◌-◌, ◌≤◌}
use native.Mathlib.Omega.{arith}
use lib.ListN.{length, replicate, length-replicate}
use borrow.Rule.Slice.PartMut.{put_mid, mid_of, mid_len}
use Rattle.problem.specs.Lists.{splice}
use Rattle.problem.proofs.Copies.{put_part}
use Rattle.files.proofs.copying.put_zeros.Goals as goal

-- Zeros in the place of all words from `at` on.
zeros_past : (l ys : List ℕ) (at : ℕ) → ys ≡ replicate (length (mid_of at (length l - at) l)) 0 → at ≤ length l
    → put_mid at (length l - at) l ys ≡ splice l at (replicate (length l - at) 0)
zeros_past l ys at e h =
    let k : ℕ = length l - at in
    let same : (at + k) - at ≡ k = omega arith in
    let long : length (mid_of at k l) ≡ k = mid_len at (length l) l (omega arith) in
    ap (λ (j : ℕ). put_mid at j l ys) (sym same)
    ∙ put_part l ys (replicate k 0) at k (e ∙ ap (λ (j : ℕ). replicate j 0) long) (length-replicate k 0)

pub returns : goal.returns
returns c = zeros_past _ _ _ (c.fill.ensures.after (λ y e. e)) c.requires
