-- How long the lines of a text are.
-- Assumes nothing.
use native.Mathlib.Omega.{arith}
use mathlib.Core.List.{List, ◌++◌}
use Prim.Native.Nat.{ℕ, zero, suc, ◌+◌, ◌*◌, ◌^◌, ◌≤◌, ◌<◌}
use lib.ListN.{length, length-append}
use lib.Count.{trailing_le}
use Rattle.problem.specs.Masks.{lowest}
use Rattle.searches.specs.Verdicts.{ascii, word_of}
use Rattle.searches.specs.declared.verdict.Verdict.{Verdict}
use Rattle.searches.specs.declared.verdict.Verdict.TheVariants.{None, Running, Solved, Unsolvable}
use Rattle.blocks.proofs.Lists.{each_more, each_none}
use Rattle.answer.specs.Text.{decimal, verdict_line, counts_line, plan_line, plan_of, refused_line}
use Rattle.answer.proofs.Decimals.{two_digits, twenty_digits}

pub both_short : (a b : List ℕ) (x y : ℕ) → length a ≤ x → length b ≤ y → length (a ++ b) ≤ x + y
both_short a b x y h k = let e = length-append a b in omega (arith, e, h, k)

pub verdict_short : (v : Verdict) → length (verdict_line v) ≤ 11
unfolding verdict_line word_of ascii
verdict_short None = omega arith
verdict_short Running = omega arith
verdict_short Solved = omega arith
verdict_short Unsolvable = omega arith

line_end : length (ascii "\n") ≤ 1
unfolding ascii
line_end = omega arith

pub counts_short : (steps checks : ℕ) → steps < 2 ^ 64 → checks < 2 ^ 64 → length (counts_line steps checks) ≤ 55
unfolding counts_line ascii
counts_short steps checks h k =
    let first = both_short (ascii "steps ") (decimal steps) 6 20 (omega arith) (twenty_digits steps h) in
    let second = both_short (ascii "steps " ++ decimal steps) (ascii " checks ") 26 8 first (omega arith) in
    let third = both_short (ascii "steps " ++ decimal steps ++ ascii " checks ") (decimal checks) 34 20 second (twenty_digits checks k) in
    both_short (ascii "steps " ++ decimal steps ++ ascii " checks " ++ decimal checks) (ascii "\n") 54 1 third line_end

pub refused_short : (refusal : ℕ) → refusal < 2 ^ 64 → length (refused_line refusal) ≤ 29
unfolding refused_line ascii
refused_short refusal h =
    both_short (ascii "refused " ++ decimal refusal) (ascii "\n") 28 1
    (both_short (ascii "refused ") (decimal refusal) 8 20 (omega arith) (twenty_digits refusal h)) line_end

line_short : (i value : ℕ) → i < 100 → value < 100 → length (plan_line i value) ≤ 6
unfolding plan_line ascii
line_short i value h k =
    let first = both_short (decimal i) (ascii " ") 2 1 (two_digits i h) (omega arith) in
    let second = both_short (decimal i ++ ascii " ") (decimal value) 3 2 first (two_digits value k) in
    both_short (decimal i ++ ascii " " ++ decimal value) (ascii "\n") 5 1 second line_end

plan_short : (value : ℕ → ℕ) (n : ℕ) → ((i : ℕ) → value i < 100) → n ≤ 32 → length (plan_of n value) ≤ n * 6
plan_short value zero k h = rw (each_none (λ i. plan_line i (value i))) (omega arith)
plan_short value (suc n) k h =
    rw (each_more (λ i. plan_line i (value i)) n)
    (let both = both_short (plan_of n value) (plan_line n (value n)) (n * 6) 6 (plan_short value n k (omega (arith, h)))
    (line_short n (value n) (omega (arith, h)) (k n)) in
    omega (arith, both))

pub plan_room : (value : ℕ → ℕ) (n : ℕ) → ((i : ℕ) → value i < 100) → n ≤ 32 → length (plan_of n value) ≤ 400
plan_room value n k h = let short = plan_short value n k h in omega (arith, short, h)

pub lowest_small : (m : ℕ) → lowest m < 100
lowest_small m = omega (arith, trailing_le 16 m)
