-- One turn of the loop that gathers the smallest values of a mask. Assumes nothing.
use mathlib.Core.Path.{◌≡◌, sym, ap, ◌∙◌}
use Prim.Native.Nat.{ℕ, ◌+◌, ◌-◌, ◌^◌, ◌<◌}
use native.Mathlib.Omega.{arith}
use native.Mathlib.Numerals.{add-one}
use native.Mathlib.Nat.{le_of_lt}
use lib.Bits.{bit_and, bit_or, or_disjoint}
use Rattle.problem.specs.Masks.{bit, ◌∈◌, single, minus, size, lowest_of, smallest_of}
use Rattle.problem.proofs.mask.Masks.{not_minus, part_lt, part_common, size_split, size_of_none, smallest_part, smallest_size, smallest_rest, trailing_member, common_single, bit_minus, bit_le, member_lt, minus_part}

module _ (w k m : ℕ) (word : m < 2 ^ w) (more : k < size m) where
  rest : ℕ
  rest = minus m (smallest_of w k m)

  left : bit_and m ((2 ^ w - 1) - smallest_of w k m) ≡ rest
  unfolding rest
  left = not_minus w m (smallest_of w k m) word (part_lt w (smallest_of w k m) m (smallest_part w k m word (le_of_lt more)) word)

  some_left : rest ≡ 0 → ⊥
  unfolding rest
  some_left e =
      let split : size (smallest_of w k m) + size rest ≡ size m = ap (λ (x : ℕ). size x + size rest)
      (sym (part_common (smallest_of w k m) m (smallest_part w k m word (le_of_lt more)))) ∙ size_split m (smallest_of w k m) in
      let none : size rest ≡ 0 = ap size e ∙ size_of_none in
      let kept : size (smallest_of w k m) ≡ k = smallest_size w k m word (le_of_lt more) in
      omega arith

  next : lowest_of w rest ∈ rest
  unfolding rest
  next = trailing_member w rest (part_lt w rest m (minus_part m (smallest_of w k m)) word) some_left

  -- the next value is one of the w
  next_lt : lowest_of w (bit_and m ((2 ^ w - 1) - smallest_of w k m)) < w
  unfolding rest
  next_lt = rw left (member_lt w rest (lowest_of w rest) (part_lt w rest m (minus_part m (smallest_of w k m)) word) next)

  -- the k smallest with the next are the k + 1 smallest
  next_kept : bit_or (smallest_of w k m) (single (lowest_of w (bit_and m ((2 ^ w - 1) - smallest_of w k m)))) ≡ smallest_of w (k + 1) m
  unfolding rest smallest_of
  next_kept =
      let apart : bit (smallest_of w k m) (lowest_of w rest) ≡ 0 = omega (arith, bit_minus m (smallest_of w k m) (lowest_of w rest), next, bit_le m (lowest_of w rest)) in
      rw (left, add-one, smallest_rest w k m word (le_of_lt more))
      (or_disjoint (smallest_of w k m) (single (lowest_of w rest)) (common_single (smallest_of w k m) (lowest_of w rest) apart))

  -- the same in the code's own words: `l` is the next value and `b` its mask
  pub turn_lt : (half l : ℕ) → half ≡ smallest_of w k m → l ≡ lowest_of w (bit_and m ((2 ^ w - 1) - half)) → l < w
  turn_lt half l e h = rw (h, e) next_lt

  pub turn_kept : (half l b : ℕ) → half ≡ smallest_of w k m → l ≡ lowest_of w (bit_and m ((2 ^ w - 1) - half)) → b ≡ single l → bit_or half b ≡ smallest_of w (k + 1) m
  turn_kept half l b e h s = rw (s, h, e) next_kept
