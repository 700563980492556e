-- Whether all bytes are 0, by the bits of all of them together.
-- Assumes nothing.
use mathlib.Core.Path.{◌≡◌, refl, ap, ◌∙◌}
use mathlib.Core.Bool.{Bool, true, ◌&&◌}
use mathlib.Core.List.{List}
use Prim.Native.Nat.{ℕ, ◌+◌, ◌≤◌}
use native.Mathlib.Omega.{arith}
use native.Mathlib.Numerals.{add-one}
use native.Mathlib.Decide.{dec_lt}
use lib.ListN.{length, get_or, get_or-eq_default}
use lib.Bits.{bit_or, or_zero_l, or_add_and, and_le_l, and_le_r}
use lib.Dec.{eqb}
use borrow.Author.Tests.{eqb-true, eq-eqb}
use Rattle.problem.specs.Lists.{every}
use Rattle.problem.proofs.Tests.{and_left, and_right, every_at, same_test}
use Rattle.word_bytes.specs.Bytes.{zeros}

-- The bits of two numbers together are none if both are 0.
or_none : (a b : ℕ) → eqb (bit_or a b) 0 ≡ (eqb a 0 && eqb b 0)
or_none a b =
    same_test (eqb (bit_or a b) 0) (eqb a 0 && eqb b 0)
    (λ e.
    let none : bit_or a b ≡ 0 = eqb-true (bit_or a b) 0 e in
    let sum = or_add_and a b in
    rw (eq-eqb a 0 (omega (arith, and_le_r a b)), eq-eqb b 0 (omega (arith, and_le_l a b))) refl)
    (λ e.
    let first : a ≡ 0 = eqb-true a 0 (and_left (eqb a 0) (eqb b 0) e) in
    let second : b ≡ 0 = eqb-true b 0 (and_right (eqb a 0) (eqb b 0) e) in
    eq-eqb (bit_or a b) 0 (rw first (or_zero_l b) ∙ second))

-- The bits tell whether the bytes before a place are 0.
pub record ZerosTo (bytes : List ℕ) (k bits : ℕ) : Type 0 where
  pub tell : eqb bits 0 ≡ every k (λ i. eqb (get_or bytes i 0) 0)

pub zeros_none : (bytes : List ℕ) → ZerosTo bytes 0 0
unfolding every
zeros_none bytes = record { tell = refl }

pub zeros_more : (bytes : List ℕ) (k bits : ℕ) → ZerosTo bytes k bits → ZerosTo bytes (k + 1) (bit_or bits (get_or bytes k 0))
unfolding every
zeros_more bytes k bits h = record { tell = rw add-one (or_none bits (get_or bytes k 0) ∙ ap (λ (b : Bool). b && eqb (get_or bytes k 0) 0) h.tell) }

pub zeros_all : (bytes : List ℕ) (k bits : ℕ) → k ≤ length bytes → length bytes ≤ k → ZerosTo bytes k bits → eqb bits 0 ≡ zeros bytes
unfolding zeros
zeros_all bytes k bits h l to =
    let end : k ≡ length bytes = omega arith in
    to.tell ∙ ap (λ (j : ℕ). every j (λ i. eqb (get_or bytes i 0) 0)) end

-- Then each is 0, past their end too.
pub zeros_each : (bytes : List ℕ) → zeros bytes ≡ true → (i : ℕ) → get_or bytes i 0 ≡ 0
unfolding zeros
zeros_each bytes e i = elim (dec_lt i (length bytes)) [
  | yes h ↦ eqb-true (get_or bytes i 0) 0 (every_at (λ k. eqb (get_or bytes k 0) 0) (length bytes) i h e)
  | no h ↦ let past : length bytes ≤ i = omega arith in get_or-eq_default bytes 0 past
]
