-- 16 rows of 16 bits in four words of 64, and rows for columns in four steps.
use Rattle.std.specs.Prelude.{List, [], ◌∷◌, ◌++◌, ℕ, ◌+◌, ◌-◌, ◌*◌, ◌/◌, ◌%◌, ◌^◌}
use Rattle.std.specs.Int.Bits.{bit_and, bit_or, bit_xor}
use Rattle.problem.specs.declared.matrix.Matrix.{Matrix}

-- 16 rows, four to a word.
unfoldable pub four : (ℕ → ℕ) → ℕ → ℕ
four row k = row k + row (k + 1) * 65536 + row (k + 2) * 4294967296 + row (k + 3) * 281474976710656

unfoldable pub matrix_of : (ℕ → ℕ) → Matrix
matrix_of row = record { first = four row 0; second = four row 4; third = four row 8; fourth = four row 12 }

-- The digits of a mask in which a, so many places above, differs from b.
unfoldable pub unlike : ℕ → ℕ → ℕ → ℕ → ℕ
unlike a b mask places = bit_and (bit_xor (a / 2 ^ places) b) mask

-- Bits of a where `keep` has one, elsewhere those of b from so many places below, or above.
unfoldable pub risen : ℕ → ℕ → ℕ → ℕ → ℕ
risen a b keep places = bit_or (bit_and a keep) (bit_and (b * 2 ^ places % 2 ^ 64) (2 ^ 64 - 1 - keep))

unfoldable pub sunk : ℕ → ℕ → ℕ → ℕ → ℕ
sunk a b keep places = bit_or (bit_and a keep) (bit_and (b / 2 ^ places) (2 ^ 64 - 1 - keep))

-- Rows for columns in four steps, each of which exchanges one binary digit of the row's number and of the column's: that of
-- weight 1 and of weight 2 within a word, of weight 4 and of weight 8 between words.
unfoldable pub by_one : ℕ → ℕ
by_one x = risen (sunk x x 18446556426588345685 15) x 12297923206033637375 15

unfoldable pub by_two : ℕ → ℕ
by_two x = risen (sunk x x 18446744070273577779 30) x 14757395259826634751 30

unfoldable pub within : Matrix → Matrix
within m = record { first = by_two (by_one m.first); second = by_two (by_one m.second); third = by_two (by_one m.third); fourth = by_two (by_one m.fourth) }

unfoldable pub by_four : Matrix → Matrix
by_four m = record {
  first = risen m.first m.second 1085102592571150095 4;
  second = sunk m.second m.first 17361641481138401520 4;
  third = risen m.third m.fourth 1085102592571150095 4;
  fourth = sunk m.fourth m.third 17361641481138401520 4;
}

unfoldable pub by_eight : Matrix → Matrix
by_eight m = record {
  first = risen m.first m.third 71777214294589695 8;
  second = risen m.second m.fourth 71777214294589695 8;
  third = sunk m.third m.first 18374966859414961920 8;
  fourth = sunk m.fourth m.second 18374966859414961920 8;
}

unfoldable pub columns : Matrix → Matrix
columns m = by_eight (by_four (within m))

-- The bits in which two differ, all rows together.
unfoldable pub difference : Matrix → Matrix → ℕ
difference m o =
    bit_or (bit_or (bit_xor m.first o.first) (bit_xor m.second o.second))
    (bit_or (bit_xor m.third o.third) (bit_xor m.fourth o.fourth))

-- 16 digits of a word from a place on, and all 16 rows.
unfoldable pub word_at : ℕ → ℕ → ℕ
word_at x places = x / 2 ^ places % 65536

unfoldable pub four_of : ℕ → List ℕ
four_of x = word_at x 0 ∷ word_at x 16 ∷ word_at x 32 ∷ word_at x 48 ∷ []

unfoldable pub rows_of : Matrix → List ℕ
rows_of m = four_of m.first ++ (four_of m.second ++ (four_of m.third ++ four_of m.fourth))
