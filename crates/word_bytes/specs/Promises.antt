-- What is promised of words in bytes. Stated here, proved in proofs/Promises.antt.
use Rattle.std.specs.Prelude.{◌≡◌, true, ◌↔◌, List, ℕ}
use Rattle.problem.specs.Answers.{One}
use Rattle.problem.specs.Problem.{Words}
use Rattle.word_bytes.specs.Bytes.{Bytes, Whole, words_of, bytes_of, Fits, all_fit, zeros}
use Rattle.word_bytes.specs.Calls.{WordsOf, ThreeOf, Writes}
use Rattle.word_bytes.specs.declared.Three.{Three}

-- ---- words and bytes say each other

-- The bytes of words are whole words, bytes if the words have 16 bits, and say the words again.
abbrev pub WordsAgain : Type 0
WordsAgain = (words : List ℕ) → Whole (bytes_of words) × (Words words → Bytes (bytes_of words)) × (words_of (bytes_of words) ≡ words)

-- The words that whole words of bytes say have 16 bits, and their bytes are the bytes again.
abbrev pub BytesAgain : Type 0
BytesAgain = (bytes : List ℕ) → Whole bytes → Bytes bytes → Words (words_of bytes) × (bytes_of (words_of bytes) ≡ bytes)

-- The test of three slices finds that each fits, exactly.
abbrev pub AllFitIf : Type 0
AllFitIf = (a b c x y z : ℕ) → (all_fit a b c x y z ≡ true) ↔ (Fits a x × Fits b y × Fits c z)

-- ---- one answer

abbrev pub AllFitOne : Type 0
AllFitOne = (a b c x y z : ℕ) → One (λ r. r ≡ all_fit a b c x y z)

abbrev pub WordsOfOne : Type 0
WordsOfOne =
    (bytes words left left' : List ℕ) (k k' : ℕ) → WordsOf bytes words left k → WordsOf bytes words left' k' → (left ≡ left') × (k ≡ k')

abbrev pub ThreeOfOne : Type 0
ThreeOfOne =
    (a b c u u₁ u₂ v v₁ v₂ w w₁ w₂ : List ℕ) (r q : Three) → ThreeOf a b c u u₁ v v₁ w w₁ r → ThreeOf a b c u u₂ v v₂ w w₂ q
    → (u₁ ≡ u₂) × (v₁ ≡ v₂) × (w₁ ≡ w₂) × (r ≡ q)

abbrev pub BytesOfOne : Type 0
BytesOfOne = (words before : List ℕ) → One (Writes words before)

abbrev pub ZerosOne : Type 0
ZerosOne = (bytes : List ℕ) → One (λ r. r ≡ zeros bytes)
