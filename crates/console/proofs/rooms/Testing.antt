-- What the tests of how many bytes there are say.
-- Assumes nothing.
use mathlib.Core.Path.{◌≡◌, sym, ◌∙◌}
use mathlib.Core.Bool.{Bool, true, false, not, ◌&&◌}
use mathlib.Core.List.{List}
use Prim.Native.Nat.{ℕ, ◌+◌, ◌*◌, ◌/◌, ◌%◌, ◌≤◌}
use native.Mathlib.Omega.{arith}
use native.Mathlib.Nat.{div-add-mod'}
use lib.ListN.{length}
use lib.Dec.{eqb, leb}
use borrow.Author.Tests.{not-true, not-false, leb-true, eqb-true}
use Rattle.problem.proofs.Tests.{and_left, and_right, true_false}
use Rattle.word_bytes.specs.Bytes.{Fits, words_of}
use Rattle.word_bytes.proofs.Words.{words_length}
use Rattle.word_bytes.proofs.Fitting.{all_true, true_all}
use Rattle.console.specs.Calls.{WholeProblem}
use Rattle.console.specs.Loops.Rooms.{room_for, few, whole_list, Room}
use Rattle.console.specs.Loops.Parts.{Listed, WholeList}
use Rattle.console.proofs.numbers.Unfit.{Unfit}

-- What has room fits.
pub room_then : {domains tables agenda : ℕ} (b : Bool) → b ≡ room_for domains tables agenda → not b ≡ false
    → Fits domains 32 × Fits tables 16384 × Fits agenda 17408
room_then {domains} {tables} {agenda} b is y = all_true domains tables agenda 32 16384 17408 (sym is ∙ not-false b y)

pub room_true : (domains tables agenda : List ℕ) (b : Bool) → b ≡ room_for (length domains) (length tables) (length agenda) → not b ≡ false
    → Room domains tables agenda 17408
room_true domains tables agenda b is y = let (f, g, h) = room_then b is y in record { of_domains = f; of_tables = g; of_agenda = h }

-- It is whole words.
pub room_whole : {domains tables agenda : List ℕ} {most : ℕ} → Room domains tables agenda most → WholeProblem domains tables agenda
room_whole h = record { of_domains = h.of_domains.even; of_tables = h.of_tables.even; of_agenda = h.of_agenda.even }

-- Whole words that have no room are more than the rules allow, or none; `agenda` is as many bytes of an agenda as are asked about.
pub room_false : (domains tables bytes : List ℕ) (agenda : ℕ) (b : Bool) → b ≡ room_for (length domains) (length tables) agenda → not b ≡ true
    → WholeProblem domains tables bytes → (Fits (length bytes) 17408 → Fits agenda 17408)
    → Unfit (length (words_of domains)) (length (words_of tables)) (length (words_of bytes))
room_false domains tables bytes agenda b is y w front f g h =
    true_false
    (sym (true_all (length domains) (length tables) agenda 32 16384 17408
    (record { even = w.of_domains; some = omega (arith, words_length domains); few = omega (arith, words_length domains, w.of_domains) })
    (record { even = w.of_tables; some = omega (arith, words_length tables); few = omega (arith, words_length tables, w.of_tables) })
    (front (record { even = w.of_agenda; some = omega (arith, words_length bytes); few = omega (arith, words_length bytes, w.of_agenda) })))
    ∙ sym is ∙ not-true b y)

-- A list of whole requests.
list_true : (n bytes : ℕ) → whole_list n bytes ≡ true → (n ≤ 32) × (bytes % (2 * (n + 3)) ≡ 0)
unfolding whole_list
list_true n bytes e = (
  leb-true n 32 (and_left (leb n 32) (eqb (bytes % (2 * (n + 3))) 0) e),
  eqb-true (bytes % (2 * (n + 3))) 0 (and_right (leb n 32) (eqb (bytes % (2 * (n + 3))) 0) e),
)

pub whole_then : (n bytes : ℕ) (b : Bool) → b ≡ whole_list n bytes → not b ≡ false → WholeList n bytes
whole_then n bytes b is y = list_true n bytes (sym is ∙ not-false b y)

pub listed_is : (n bytes : ℕ) → WholeList n bytes → Listed n bytes
listed_is n bytes (few, e) =
    record { few = few; requests = bytes / (2 * (n + 3)); whole = sym (div-add-mod' bytes (2 * (n + 3))) ∙ omega (arith, e) }

pub listed_then : (n bytes : ℕ) (b : Bool) → b ≡ whole_list n bytes → not b ≡ false → Listed n bytes
listed_then n bytes b is y = listed_is n bytes (whole_then n bytes b is y)

pub listed_even : (n bytes : ℕ) → Listed n bytes → bytes % 2 ≡ 0
listed_even n bytes h = omega (arith, h.whole)

-- What is few is short.
pub few_short : {agenda requests most : ℕ} {b : Bool} → b ≡ few agenda requests → b ≡ true → Fits agenda most
    → Fits agenda 8704 × (requests ≤ 1120)
unfolding few
few_short {agenda} {requests} is y h =
    let both : (leb agenda 17408 && leb requests 1120) ≡ true = sym is ∙ y in (
      record { even = h.even; some = h.some; few = leb-true agenda 17408 (and_left (leb agenda 17408) (leb requests 1120) both) },
      leb-true requests 1120 (and_right (leb agenda 17408) (leb requests 1120) both),
    )
