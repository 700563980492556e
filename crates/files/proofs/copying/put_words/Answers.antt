-- `copying::put_words` meets its contract.
use mathlib.Core.Path.{◌≡◌, sym, ap, ap₂, ◌∙◌}
use mathlib.Core.List.{List, ◌++◌, append-nil}
use Prim.Native.Nat.{ℕ}
use native.Mathlib.Omega.{arith}
use lib.ListN.{length, take, drop, length-take}
use lib.Seq.{take_all, drop-length}
use Rattle.files.proofs.copying.put_words.Goals as goal

-- A copy of all k words, with nothing after them.
copy_whole : (k : ℕ) (words out new : List ℕ) → new ≡ take k words → length words ≡ k → length out ≡ k → new ++ drop k out ≡ words
copy_whole k words out new e h l =
    ap₂ ◌++◌ (e ∙ take_all k words (omega arith)) (ap (λ (i : ℕ). drop i out) (sym l) ∙ drop-length out) ∙ append-nil words

pub copy_from_slice-requires : goal.copy_from_slice-requires
copy_from_slice-requires c = simp length-take (omega arith)

pub returns-then-words-eq16 : goal.returns-then-words-eq16
returns-then-words-eq16 c = copy_whole 16 _ _ _ c.copy_from_slice.ensures.after c.if-words-eq16.true (sym c.requires ∙ c.if-words-eq16.true)
