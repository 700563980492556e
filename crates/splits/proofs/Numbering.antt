-- A kind and its number.
-- Assumes nothing.
use mathlib.Core.Path.{◌≡◌, refl, sym, ap, ◌∙◌}
use mathlib.Core.List.{[], ◌∷◌}
use lib.ListN.{get_or}
use mathlib.Core.Logic.{◌⊎◌, ⊎_elim}
use Prim.Native.Nat.{ℕ, ◌≤◌, ◌<◌}
use native.Mathlib.Omega.{arith}
use Rattle.splits.specs.declared.kind.Kind.{Kind}
use Rattle.splits.specs.declared.kind.Kind.TheVariants.{Backtracking, ForwardChecking, Idc, Halving, Extraction}
use Rattle.splits.specs.Kinds.{kind_number, Decodes}
use Rattle.std.specs.Prelude.{Result, Ok, Err}
use Rattle.problem.specs.declared.refusal.Refusal.{Refusal}

-- the kinds in the order of their numbers
numbered : ℕ → Kind
numbered k = get_or (Backtracking ∷ Backtracking ∷ ForwardChecking ∷ Idc ∷ Halving ∷ Extraction ∷ []) k Backtracking

numbered_is : (kind : Kind) → numbered (kind_number kind) ≡ kind
unfolding numbered
numbered_is Backtracking = refl
numbered_is ForwardChecking = refl
numbered_is Idc = refl
numbered_is Halving = refl
numbered_is Extraction = refl

-- No two have one number.
pub kind_once : (a b : Kind) → kind_number a ≡ kind_number b → a ≡ b
kind_once a b e = sym (numbered_is a) ∙ ap numbered e ∙ numbered_is b

-- That of a kind is 1 to 5.
kind_most : (kind : Kind) → (1 ≤ kind_number kind) × (kind_number kind ≤ 5)
kind_most Backtracking = (omega arith, omega arith)
kind_most ForwardChecking = (omega arith, omega arith)
kind_most Idc = (omega arith, omega arith)
kind_most Halving = (omega arith, omega arith)
kind_most Extraction = (omega arith, omega arith)

-- A word that names a kind is not refused.
named_fits : (word : ℕ) (kind : Kind) → kind_number kind ≡ word → ((word < 1) ⊎ (5 < word)) → ⊥
named_fits word kind named out =
    let few = kind_most kind in
    ⊎_elim (λ low. absurd (omega arith)) (λ high. absurd (omega arith)) out

-- A word decodes to one result.
pub decodes_once : (word : ℕ) (r s : Result Kind Refusal) → Decodes word r → Decodes word s → r ≡ s
decodes_once word (Ok a) (Ok b) h k = ap Ok (kind_once a b (h ∙ sym k))
decodes_once word (Ok a) (Err e) h (is, out) = absurd (named_fits word a h out)
decodes_once word (Err e) (Ok b) (is, out) k = absurd (named_fits word b k out)
decodes_once word (Err e) (Err f) (is, out) (its, past) = ap Err (is ∙ sym its)

-- The number of a kind that is named.
pub kind_is : {kind : Kind} {word : ℕ} (named : Kind) → kind_number kind ≡ word → kind ≡ named → kind_number named ≡ word
kind_is named e is = ap kind_number (sym is) ∙ e

-- Of a kind but halving that is not its number.
pub kind_not_4 : (kind : Kind) → (kind ≡ Halving → ⊥) → kind_number kind ≡ 4 → ⊥
kind_not_4 kind f e = f (kind_once kind Halving e)

pub kind_not_5 : (kind : Kind) → (kind ≡ Extraction → ⊥) → kind_number kind ≡ 5 → ⊥
kind_not_5 kind f e = f (kind_once kind Extraction e)

-- A kind but the last is 1 to 4.
pub kind_low : (kind : Kind) → (kind ≡ Extraction → ⊥) → (1 ≤ kind_number kind) × (kind_number kind ≤ 4)
kind_low kind f =
    let few = kind_most kind in
    let other = kind_not_5 kind f in
    (omega arith, omega arith)

-- Of those up to 3 the one that is not 1 or 2.
pub kind_third : (kind : Kind) → kind_number kind ≤ 3 → (kind ≡ Backtracking → ⊥) → (kind ≡ ForwardChecking → ⊥) → kind_number kind ≡ 3
kind_third Backtracking l f g = absurd (f refl)
kind_third ForwardChecking l f g = absurd (g refl)
kind_third Idc l f g = refl
kind_third Halving l f g = absurd (omega arith)
kind_third Extraction l f g = absurd (omega arith)
