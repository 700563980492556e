-- A refusal that is handed on.
use Rattle.std.specs.Prelude.{◌≡◌, ℕ, [], ◌∷◌, get_or, true, false, Result, Ok, Err, IsErrAnd, is_ok}
use mathlib.Core.Path.{refl, sym, ap, ◌∙◌}
use Rattle.problem.specs.declared.refusal.Refusal.{Refusal}
use Rattle.problem.specs.declared.refusal.Refusal.TheVariants.{Variables, Values, Lengths, Masks, OneWay, Search, Kind, Variable, Value, Targets, Steps, Room, Buffer, Blocks, Content}
use Rattle.problem.specs.Answers.{One}
use Rattle.problem.specs.Refused.{number_of, told, OneTold}
use Rattle.problem.specs.Tests.FirstChecks.{or_else}
use Rattle.problem.proofs.Tests.{true_false}
use Rattle.problem.proofs.first_checks.Parts.{else_first}
use Prim.Native.Nat.{◌<◌}
use native.Mathlib.Omega.{arith}

-- No refusal has the number 0.
pub never_0 : (refusal : Refusal) → number_of refusal ≡ 0 → ⊥
never_0 Variables h = omega arith
never_0 Values h = omega arith
never_0 Lengths h = omega arith
never_0 Masks h = omega arith
never_0 OneWay h = omega arith
never_0 Search h = omega arith
never_0 Kind h = omega arith
never_0 Variable h = omega arith
never_0 Value h = omega arith
never_0 Targets h = omega arith
never_0 Steps h = omega arith
never_0 Room h = omega arith
never_0 Buffer h = omega arith
never_0 Blocks h = omega arith
never_0 Content h = omega arith

-- The numbers end at 15.
pub number_small : (refusal : Refusal) → number_of refusal < 16
number_small Variables = omega arith
number_small Values = omega arith
number_small Lengths = omega arith
number_small Masks = omega arith
number_small OneWay = omega arith
number_small Search = omega arith
number_small Kind = omega arith
number_small Variable = omega arith
number_small Value = omega arith
number_small Targets = omega arith
number_small Steps = omega arith
number_small Room = omega arith
number_small Buffer = omega arith
number_small Blocks = omega arith
number_small Content = omega arith

-- the refusals in the order of their numbers
numbered : ℕ → Refusal
numbered k =
    get_or
    (Variables ∷ Variables ∷ Values ∷ Lengths ∷ Masks ∷ OneWay ∷ Search ∷ Kind ∷ Variable ∷ Value ∷ Targets ∷ Steps ∷ Room ∷ Buffer ∷ Blocks
    ∷ Content ∷ []) k Variables

numbered_is : (refusal : Refusal) → numbered (number_of refusal) ≡ refusal
unfolding numbered
numbered_is Variables = refl
numbered_is Values = refl
numbered_is Lengths = refl
numbered_is Masks = refl
numbered_is OneWay = refl
numbered_is Search = refl
numbered_is Kind = refl
numbered_is Variable = refl
numbered_is Value = refl
numbered_is Targets = refl
numbered_is Steps = refl
numbered_is Room = refl
numbered_is Buffer = refl
numbered_is Blocks = refl
numbered_is Content = refl

-- No two have one number.
pub number_once : (a b : Refusal) → number_of a ≡ number_of b → a ≡ b
number_once a b e = sym (numbered_is a) ∙ ap numbered e ∙ numbered_is b

-- Nor do two results of a check tell one.
pub told_once : (r s : Result Unit Refusal) → told r ≡ told s → r ≡ s
told_once (Ok a) (Ok b) e = refl
told_once (Ok a) (Err f) e = absurd (never_0 f (sym e))
told_once (Err f) (Ok b) e = absurd (never_0 f e)
told_once (Err f) (Err g) e = ap Err (number_once f g e)

-- So what leaves one number leaves one result.
pub one_told : {S : ℕ → Type 0} → One S → OneTold S
one_told one = (one, λ r s h k. told_once r s (one _ _ h k))

-- What `?` hands on is the refusal that it was told.
pub handed_err : {A : Type 0} (r : Result A Refusal) (refusal : Refusal) → IsErrAnd r (λ e. e ≡ refusal) → r ≡ Err refusal
handed_err (Ok a) refusal h = absurd h
handed_err (Err e) refusal h = ap Err h

pub handed : {A : Type 0} (r : Result A Refusal) (refusal : Refusal) → IsErrAnd r (λ e. e ≡ refusal) → told r ≡ number_of refusal
handed r refusal h = ap told (handed_err r refusal h)

pub handed_never : {A : Type 0} (r : Result A Refusal) (refusal : Refusal) → IsErrAnd r (λ e. e ≡ refusal) → told r ≡ 0 → ⊥
handed_never r refusal h z = never_0 refusal (sym (handed r refusal h) ∙ z)

-- Whether there is one.
pub told_ok : {A : Type 0} (r : Result A Refusal) → is_ok r ≡ true → told r ≡ 0
told_ok (Ok a) e = refl
told_ok (Err refusal) e = absurd (true_false (sym e))

pub told_err : {A : Type 0} (r : Result A Refusal) → is_ok r ≡ false → told r ≡ 0 → ⊥
told_err (Ok a) e z = true_false e
told_err (Err refusal) e z = never_0 refusal z

-- So the first of two is given that is one.
pub handed_first : {A : Type 0} (r : Result A Refusal) (refusal : Refusal) (a b : ℕ)
    → IsErrAnd r (λ e. e ≡ refusal) → number_of refusal ≡ a → told r ≡ or_else a b
handed_first r refusal a b h e = else_first _ a b (handed r refusal h ∙ e) (handed_never r refusal h)
