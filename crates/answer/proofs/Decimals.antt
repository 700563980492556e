-- Decimal numbers: a number below 10 is a digit, another the number without its last digit and that digit; added to a text; how long they are.
-- Assumes nothing.
use native.Mathlib.Omega.{arith}
use mathlib.Core.Path.{◌≡◌, refl, sym, ap, subst, ◌∙◌}
use mathlib.Core.Bool.{Bool, true, false, cond}
use mathlib.Core.List.{[], ◌∷◌, ◌++◌}
use Prim.Native.Nat.{ℕ, zero, suc, ◌+◌, ◌*◌, ◌/◌, ◌%◌, ◌^◌, ◌≤◌, ◌<◌}
use lib.ListN.{length, length-append}
use lib.Dec.{ltb}
use borrow.Author.Tests.{lt-ltb, le-ltb}
use Rattle.answer.specs.Text.{decimal_of, decimal}
use Rattle.answer.specs.Loops.Writing.{Adds}
use Rattle.answer.specs.declared.text.Text.{Text}
use Rattle.answer.proofs.Writing.{adds_both, adds_same}

-- The number of digits that are foreseen does not matter where there are enough.
enough : (j k x : ℕ) → x ≤ j → x ≤ k → decimal_of j x ≡ decimal_of k x
unfolding decimal_of
enough zero zero x h h' = refl
enough zero (suc k) x h h' = let e : x ≡ 0 = omega (arith, h) in subst (λ y. decimal_of zero y ≡ decimal_of (suc k) y) (sym e) refl
enough (suc j) zero x h h' = let e : x ≡ 0 = omega (arith, h') in subst (λ y. decimal_of (suc j) y ≡ decimal_of zero y) (sym e) refl
enough (suc j) (suc k) x h h' =
    let q : x / 10 ≤ j = omega (arith, h) in
    let q' : x / 10 ≤ k = omega (arith, h') in
    ap (λ l. cond (ltb x 10) ((48 + x) ∷ []) (l ++ ((48 + x % 10) ∷ []))) (enough j k (x / 10) q q')

-- A digit.
pub decimal_digit : (x : ℕ) → x < 10 → decimal x ≡ (48 + x) ∷ []
unfolding decimal decimal_of
decimal_digit zero h = refl
decimal_digit (suc m) h = ap (λ b. cond b ((48 + suc m) ∷ []) (decimal_of m (suc m / 10) ++ ((48 + suc m % 10) ∷ []))) (lt-ltb (suc m) 10 h)

-- More digits.
pub decimal_more : (x : ℕ) → 10 ≤ x → decimal x ≡ decimal (x / 10) ++ ((48 + x % 10) ∷ [])
unfolding decimal decimal_of
decimal_more zero h = absurd (omega (arith, h))
decimal_more (suc m) h =
    let q : suc m / 10 ≤ m = omega (arith, h) in
    let r : suc m / 10 ≤ suc m / 10 = omega arith in
    ap (λ b. cond b ((48 + suc m) ∷ []) (decimal_of m (suc m / 10) ++ ((48 + suc m % 10) ∷ []))) (le-ltb (suc m) 10 h)
    ∙ ap (λ l. l ++ ((48 + suc m % 10) ∷ [])) (enough m (suc m / 10) (suc m / 10) q r)

-- The digits of a number, added to a text.
pub adds_digit : (a b : Text) (x byte : ℕ) → x < 10 → byte ≡ 48 + x → Adds a (byte ∷ []) b → Adds a (decimal x) b
adds_digit a b x byte h is added = adds_same a b (byte ∷ []) (decimal x) (ap (λ y. y ∷ []) is ∙ sym (decimal_digit x h)) added

pub adds_digits : (a b c : Text) (x byte : ℕ) → 10 ≤ x → byte ≡ 48 + x % 10 → Adds a (decimal (x / 10)) b → Adds b (byte ∷ []) c
    → Adds a (decimal x) c
adds_digits a b c x byte h is higher last =
    adds_same a c (decimal (x / 10) ++ (byte ∷ [])) (decimal x) (ap (λ y. decimal (x / 10) ++ (y ∷ [])) is ∙ sym (decimal_more x h))
    (adds_both a b c (decimal (x / 10)) (byte ∷ []) higher last)

-- Ten times ten, so often.
tens : ℕ → ℕ
tens zero = 10
tens (suc k) = 10 * tens k

-- A number below it has so many digits after the first.
digits_within : (k j x : ℕ) → x < tens k → length (decimal_of j x) ≤ suc k
unfolding decimal_of tens
digits_within k zero x h = omega arith
digits_within zero (suc j) x h =
    subst (λ b. length (cond b ((48 + x) ∷ []) (decimal_of j (x / 10) ++ ((48 + x % 10) ∷ []))) ≤ 1) (sym (lt-ltb x 10 h)) (omega arith)
digits_within (suc k) (suc j) x h = either (ltb x 10) (digits_within k j (x / 10) (let q : x / 10 < tens k = omega (arith, h) in q))
  where
    either : (b : Bool) → length (decimal_of j (x / 10)) ≤ suc k
        → length (cond b ((48 + x) ∷ []) (decimal_of j (x / 10) ++ ((48 + x % 10) ∷ []))) ≤ suc (suc k)
    either true i = omega arith
    either false i = let e = length-append (decimal_of j (x / 10)) ((48 + x % 10) ∷ []) in omega (arith, e, i)

pub two_digits : (x : ℕ) → x < 100 → length (decimal x) ≤ 2
unfolding decimal tens
two_digits x h = digits_within 1 x x h

pub twenty_digits : (x : ℕ) → x < 2 ^ 64 → length (decimal x) ≤ 20
unfolding decimal tens
twenty_digits x h = digits_within 19 x x (let e : 2 ^ 64 ≤ tens 19 = omega arith in omega (arith, h, e))
