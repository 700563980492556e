-- The tests of a call's numbers say what they test, and a place of the tables is inside them.
-- Assumes nothing.
use mathlib.Core.Path.{◌≡◌, refl, sym, ◌∙◌}
use mathlib.Core.Bool.{Bool, true, ◌&&◌, and-false}
use mathlib.Core.List.{List}
use Prim.Native.Nat.{ℕ, ◌+◌, ◌*◌, ◌≤◌, ◌<◌}
use native.Mathlib.Omega.{arith}
use native.Mathlib.Nat.{mul-le-mul}
use native.Mathlib.Decide.{dec_lt}
use lib.ListN.{length, get_or}
use lib.Arith.{digits_lt}
use lib.Dec.{leb, ltb, eqb}
use borrow.Author.Tests.{ne_eqb, leb-true, ltb-true, eqb-true, le-leb, lt-ltb, le-ltb, eq-eqb}
use Rattle.problem.proofs.Tests.{and_left, and_right}
use Rattle.problem.specs.Problem.{table_of}
use Rattle.problem.specs.Ranges.{sized, inside, Sized, Inside, Place}
use Rattle.problem.specs.Calls.{Allowed}

pub sized_true : (n d : ℕ) (t : List ℕ) → sized n d t ≡ true → Sized n d t
unfolding sized
sized_true n d t e =
    let both = and_left (leb n 32 && leb d 16) (eqb (length t) (n * n * d)) e in
    record {
      few = leb-true n 32 (and_left (leb n 32) (leb d 16) both);
      small = leb-true d 16 (and_right (leb n 32) (leb d 16) both);
      words = eqb-true (length t) (n * n * d) (and_right (leb n 32 && leb d 16) (eqb (length t) (n * n * d)) e);
    }

pub inside_true : (n d : ℕ) (t : List ℕ) (V' v : ℕ) → inside n d t V' v ≡ true → Inside n d t V' v
unfolding inside
inside_true n d t V' v e =
    let both = and_left (ltb V' n && ltb v d) (sized n d t) e in
    record {
      fit = sized_true n d t (and_right (ltb V' n && ltb v d) (sized n d t) e);
      a_variable = ltb-true V' n (and_left (ltb V' n) (ltb v d) both);
      a_value = ltb-true v d (and_right (ltb V' n) (ltb v d) both);
    }

pub inside_is : (n d : ℕ) (t : List ℕ) (V' v : ℕ) → Inside n d t V' v → inside n d t V' v ≡ true
unfolding inside sized
inside_is n d t V' v h =
    simp (
      lt-ltb V' n h.a_variable,
      lt-ltb v d h.a_value,
      le-leb n 32 h.fit.few,
      le-leb d 16 h.fit.small,
      eq-eqb (length t) (n * n * d) h.fit.words,
    )

-- the word of i, j and a is one of the n × n × d, and what is worked out on the way is small
pub record Within (n d i j a : ℕ) (t : List ℕ) : Type 0 where
  pub row : i * n ≤ 1024
  pub row_lt : i * n + j < n * n
  pub most : n * n ≤ 1024
  pub pair : i * n + j ≤ 1024
  pub masks : (i * n + j) * d ≤ 16384
  pub value : a < 16
  pub word : (i * n + j) * d + a < length t

pub in_table : (n d i j a : ℕ) (t : List ℕ) → Sized n d t → Place n d i j a → Within n d i j a t
in_table n d i j a t s p =
    let sq : n * n ≤ 32 * 32 = mul-le-mul s.few s.few in
    let at : i * n + j < n * n = digits_lt p.first p.second in
    let wd : (i * n + j) * d + a < n * n * d = digits_lt at p.third in
    let le : i * n + j ≤ 1024 = omega arith in
    let pr : (i * n + j) * d ≤ 1024 * 16 = mul-le-mul le s.small in
    record { row = omega arith; row_lt = at; most = sq; pair = le; masks = pr; value = omega (arith, p.third, s.small); word = omega (arith, s.words) }

-- The mask of a value is the word at its place, and of what is none of the d values there is none.
pub word_at : (n d : ℕ) (t : List ℕ) (i j a : ℕ) → a < d → table_of n d t i j a ≡ get_or t ((i * n + j) * d + a) 0
unfolding table_of
word_at n d t i j a h = rw (lt-ltb a d h) refl

pub word_none : (n d : ℕ) (t : List ℕ) (i j a : ℕ) → d ≤ a → table_of n d t i j a ≡ 0
unfolding table_of
word_none n d t i j a h = rw (le-ltb a d h) refl

-- what `allowed` gives, by its tests in order
module _ (n d : ℕ) (t : List ℕ) (i j a : ℕ) where
  module _ (b : Bool) (k : j < n) (e : b ≡ inside n d t i a) where
    module _ (f : b ≡ true) where
      pub given_inside : Inside n d t i a
      given_inside = inside_true n d t i a (sym e ∙ f)

      pub given_place : Place n d i j a
      given_place = record { first = given_inside.a_variable; second = k; third = given_inside.a_value }

      pub given_within : Within n d i j a t
      given_within = in_table n d i j a t given_inside.fit given_place

      pub given_word : (x : ℕ) → (i ≡ j → ⊥) → x ≡ get_or t ((i * n + j) * d + a) 0 → Allowed n d t i j a x
      given_word x s w = simp (lt-ltb j n k, sym e, f, ne_eqb i j s) (w ∙ sym (word_at n d t i j a given_inside.a_value))

  -- where they fit it is the table's mask
  pub allowed_is : (x : ℕ) → Inside n d t i a → j < n → (i ≡ j → ⊥) → Allowed n d t i j a x → x ≡ table_of n d t i j a
  allowed_is x h k s e = e ∙ simp (lt-ltb j n k, inside_is n d t i a h, ne_eqb i j s)

  -- so it is beside what is none of the d values
  pub allowed_any : (x : ℕ) → Sized n d t → i < n → j < n → (i ≡ j → ⊥) → Allowed n d t i j a x → x ≡ table_of n d t i j a
  unfolding inside
  allowed_any x h k l s e = elim (dec_lt a d) [
    | yes b ↦ allowed_is x (record { fit = h; a_variable = k; a_value = b }) l s e
    | no f ↦ let over : d ≤ a = omega arith in e ∙ simp (le-ltb a d over, and-false) (sym (word_none n d t i j a over))
  ]
