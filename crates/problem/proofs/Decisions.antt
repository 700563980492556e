-- Tests that decide a proposition or its contrary.
-- Assumes nothing.
use mathlib.Core.Path.{◌≡◌, refl, sym, ◌∙◌}
use mathlib.Core.Logic.{◌⊎◌, inl, inr, ⊎_elim, ◌↔◌}
use mathlib.Core.Bool.{Bool, true, false, not, ◌&&◌, ◌||◌}
use Prim.Native.Nat.{ℕ, zero, suc, ◌≤◌, ◌<◌}
use native.Mathlib.Omega.{arith}
use lib.Dec.{eqb, leb, ltb}
use borrow.Author.Tests.{ltb-true, ltb-false, leb-true, leb-false, eqb-true, eqb-false}
use Rattle.problem.specs.Lists.{every}
use Rattle.problem.proofs.Tests.{true_false, every_at}

-- ---- tests

-- The test b passes exactly where D holds.
pub record Decides (b : Bool) (D : Type 0) : Type 0 where
  pub holds : b ≡ true → D
  pub fails : b ≡ false → D → ⊥

-- The test b fails exactly where D holds.
pub record Refutes (b : Bool) (D : Type 0) : Type 0 where
  pub holds : b ≡ false → D
  pub fails : b ≡ true → D → ⊥

-- What follows and is followed is decided too.
pub refutes_iff : {b : Bool} {D E : Type 0} → (D → E) → (E → D) → Refutes b D → Refutes b E
refutes_iff f g s = record { holds = λ e. f (s.holds e); fails = λ e d. s.fails e (g d) }

-- a number is less, or one of two
pub decides_lt : (a b : ℕ) → Decides (ltb a b) (a < b)
decides_lt a b = record { holds = ltb-true a b; fails = λ e h. let l = ltb-false a b e in absurd (omega arith) }

-- one of two holds
pub decides_or : (a b : Bool) (A B : Type 0) → Decides a A → Decides b B → Decides (a || b) (A ⊎ B)
decides_or true b A B s t = record { holds = λ e. inl (s.holds refl); fails = λ e. absurd (true_false e) }
decides_or false b A B s t = record { holds = λ e. inr (t.holds e); fails = λ e. ⊎_elim (s.fails refl) (t.fails e) }

-- what the tests on numbers refute
pub refutes_lt : (a b : ℕ) → Refutes (ltb a b) (b ≤ a)
refutes_lt a b = record { holds = ltb-false a b; fails = λ e h. let l = ltb-true a b e in absurd (omega arith) }

-- that a number is at most another
pub refutes_le : (a b : ℕ) → Refutes (leb a b) (b < a)
refutes_le a b = record { holds = leb-false a b; fails = λ e h. let l = leb-true a b e in absurd (omega arith) }

-- that two are equal
pub refutes_eq : (a b : ℕ) → Refutes (eqb a b) (a ≡ b → ⊥)
refutes_eq a b = record { holds = eqb-false a b; fails = λ e h. h (eqb-true a b e) }

-- A test that says whether D holds refutes its contrary.
pub refutes_not : (b : Bool) (D : Type 0) → (b ≡ true → D) → (D → b ≡ true) → Refutes b (D → ⊥)
refutes_not b D f g = record { holds = λ e d. true_false (sym (g d) ∙ e); fails = λ e h. h (f e) }

-- One of two tests fails.
pub refutes_and : (a b : Bool) (A B : Type 0) → Refutes a A → Refutes b B → Refutes (a && b) (A ⊎ B)
refutes_and true b A B s t = record { holds = λ e. inr (t.holds e); fails = λ e. ⊎_elim (s.fails refl) (t.fails e) }
refutes_and false b A B s t = record { holds = λ e. inl (s.holds refl); fails = λ e. absurd (true_false (sym e)) }

-- Both of two tests fail.
pub refutes_or : (a b : Bool) (A B : Type 0) → Refutes a A → Refutes b B → Refutes (a || b) (A × B)
refutes_or true b A B s t = record { holds = λ e. absurd (true_false e); fails = λ e d. s.fails refl d.0 }
refutes_or false b A B s t = record { holds = λ e. (s.holds refl, t.holds e); fails = λ e d. t.fails e d.1 }

-- A test that does not pass at every number fails at one.
pub every_fails : (f : ℕ → Bool) (n : ℕ) → every n f ≡ false → (i : ℕ) × (i < n) × (f i ≡ false)
unfolding every
every_fails f zero e = absurd (true_false e)
every_fails f (suc n) e = go (every n f) (f n) (every_fails f n) refl e
  where
    go : (a b : Bool) → (a ≡ false → (i : ℕ) × (i < n) × (f i ≡ false)) → f n ≡ b → (a && b) ≡ false
        → (i : ℕ) × (i < suc n) × (f i ≡ false)
    go true b rest s x = (n, omega arith, s ∙ x)
    go false b rest s x = let r = rest refl in (r.0, omega arith, r.2)

-- A test at every number refutes that some number fails.
pub refutes_every : (f : ℕ → Bool) (D : ℕ → Type 0) (n : ℕ) → ((i : ℕ) → i < n → Refutes (f i) (D i))
    → Refutes (every n f) ((i : ℕ) × (i < n) × D i)
refutes_every f D n s = record {
  holds = λ e. let r = every_fails f n e in (r.0, r.1, (s r.0 r.1).holds r.2);
  fails = λ e d. (s d.0 d.1).fails (every_at f n d.0 d.1 e) d.2;
}

-- A test that gives its number where it passes, and one that does where it fails.
pub decided : {b : Bool} {D : Type 0} → Decides b D → (b ≡ true) ↔ D
decided {b} {D} s = go b s
  where
    go : (c : Bool) → Decides c D → (c ≡ true) ↔ D
    go true s = (λ e. s.holds refl, λ x. refl)
    go false s = (λ e. absurd (true_false (sym e)), λ x. absurd (s.fails refl x))

pub refuted : {b : Bool} {D : Type 0} → Refutes b D → (not b ≡ true) ↔ D
refuted {b} {D} s = go b s
  where
    go : (c : Bool) → Refutes c D → (not c ≡ true) ↔ D
    go true s = (λ e. absurd (true_false (sym e)), λ x. absurd (s.fails refl x))
    go false s = (λ e. s.holds refl, λ x. refl)
