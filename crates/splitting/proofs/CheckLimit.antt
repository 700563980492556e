-- The checks of one accepted request are at most 496: at most 31 other variables of at most 16 values. Assumes nothing.
use mathlib.Core.Path.{◌≡◌, refl, sym, ap, ◌∙◌}
use mathlib.Core.Bool.{Bool, true, false, not, cond, ◌&&◌, and-false}
use mathlib.Core.List.{List, [], ◌∷◌}
use Prim.Native.Nat.{ℕ, zero, suc, ◌+◌, ◌*◌, ◌≤◌, ◌<◌, zero-le}
use native.Mathlib.Omega.{arith}
use native.Mathlib.Nat.{le_refl, le_trans, mul-suc, eq-or-lt_of_le, le_of_suc-le-suc}
use mathlib.Core.Logic.{⊎_elim}
use lib.Count.{ones-le}
use lib.ListN.{length, length-append}
use lib.Dec.{eqb}
use borrow.Author.Tests.{eq-eqb}
use Rattle.problem.specs.Masks.{bit, size}
use Rattle.problem.specs.Problem.{Problem}
use Rattle.problem.specs.Lists.{total, below, keep}
use Rattle.splits.specs.Subproblems.{domain}
use Rattle.splits.specs.Requests.{kind_of, variable_of, value_of}
use Rattle.splits.specs.Splits.{forbids, by_kind}
use Rattle.splits.specs.Checks.{checks, tried, values_in, others, looked_at}
use Rattle.splitting.specs.Promises.{Splits}
use Rattle.splits.specs.declared.subproblem.Subproblem.{Subproblem}
use Rattle.problem.proofs.mask.Masks.{part_lt}
use Rattle.splits.proofs.split.ByKind.{five}
use Rattle.splits.proofs.split.OneByOne.{variable_lt}
use Rattle.splits.proofs.checks.Looking.{keep_append}

-- a sum of n terms, each at most b
total_most : (b : ℕ) (f : ℕ → ℕ) (n : ℕ) → ((i : ℕ) → i < n → f i ≤ b) → total n f ≤ b * n
unfolding total
total_most b f zero most = zero-le
total_most b f (suc n) most = rw mul-suc (omega (arith, total_most b f n (λ i l. most i (omega arith)), most n (le_refl (suc n))))

-- the same with one of the terms missing
one_missing : (b x : ℕ) (f : ℕ → ℕ) → f x ≡ 0 → (n : ℕ) → x < n → ((i : ℕ) → i < n → f i ≤ b) → total n f + b ≤ b * n
unfolding total
one_missing b x f none zero h most = absurd (omega arith)
one_missing b x f none (suc n) h most =
    rw mul-suc
    (⊎_elim (λ e. omega (arith, total_most b f n (λ i l. most i (omega arith)), ap f (sym e) ∙ none))
    (λ l. omega (arith, one_missing b x f none n l (λ i m. most i (omega arith)), most n (le_refl (suc n)))) (eq-or-lt_of_le (le_of_suc-le-suc h)))

-- what is looked at is part of the list
pub looked_le : (f : ℕ → Bool) (l : List ℕ) → looked_at f l ≤ length l
unfolding looked_at
looked_le f [] = zero-le
looked_le f (i ∷ is) = go (f i) (looked_le f is)
  where
    go : (b : Bool) → looked_at f is ≤ length is → suc (cond b 0 (looked_at f is)) ≤ suc (length is)
    go true h = omega arith
    go false h = omega arith

-- how many of the numbers below n are kept
pub kept_count : (t : ℕ → Bool) (n : ℕ) → length (keep t (below n)) ≡ total n (λ i. cond (t i) 1 0)
unfolding below total keep
kept_count t zero = refl
kept_count t (suc n) = rw (keep_append t (below n) (n ∷ []), length-append, kept_count t n) (go (t n))
  where
    go : (b : Bool) → total n (λ i. cond (t i) 1 0) + length (cond b (n ∷ []) []) ≡ total n (λ i. cond (t i) 1 0) + cond b 1 0
    go true = refl
    go false = refl

module _ (p : Problem) (P : Subproblem) (x v : ℕ) (few : p.n ≤ 32) (below_n : x < p.n) where
  -- kinds 2 and 3
  values_most : ((i : ℕ) → i < p.n → size (domain P i) ≤ 16) → values_in (others x) p.n P ≤ 496
  unfolding values_in others
  values_most small =
      omega (
        arith,
        one_missing 16 x (λ i. cond (not (eqb i x)) (size (domain P i)) 0) (simp (eq-eqb x x refl)) p.n below_n
            (λ i l. at_most (not (eqb i x)) (small i l)),
      )
    where
      at_most : {m : ℕ} (b : Bool) → m ≤ 16 → cond b m 0 ≤ 16
      at_most true h = h
      at_most false h = zero-le

  -- kind 1
  tried_most : tried (others x) p.n p.allowed P x v ≤ 496
  unfolding tried others
  tried_most =
      omega (
        arith,
        looked_le (forbids p.allowed P x v) (keep counted (below p.n)),
        kept_count counted p.n,
        one_missing 1 x (λ i. cond (counted i) 1 0) (simp (eq-eqb x x refl, and-false)) p.n below_n (λ i l. at_most (counted i)),
      )
    where
      counted : ℕ → Bool
      counted i = eqb (bit P.marked i) 1 && not (eqb i x)

      at_most : (b : Bool) → cond b 1 0 ≤ 1
      at_most true = le_refl 1
      at_most false = zero-le

pub at_most_496 : (p : Problem) (P : Subproblem) (r : List ℕ) → Splits p P r → checks p.n p.allowed P r ≤ 496
unfolding checks
at_most_496 p P r s =
    five
    (λ k. kind_of r ≡ k → by_kind k (tried (others x) p.n p.allowed P x v) (values_in (others x) p.n P) (values_in (others x) p.n P) 0 0 0 ≤
    496)
    (kind_of r) s.accepted.not_7
    (λ e. tried_most p P x v s.proper.variables (ranged (omega arith) (omega arith)))
    (λ e. values_most p P x v s.proper.variables (ranged (omega arith) (omega arith)) small)
    (λ e. values_most p P x v s.proper.variables (ranged (omega arith) (omega arith)) small)
    (λ e. zero-le) (λ e. zero-le) refl
  where
    x : ℕ
    x = variable_of r

    v : ℕ
    v = value_of r

    ranged : 1 ≤ kind_of r → kind_of r ≤ 4 → x < p.n
    ranged = variable_lt p.n p.d P r s.accepted

    small : (i : ℕ) → i < p.n → size (domain P i) ≤ 16
    small i l =
        le_trans (ones-le p.d (domain P i) (part_lt p.d (domain P i) (p.domain i) (s.rules.part i l) (s.proper.domains i l)))
        s.proper.values
