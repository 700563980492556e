-- What the methods of a subproblem write is what the rules say, at a variable of the 32 and past them.
-- Assumes nothing.
use mathlib.Core.Path.{◌≡◌, refl, sym, ap, ◌∙◌}
use mathlib.Core.Bool.{true, false, not, cond, ◌&&◌}
use mathlib.Core.List.{List}
use Prim.Native.Nat.{ℕ, zero, suc, ◌+◌, ◌-◌, ◌*◌, ◌%◌, ◌^◌, ◌≤◌, ◌<◌}
use native.Mathlib.Nat.{one-mul, mod-eq_of_lt, le_trans, le_refl, mod-one, mod-lt, lt_irrefl}
use native.Mathlib.Decide.{ℕ_discrete}
use lib.ListN.{length, get_or, take, set, get_or-eq_default}
use lib.Seq.{set_out, get_or-set_same, get_or-set_other}
use lib.Bits.{bit_and, bit_or}
use lib.Dec.{ltb, eqb}
use borrow.Author.Tests.{lt-ltb, eq-eqb, ne_eqb, eqb-true}
use Rattle.std.specs.List.{list_any}
use Rattle.std.proofs.lemmas.List.Folds.{list_any_more}
use Rattle.problem.specs.Masks.{bit, single, minus, common}
use Rattle.splits.specs.Subproblems.{domain, empty, all_instantiated}
use Rattle.problem.specs.Lists.{some, every, changed}
use Rattle.problem.specs.Problem.{Table}
use Rattle.splits.specs.Requests.{target_of}
use Rattle.problem.proofs.Tests.{some_at, same_test, and_left, and_right, every_not, some_same}
use Rattle.splits.specs.Splits.{instantiate, without, cut, cut_beside, at_targets, precluded}
use Rattle.splits.specs.declared.subproblem.Subproblem.{Subproblem}
use native.Mathlib.Numerals.{add-one, one-add}
use native.Mathlib.Omega.{arith}
use lib.Pow.{mod-pow-add, pow_pos}
use Rattle.problem.proofs.mask.Masks.{not_minus, single_lt, bit_le, bit_above, shifted}
use Rattle.splits.proofs.subproblem.Domains.{length_changed, changed_before}
use Rattle.problem.proofs.Changed.{changed_more}

pub domain_out : (P : Subproblem) (i : ℕ) → length P.domains ≡ 32 → 32 ≤ i → 0 ≡ domain P i
domain_out P i e h = sym (get_or-eq_default P.domains 0 (rw e h))

pub cut_out : (P : Subproblem) (i m : ℕ) → length P.domains ≡ 32 → 32 ≤ i → P ≡ cut P i m
unfolding cut
cut_out P i m e h = λ t. record { domains = sym (set_out P.domains i (common (domain P i) m) (rw e h)) t; marked = P.marked }

pub without_out : (P : Subproblem) (i m : ℕ) → length P.domains ≡ 32 → 32 ≤ i → P ≡ without P i m
unfolding without
without_out P i m e h = λ t. record { domains = sym (set_out P.domains i (minus (domain P i) m) (rw e h)) t; marked = P.marked }

-- what `& !` writes
pub without_in : (P : Subproblem) (i m : ℕ) → domain P i < 2 ^ 16 → m < 2 ^ 16
    → record { domains = set P.domains i (bit_and (domain P i) (65535 - m)); marked = P.marked } ≡ without P i m
unfolding without
without_in P i m h k = λ t. record { domains = set P.domains i (not_minus 16 (domain P i) m h k t); marked = P.marked }

-- what the two stores of `instantiate` write
pub instantiate_in : (P : Subproblem) (i v m : ℕ) → m ≡ single v → i < 32 → v < 16
    → record { domains = set P.domains i m; marked = bit_or P.marked (1 * 2 ^ i % 2 ^ 32) } ≡ cond (ltb i 32 && ltb v 16) (instantiate P i v) P
unfolding instantiate
instantiate_in P i v m e h k =
    let bit : 1 * 2 ^ i % 2 ^ 32 ≡ single i = simp one-mul (mod-eq_of_lt (single_lt 32 i h)) in
    simp (lt-ltb i 32 h, lt-ltb v 16 k) (λ t. record { domains = set P.domains i (e t); marked = bit_or P.marked (bit t) })

-- a search for an empty domain
pub empty_at : (n : ℕ) (P : Subproblem) (i : ℕ) → i < n → domain P i ≡ 0 → true ≡ empty n P
unfolding empty
empty_at n P i h e = sym (some_at (λ k. eqb (domain P k) 0) n i h (eq-eqb (domain P i) 0 e))

pub empty_over : (n : ℕ) (P : Subproblem) → length P.domains ≡ 32 → 32 < n → true ≡ empty n P
empty_over n P e h = empty_at n P 32 h (sym (domain_out P 32 e (le_refl 32)))

-- one of the first n is 0
empty_front : (P : Subproblem) (n : ℕ) → n ≤ length P.domains → list_any (λ (y : ℕ). eqb y 0) (take n P.domains) ≡ empty n P
unfolding empty some
empty_front P zero h = refl
empty_front P (suc n) h =
    rw (← add-one, list_any_more (λ (y : ℕ). eqb y 0) P.domains n 0 (omega arith), empty_front P n (omega arith))

pub empty_any : (P : Subproblem) (n : ℕ) → length P.domains ≡ 32 → n ≤ 32 → list_any (λ (y : ℕ). eqb y 0) (take n P.domains) ≡ empty n P
empty_any P n e h = empty_front P n (omega arith)

-- one variable more at its target
pub target_next : (P Q : Subproblem) (r : List ℕ) (i t : ℕ) → Q ≡ at_targets P r i → t ≡ target_of r i
    → record { domains = set Q.domains i t; marked = Q.marked } ≡ at_targets P r (i + 1)
unfolding at_targets
target_next P Q r i t e s =
    let more = changed_more i (λ k m. target_of r k) P.domains in rw (e, add-one, s) (λ x. record { domains = more x; marked = P.marked })

-- digit b above r makes all ones exactly where both are
digit : (b q r : ℕ) → b ≤ 1 → r < q → b * q + r ≡ q + q - 1 → (r ≡ q - 1) × (b ≡ 1)
digit zero q r h k e = absurd (omega arith)
digit (suc zero) q r h k e = (omega arith, refl)
digit (suc (suc b)) q r h k e = absurd (omega arith)

-- the n lowest digits are all set exactly where they make 2 ^ n - 1
low_all : (m n : ℕ) → eqb (m % 2 ^ n) (2 ^ n - 1) ≡ every n (λ i. eqb (bit m i) 1)
unfolding every
low_all m zero = rw mod-one refl
low_all m (suc n) =
    let cut : m % 2 ^ suc n ≡ bit m n * 2 ^ n + m % 2 ^ n = unfold bit in (ap (λ (k : ℕ). m % 2 ^ k) (sym (one-add n)) ∙ mod-pow-add m 1 n) in
    let two : 2 ^ suc n ≡ 2 ^ n + 2 ^ n = omega arith in
    rw (← low_all m n) (same_test _ _
    (λ e. let both = digit (bit m n) (2 ^ n) (m % 2 ^ n) (bit_le m n) (mod-lt m (pow_pos n)) (sym cut ∙ eqb-true _ _ e ∙ ap (λ (x : ℕ). x - 1) two) in
    rw (both.0, both.1, eq-eqb (2 ^ n - 1) (2 ^ n - 1) refl))
    (λ e.
    let ones = eqb-true (m % 2 ^ n) (2 ^ n - 1) (and_left _ (eqb (bit m n) 1) e) in
    let top = eqb-true (bit m n) 1 (and_right (eqb (m % 2 ^ n) (2 ^ n - 1)) _ e) in
    eq-eqb (m % 2 ^ suc n) (2 ^ suc n - 1) (rw (cut, top, ones, two) (omega (arith, pow_pos n)))))

-- the test that the code makes of the marks
pub marks_all : (P : Subproblem) (n : ℕ) → n ≤ 32 → eqb (P.marked % (1 * 2 ^ n % 2 ^ 64)) (1 * 2 ^ n % 2 ^ 64 - 1) ≡ all_instantiated n P
unfolding all_instantiated
marks_all P n h = rw (shifted n h) (low_all P.marked n)

-- past 32 variables not all are instantiated
pub marks_over : (P : Subproblem) (n : ℕ) → P.marked < 2 ^ 32 → 32 < n → false ≡ all_instantiated n P
unfolding all_instantiated
marks_over P n h k =
    sym (every_not (λ i. eqb (bit P.marked i) 1) n 32 k (simp (bit_above 32 P.marked 32 h (le_refl 32))))

-- the precluded piece is empty where some other variable has no value allowed beside v
pub precluded_empty : (n : ℕ) (allowed : Table) (P : Subproblem) (V' v : ℕ) → length P.domains ≡ 32 → V' < n → n ≤ 32
    → some n (λ i. not (eqb i V') && eqb (common (domain P i) (allowed V' i v)) 0) ≡ empty n (precluded n allowed P V' v)
unfolding empty precluded instantiate cut_beside
precluded_empty n allowed P V' v e h k = some_same _ _ n (λ i l. go i l (ℕ_discrete i V'))
  where
    besides' : ℕ → ℕ → ℕ
    besides' i m = cond (eqb i V') m (common m (allowed V' i v))

    go : (i : ℕ) → i < n → Dec (i ≡ V')
        → (not (eqb i V') && eqb (common (domain P i) (allowed V' i v)) 0) ≡ eqb (get_or (set (changed n besides' P.domains) V' (single v)) i 0) 0
    go i l (yes s) =
        let long : V' < length (changed n besides' P.domains) = rw (length_changed n besides' P.domains, e) (le_trans h k) in
        rw (s, eq-eqb V' V' refl, get_or-set_same (changed n besides' P.domains) V' (single v) 0 long)
        (sym (ne_eqb (single v) 0 (λ z. lt_irrefl 0 (rw z at (pow_pos v)))))
    go i l (no s) =
        let short : i < length P.domains = rw e (le_trans l k) in
        rw (
          ne_eqb i V' s,
          get_or-set_other (changed n besides' P.domains) V' i (single v) 0 s,
          changed_before n besides' P.domains i l short,
          ne_eqb i V' s,
        )
        refl
