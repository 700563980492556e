-- The parts of the first checks of a problem, put together from what the loops find.
-- Assumes nothing.
use mathlib.Core.Path.{◌≡◌, refl, sym, ◌∙◌}
use mathlib.Core.Bool.{Bool, true, false, not, cond, ◌&&◌, ◌||◌, and-false, or-true}
use mathlib.Core.List.{List}
use mathlib.Core.Logic.{◌⊎◌, inl, inr, ⊎_elim}
use Prim.Native.Nat.{ℕ, ◌*◌, ◌≤◌, ◌<◌}
use lib.ListN.{length}
use native.Mathlib.Omega.{arith}
use native.Mathlib.Nat.{lt_of_not-le}
use native.Mathlib.Decide.{ℕ_discrete, dec_lt}
use lib.Dec.{eqb, ltb}
use borrow.Author.Tests.{eq-eqb, ne_eqb, eqb-true, ltb-false, not-true, not-false}
use Rattle.problem.specs.Masks.{bit}
use Rattle.problem.specs.Problem.{Problem, table_of, problem_of}
use Rattle.problem.specs.Lists.{every}
use Rattle.problem.proofs.Tests.{and_left, and_right, or_left, or_right, or_cases, every_at, every_all, same_test}
use Rattle.problem.specs.Tests.FirstChecks.{refusal_of_numbers, masks_below, symmetric, refusal_of_problem, problem_sizes, or_else}
use Rattle.problem.specs.Ranges.{Fitting}
use Rattle.problem.specs.Loops.FirstTests.{domain_below, mask_below, pair_below, row_below, both_ways, value_both_ways, pair_both_ways, row_both_ways}

-- Every value of i and every value of j are allowed both ways or neither.
unfoldable pub SymmetricAt : Problem → ℕ → ℕ → Type 0
SymmetricAt p i j = (a b : ℕ) → a < p.d → b < p.d → bit (p.allowed i j a) b ≡ bit (p.allowed j i b) a

-- what the loop over the values of two variables finds
pub pair_symmetric : (p : Problem) (i j : ℕ) → pair_both_ways p.d p.allowed i j ≡ true → SymmetricAt p i j
unfolding pair_both_ways value_both_ways both_ways SymmetricAt
pair_symmetric p i j e a b h k =
    eqb-true (bit (p.allowed i j a) b) (bit (p.allowed j i b) a)
    (every_at (both_ways p.allowed i j a) p.d b k (every_at (value_both_ways p.d p.allowed i j) p.d a h e))

-- what it finds is all that is to be found
pub symmetric_pair : (p : Problem) (i j : ℕ) → SymmetricAt p i j → pair_both_ways p.d p.allowed i j ≡ true
unfolding pair_both_ways value_both_ways both_ways SymmetricAt
symmetric_pair p i j s =
    every_all (value_both_ways p.d p.allowed i j) p.d (λ a h. every_all (both_ways p.allowed i j a) p.d
    (λ b k. eq-eqb (bit (p.allowed i j a) b) (bit (p.allowed j i b) a) (s a b h k)))

-- what the definition says
pub symmetric_true : (p : Problem) → symmetric p ≡ true → (i j : ℕ) → i < p.n → j < p.n → (i ≡ j → ⊥) → SymmetricAt p i j
unfolding symmetric pair_both_ways value_both_ways both_ways
symmetric_true p e i j h k f =
    let test : ℕ → ℕ → Bool = λ x y. eqb x y || pair_both_ways p.d p.allowed x y in
    let row : every p.n (test i) ≡ true = every_at (λ x. every p.n (test x)) p.n i h e in
    let at : test i j ≡ true = every_at (test i) p.n j k row in
    pair_symmetric p i j (⊎_elim (λ s. absurd (f (eqb-true i j s))) (λ s. s) (or_cases (eqb i j) (pair_both_ways p.d p.allowed i j) at))

-- and nothing more
pub symmetric_is : (p : Problem) → ((i j : ℕ) → i < p.n → j < p.n → (i ≡ j → ⊥) → SymmetricAt p i j) → symmetric p ≡ true
unfolding symmetric pair_both_ways value_both_ways both_ways
symmetric_is p s =
    let test : ℕ → ℕ → Bool = λ x y. eqb x y || pair_both_ways p.d p.allowed x y in
    every_all (λ x. every p.n (test x)) p.n (λ i h. every_all (test i) p.n (λ j k. elim (ℕ_discrete i j) [
      | yes e ↦ simp (eq-eqb i j e)
      | no f ↦ simp (symmetric_pair p i j (s i j h k f), or-true)
    ]))

-- symmetry is the same from either side
turned : (p : Problem) (i j : ℕ) → SymmetricAt p i j → SymmetricAt p j i
unfolding SymmetricAt
turned p i j s a b h k = sym (s b a k h)

-- To look at each two variables once is to look at all.
pub both_ways_once : (p : Problem) → every p.n (row_both_ways p.d p.allowed) ≡ symmetric p
unfolding row_both_ways
both_ways_once p =
    same_test (every p.n (row_both_ways p.d p.allowed)) (symmetric p)
    (λ e. symmetric_is p (λ i j h k f. ⊎_elim
    (λ l. turned p j i
    (pair_symmetric p j i (every_at (pair_both_ways p.d p.allowed j) j i l (every_at (row_both_ways p.d p.allowed) p.n j k e))))
    (λ l. pair_symmetric p i j (every_at (pair_both_ways p.d p.allowed i) i j l (every_at (row_both_ways p.d p.allowed) p.n i h e)))
    (before i j f)))
    (λ e. every_all (row_both_ways p.d p.allowed) p.n (λ i h. every_all (pair_both_ways p.d p.allowed i) i
    (λ j l. symmetric_pair p i j (symmetric_true p e i j h (omega arith) (λ s. absurd (omega arith))))))
  where
    before : (i j : ℕ) → (i ≡ j → ⊥) → (i < j) ⊎ (j < i)
    before i j f = elim (dec_lt i j) [ yes l ↦ inl l | no l ↦ inr (lt_of_not-le (λ m. l (omega arith))) ]

module _ (n d : ℕ) (domains tables : List ℕ) where
  -- A mask of the domains has a bit at d or above.
  pub problem_domains : (b : Bool) → b ≡ every n (domain_below d domains) → not b ≡ true → 4 ≡ refusal_of_problem (problem_of n d domains tables)
  unfolding refusal_of_problem masks_below domain_below
  problem_domains b e y = rw (sym e ∙ not-true b y)

  -- One of the tables has.
  pub problem_tables : (b : Bool) → b ≡ every n (row_below n d (table_of n d tables)) → not b ≡ true
      → 4 ≡ refusal_of_problem (problem_of n d domains tables)
  unfolding refusal_of_problem masks_below row_below pair_below mask_below
  problem_tables b e y = simp (sym e ∙ not-true b y, and-false)

  -- None has; the symmetry decides.
  pub problem_last : (b c s : Bool) → b ≡ every n (domain_below d domains) → not b ≡ false → c ≡ every n (row_below n d (table_of n d tables))
      → not c ≡ false → s ≡ every n (row_both_ways d (table_of n d tables)) → cond s 0 5 ≡ refusal_of_problem (problem_of n d domains tables)
  unfolding refusal_of_problem masks_below domain_below row_below pair_below mask_below
  problem_last b c s e y f z h =
      let once : s ≡ symmetric (problem_of n d domains tables) = h ∙ both_ways_once (problem_of n d domains tables) in
      simp (sym e ∙ not-false b y, sym f ∙ not-false c z, sym once)

-- one test more, in front or behind
pub and_turn : (a b : Bool) → (a && b) ≡ (b && a)
and_turn true true = refl
and_turn true false = refl
and_turn false true = refl
and_turn false false = refl

-- a refusal that is not given
pub given_not : (b : Bool) (k x : ℕ) → (k ≡ 0 → ⊥) → cond b k x ≡ 0 → (b ≡ false) × (x ≡ 0)
given_not true k x f e = absurd (f e)
given_not false k x f e = (refl, e)

-- a test that gives no refusal passed
pub given_if : (b : Bool) (k : ℕ) → (k ≡ 0 → ⊥) → cond b 0 k ≡ 0 → b ≡ true
given_if true k f e = refl
given_if false k f e = absurd (f e)

pub record Numbers (n d : ℕ) : Type 0 where
  pub some_variable : 1 ≤ n
  pub variables : n ≤ 32
  pub some_value : 1 ≤ d
  pub values : d ≤ 16

-- 1 and 2 are not given: n is 1 to 32 and d 1 to 16
pub numbers_pass : (n d : ℕ) → refusal_of_numbers n d ≡ 0 → Numbers n d
unfolding refusal_of_numbers
numbers_pass n d e =
    let one = given_not (ltb n 1 || ltb 32 n) 1 (cond (ltb d 1 || ltb 16 d) 2 0) (λ z. absurd (omega arith)) e in
    let two = given_not (ltb d 1 || ltb 16 d) 2 0 (λ z. absurd (omega arith)) one.1 in
    record {
      some_variable = ltb-false n 1 (or_left (ltb n 1) (ltb 32 n) one.0);
      variables = ltb-false 32 n (or_right (ltb n 1) (ltb 32 n) one.0);
      some_value = ltb-false d 1 (or_left (ltb d 1) (ltb 16 d) two.0);
      values = ltb-false 16 d (or_right (ltb d 1) (ltb 16 d) two.0);
    }

-- the first is given
pub else_first : (r a b : ℕ) → r ≡ a → (r ≡ 0 → ⊥) → r ≡ or_else a b
else_first r a b e f = e ∙ simp (ne_eqb a 0 (λ z. f (e ∙ z)))

-- the first passes, the second is given
pub else_rest : (r a b : ℕ) → a ≡ 0 → r ≡ b → r ≡ or_else a b
else_rest r a b e h = rw e h

-- where neither of two refuses, both are 0
pub else_pass : (a b : ℕ) → or_else a b ≡ 0 → (a ≡ 0) × (b ≡ 0)
else_pass a b e = elim (ℕ_discrete a 0) [
  | yes z ↦ (z, rw z at e)
  | no f ↦ absurd (f (rw (ne_eqb a 0 f) at e))
]

-- where the sizes fit, the problem's words do
pub problem_fits : (n d : ℕ) (domains tables : List ℕ) → problem_sizes n d (length domains) (length tables) ≡ 0 → Fitting n d domains tables
unfolding problem_sizes
problem_fits n d domains tables e =
    let both = else_pass (refusal_of_numbers n d) (cond (eqb (length domains) n && eqb (length tables) (n * n * d)) 0 3) e in
    let in_range = numbers_pass n d both.0 in
    let long = given_if (eqb (length domains) n && eqb (length tables) (n * n * d)) 3 (λ z. absurd (omega arith)) both.1 in
    record {
      sized = record {
        few = in_range.variables;
        small = in_range.values;
        words = eqb-true (length tables) (n * n * d) (and_right (eqb (length domains) n) (eqb (length tables) (n * n * d)) long);
      };
      words = eqb-true (length domains) n (and_left (eqb (length domains) n) (eqb (length tables) (n * n * d)) long);
    }
