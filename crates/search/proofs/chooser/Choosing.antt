-- The chooser's variable is one of the n, its value one of the d, and its request is the rule's of a stack.
-- Assumes nothing.
use mathlib.Core.Path.{◌≡◌, refl, sym, ◌∙◌}
use mathlib.Core.Logic.{◌⊎◌, inl, inr, ⊎_elim}
use mathlib.Core.Bool.{Bool, true, false, cond, ◌&&◌, ◌||◌}
use mathlib.Core.List.{List, [], ◌∷◌, ◌++◌}
use Prim.Native.Nat.{ℕ, zero, suc, ◌-◌, ◌^◌, ◌≤◌, ◌<◌}
use native.Mathlib.Omega.{arith}
use native.Mathlib.Nat.{lt_of_lt_of_le, le_refl}
use lib.ListN.{length, length-append}
use lib.Pow.{pow_mono}
use lib.Dec.{eqb, ltb}
use borrow.Author.Tests.{eq-eqb, eqb-false}
use Rattle.problem.specs.Masks.{bit, size, lowest}
use Rattle.problem.specs.Problem.{table_of, problem_of}
use Rattle.splits.specs.Subproblems.{domain, empty, all_instantiated}
use Rattle.problem.specs.Lists.{every}
use Rattle.splits.specs.Splits.{precluded, pieces}
use Rattle.splits.specs.declared.subproblem.Subproblem.{Subproblem}
use Rattle.problem.proofs.mask.Masks.{bit_le, lowest_member, member_lt}
use Rattle.problem.proofs.Tests.{true_false}
use Rattle.problem.specs.Ranges.{Sized}
use Rattle.search.specs.Slots.{slots}
use Rattle.searches.specs.Machines.{split_top}
use Rattle.searches.specs.Chooser.{fewest_of, fewest, request, chosen_of, chosen}
use Rattle.search.specs.Loops.Kept.{Regular}
use Rattle.search.specs.Loops.Choices.{kind_for, chosen_for}
use Rattle.search.proofs.step.Stepping.{room_shift}

-- Either of two numbers below n.
under : (b : Bool) (x y n : ℕ) → x < n → y < n → cond b x y < n
under true x y n h k = h
under false x y n h k = k

-- Of the first i variables one is found, unless all are instantiated.
found : (n : ℕ) (P : Subproblem) (i : ℕ) → i ≤ n → (fewest_of n P i < n) ⊎ ((fewest_of n P i ≡ n) × (every i (λ j. eqb (bit P.marked j) 1) ≡ true))
unfolding fewest_of every
found n P zero h = inr (refl, refl)
found n P (suc i) h = go (eqb (bit P.marked i) 0) refl (found n P i (omega arith))
  where
    go : (b : Bool) → eqb (bit P.marked i) 0 ≡ b
        → (fewest_of n P i < n) ⊎ ((fewest_of n P i ≡ n) × (every i (λ j. eqb (bit P.marked j) 1) ≡ true))
        → (fewest_of n P (suc i) < n) ⊎ ((fewest_of n P (suc i) ≡ n) × (every (suc i) (λ j. eqb (bit P.marked j) 1) ≡ true))
    go b e (inl f) =
        inl
        (under (eqb (bit P.marked i) 0 && (eqb (fewest_of n P i) n || ltb (size (domain P i)) (size (domain P (fewest_of n P i))))) i (fewest_of n P i)
        n h f)
    go true e (inr (q, a)) = inl (rw (e, eq-eqb (fewest_of n P i) n q) (omega arith))
    go false e (inr (q, a)) =
        inr (rw e q, rw a (eq-eqb (bit P.marked i) 1 (omega (arith, bit_le P.marked i, eqb-false (bit P.marked i) 0 e))))

-- The variable is one of the n, where not all are instantiated.
pub variable_below : (n : ℕ) (P : Subproblem) → all_instantiated n P ≡ false → fewest n P < n
unfolding all_instantiated
variable_below n P h = ⊎_elim (λ (l : fewest_of n P n < n). l) (λ r. absurd (true_false (sym r.1 ∙ h))) (found n P n (le_refl n))

-- The value is one of the d.
pub value_below : (n d : ℕ) (t : List ℕ) (P : Subproblem) (V' : ℕ) → Sized n d t → Regular n d P → V' < n → lowest (domain P V') < d
value_below n d t P V' fit reg h =
    let small : domain P V' < 2 ^ d = reg.shape.masks V' in
    member_lt d (domain P V') (lowest (domain P V')) small
    (lowest_member (domain P V') (lt_of_lt_of_le small (pow_mono fit.small)) (reg.filled V' h))

-- It is the rule's, of a stack with P on top.
pub chosen_is : (n d : ℕ) (t : List ℕ) (room : ℕ) (P : Subproblem) (S : List Subproblem) → length S ≤ room
    → chosen_for n d t P (room - length S) ≡ chosen (problem_of n d [] t) (slots room) (P ∷ S)
unfolding chosen_for kind_for chosen chosen_of split_top
chosen_is n d t room P S h =
    let V' : ℕ = fewest n P in
    let v : ℕ = lowest (domain P (fewest n P)) in
    let l : List Subproblem = pieces n (table_of n d t) P (request 3 V' v) in
    let same : ltb (room - length S) (length l) ≡ ltb room (length (l ++ S)) = rw length-append (room_shift room (length S) (length l) h) in
    rw same (go (empty n (precluded n (table_of n d t) P V' v) || ltb room (length (l ++ S))) V' v)
  where
    go : (b : Bool) (V' v : ℕ) → request (cond b 2 3) V' v ≡ cond b (request 2 V' v) (request 3 V' v)
    go true V' v = refl
    go false V' v = refl
