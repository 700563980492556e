-- A stack in the words of an agenda: how many words it takes, and that what is read is as memory holds it.
-- Assumes nothing.
use mathlib.Core.Path.{◌≡◌, ◌∙◌}
use mathlib.Core.Logic.{⊎_elim}
use mathlib.Core.List.Memᴰ
use mathlib.Core.List.{List, Memᴰ, [], ◌∷◌}
use Prim.Native.Nat.{ℕ, zero, suc, ◌+◌, ◌-◌, ◌*◌, ◌^◌, ◌≤◌, ◌<◌}
use native.Mathlib.Omega.{arith}
use native.Mathlib.Nat.{suc-mul, mul-div_cancel}
use lib.ListN.{length, get_or, take, length-append, length-take, length-replicate, get_or-eq_default}
use lib.Seq.{length-take-le}
use Rattle.splits.specs.declared.subproblem.Subproblem.{Subproblem}
use Rattle.search.specs.Agenda.{holding, Shape, slot_words, subproblem_of, slot_at, slots_in, stack_of, stack_words}
use Rattle.search.proofs.Encoding.{slot_long, part_small, length_stack}
use Rattle.blocks.proofs.Lists.{padded_at}

-- Whole slots are as many as they are.
pub slots_in_lem : (n slots : ℕ) → slots_in n (slots * (n + 2)) ≡ slots
slots_in_lem n slots = mul-div_cancel slots (omega arith)

-- A stack takes at most so many slots.
pub stack_most : (n : ℕ) (S : List Subproblem) → length (stack_words n S) ≤ length S * (n + 2)
unfolding stack_words slot_words
stack_most n [] = omega arith
stack_most n (P ∷ S) = simp (length-append, length-take) (omega (arith, stack_most n S))

-- One as memory holds it takes so many.
pub shape_length : (n : ℕ) → n ≤ 32 → (S : List Subproblem) → ((P : Subproblem) → Memᴰ P S → Shape n 16 P)
    → length (stack_words n S) ≡ length S * (n + 2)
shape_length n few S h = length_stack n S (λ P m. omega (arith, (h P m).long))

module _ (n : ℕ) (ws : List ℕ) (words : length ws ≡ n + 2) (small : (k : ℕ) → get_or ws k 0 < 2 ^ 16) where
  -- What a slot holds is as memory holds it.
  pub slot_shape : n ≤ 32 → Shape n 16 (subproblem_of n ws)
  unfolding subproblem_of holding
  slot_shape few =
      let size : length (take n ws) ≡ n = length-take-le n ws (omega arith) in
      record {
        long = simp (length-append, length-take, length-replicate) (omega arith);
        past = λ i l. padded_at (take n ws) (32 - n) i ∙ out i l size;
        marks = omega (arith, small n, small (n + 1));
        masks = λ i. rw (padded_at (take n ws) (32 - n) i) (part_small n 0 ws small i);
      }
    where
      out : (i : ℕ) → n ≤ i → length (take n ws) ≡ n → get_or (take n ws) i 0 ≡ 0
      out i l e = get_or-eq_default (take n ws) 0 (omega arith)

module _ (n : ℕ) (few : n ≤ 32) (ws : List ℕ) (small : (k : ℕ) → get_or ws k 0 < 2 ^ 16) where
  -- So is each subproblem of a stack that was read.
  pub of_shape : (m : ℕ) → m * (n + 2) ≤ length ws → (P : Subproblem) → Memᴰ P (stack_of n ws m) → Shape n 16 P
  unfolding stack_of slot_at
  of_shape zero l P x = absurd (Memᴰ.not-nil x)
  of_shape (suc m) l P x =
      let slot : length (slot_at n ws m) ≡ n + 2 = slot_long n m ws (record { few = few; within = omega (arith, suc-mul m (n + 2)) }) in
      ⊎_elim
      (λ (e : P ≡ subproblem_of n (slot_at n ws m)). rw e (slot_shape n (slot_at n ws m) slot (part_small (n + 2) (m * (n + 2)) ws small) few))
      (λ (y : Memᴰ P (stack_of n ws m)). of_shape m (omega (arith, suc-mul m (n + 2))) P y) (Memᴰ.cases_cons x)
