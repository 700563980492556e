-- Slots with the same variables instantiated to the same values: where those of one agree, so do those of the other.
-- Assumes nothing.
use mathlib.Core.Path.{◌≡◌, refl, sym, ap, ◌∙◌}
use mathlib.Core.Bool.{Bool, true}
use mathlib.Core.List.{List}
use Prim.Native.Nat.{ℕ, ◌+◌, ◌-◌, ◌*◌, ◌≤◌, ◌<◌}
use native.Mathlib.Omega.{arith}
use native.Mathlib.Decide.{ℕ_discrete}
use lib.ListN.{length, get_or}
use lib.Dec.{eqb}
use borrow.Author.Tests.{ne_eqb}
use Rattle.problem.specs.Masks.{bit, minus}
use Rattle.problem.proofs.mask.Masks.{bit_le}
use Rattle.problem.specs.Problem.{Table, table_of, problem_of}
use Rattle.splits.specs.Subproblems.{domain}
use Rattle.problem.specs.Lists.{every}
use Rattle.splits.specs.declared.subproblem.Subproblem.{Subproblem}
use Rattle.problem.proofs.Tests.{every_at, every_all}
use Rattle.search.specs.Agenda.{holding, subproblem_of, slot_at}
use Rattle.search.specs.Loops.Slots.{SlotIn}
use Rattle.search.specs.Loops.FirstTests.{Mirrored, held_at, beside_at, mark_obeys, SameMarks, AsBelow, TellsBelow, MarksKnown}
use Rattle.search.proofs.Encoding.{slot_long}
use Rattle.search.proofs.agenda.Slots.{slot_below}
use Rattle.search.proofs.rules.Obeying.{is_marked}
use Rattle.search.proofs.first_checks.FirstParts.{slot_obeys}
use Rattle.search.proofs.rules.Marked.{slot_domain, mark_none, slot_known}

-- ---- from mark to mark

-- The marked variables before i have the same words.
pub record AlikeTo (marked : ℕ) (slot other : List ℕ) (i : ℕ) : Type 0 where
  pub each : (j : ℕ) → j < i → bit marked j ≡ 1 → get_or slot j 0 ≡ get_or other j 0

-- All of them.
pub alike_end : (n i marked its : ℕ) (slot other : List ℕ) → length slot ≡ n + 2 → length other ≡ n + 2
    → marked ≡ get_or slot n 0 * 65536 + get_or slot (n + 1) 0 → its ≡ get_or other n 0 * 65536 + get_or other (n + 1) 0 → marked ≡ its
    → n ≤ i → AlikeTo marked slot other i → SameMarks n slot other
unfolding subproblem_of holding
alike_end n i marked its slot other long wide e f s past h = record {
  marked = sym e ∙ s ∙ f;
  domains =
      λ j l m. sym (slot_domain n slot j (omega arith) l) ∙ h.each j (omega arith) (ap (λ (x : ℕ). bit x j) e ∙ m) ∙ slot_domain n other j
      (omega arith) l;
}

-- ---- what they tell

-- A subproblem whose instantiated variables are as they must be: another with the same has them so.
module _ (allowed : Table) (n : ℕ) (P Q : Subproblem) (same : P.marked ≡ Q.marked) (alike : (i : ℕ) → i < n → bit P.marked i ≡ 1 → domain P i ≡ domain Q i) where
  held_alike : (j : ℕ) → j < n → held_at P j ≡ held_at Q j
  unfolding held_at
  held_alike j l = elim (ℕ_discrete (bit P.marked j) 1) [
    | yes m ↦ rw (alike j l m, same) refl
    | no m ↦ rw (← same, ne_eqb (bit P.marked j) 1 m) refl
  ]

  mark_alike : (i : ℕ) → i < n → mark_obeys n allowed Q i ≡ true → mark_obeys n allowed P i ≡ true
  unfolding mark_obeys beside_at
  mark_alike i h e = elim (ℕ_discrete (bit P.marked i) 1) [
    | yes m ↦
        let rest : every n (λ j. eqb (minus (held_at Q j) (beside_at allowed Q i j)) 0) ≡ true = rw (is_marked Q P.marked i same m) at e in
        rw (is_marked P P.marked i refl m)
        (every_all (λ j. eqb (minus (held_at P j) (beside_at allowed P i j)) 0) n
        (λ j l. rw (held_alike j l, alike i h m) (every_at (λ j. eqb (minus (held_at Q j) (beside_at allowed Q i j)) 0) n j l rest)))
    | no m ↦ mark_none n allowed P i (omega (arith, bit_le P.marked i))
  ]

  pub marks_alike : every n (mark_obeys n allowed Q) ≡ true → every n (mark_obeys n allowed P) ≡ true
  marks_alike e = every_all (mark_obeys n allowed P) n (λ i l. mark_alike i l (every_at (mark_obeys n allowed Q) n i l e))

-- Slot k, where the slots before it obey the rules.
known_below : (n d : ℕ) (domains tables agenda : List ℕ) (k : ℕ) → Mirrored n d domains tables → SlotIn n k (length agenda)
    → every k (slot_obeys (problem_of n d domains tables) n agenda) ≡ true → AsBelow n agenda k
    → every n (mark_obeys n (table_of n d tables) (subproblem_of n (slot_at n agenda k))) ≡ true
unfolding slot_obeys
known_below n d domains tables agenda k fits slot e h =
    let below = slot_below n (k - 1) (k + 1) (length agenda) slot.few (omega (arith, h.0)) slot.within in
    marks_alike (table_of n d tables) n (subproblem_of n (slot_at n agenda k)) (subproblem_of n (slot_at n agenda (k - 1))) h.1.marked h.1.domains
    (slot_known n d domains tables (slot_at n agenda (k - 1)) fits.fitting.words (slot_long n (k - 1) agenda below) fits.passed fits.fitting.sized.small
    (every_at (slot_obeys (problem_of n d domains tables) n agenda) k (k - 1) (omega (arith, h.0)) e))

-- As the code has the words of the slots.
module _ (n k : ℕ) (agenda words : List ℕ) (own : words ≡ slot_at n agenda k) where
  pub marks_known : (d : ℕ) (domains tables : List ℕ) (r : Bool) → Mirrored n d domains tables → SlotIn n k (length agenda)
      → every k (slot_obeys (problem_of n d domains tables) n agenda) ≡ true → TellsBelow n agenda k r → MarksKnown n d tables words r
  marks_known d domains tables r fits slot e t h = rw own (known_below n d domains tables agenda k fits slot e (t h))
