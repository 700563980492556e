-- What opening places: the problem with nothing instantiated in slot 0 of zeros, unless a domain is empty.
-- Assumes nothing.
use mathlib.Core.Path.{◌≡◌, refl, ap, ◌∙◌}
use mathlib.Core.Bool.{Bool, true, false, cond}
use mathlib.Core.List.{List, [], ◌∷◌, ◌++◌}
use Prim.Native.Nat.{ℕ, ◌+◌, ◌-◌, ◌*◌, ◌≤◌, ◌<◌}
use native.Mathlib.Omega.{arith}
use native.Mathlib.Nat.{mul-le-mul_right, zero-mul}
use lib.ListN.{length, get_or, take, replicate, get_or-append}
use lib.Seq.{take-length}
use lib.Dec.{eqb}
use Rattle.splits.specs.Subproblems.{empty}
use Rattle.problem.specs.Lists.{some, splice}
use Rattle.splits.specs.declared.subproblem.Subproblem.{Subproblem}
use Rattle.problem.proofs.Tests.{some_same}
use Rattle.search.specs.Agenda.{holding, slot_words, stack_words, agenda_of, slots_in}
use Rattle.search.specs.Calls.{opening}
use Rattle.search.specs.Loops.Slots.{SlotIn}
use Rattle.search.specs.Loops.Ends.{Openable}
use Rattle.search.proofs.Encoding.{agenda_push}

module _ (n : ℕ) (domains agenda : List ℕ) (o : Openable n domains agenda) where
  -- The problem has an empty domain if the words have.
  problem_empty : empty n (holding n domains 0) ≡ some n (λ i. eqb (get_or domains i 0) 0)
  unfolding empty holding
  problem_empty = some_same _ _ n (λ i l. ap (λ (m : ℕ). eqb m 0) (at i l))
    where
      at : (i : ℕ) → i < n → get_or (take n domains ++ replicate (32 - n) 0) i 0 ≡ get_or domains i 0
      at i l =
          let all : take n domains ≡ domains = rw (← o.named) (take-length domains) in
          rw all (get_or-append domains (replicate (32 - n) 0) 0 i (omega (arith, o.named)))

  -- There is a slot for it.
  pub first_slot : (words : ℕ) → words ≡ length agenda → SlotIn n 0 words
  first_slot words e =
      let up : 1 * (n + 2) ≤ slots_in n (length agenda) * (n + 2) = mul-le-mul_right (n + 2) o.some in
      record { few = o.few; within = rw (e, o.whole) (omega arith) }

  module _ (P : Subproblem) (made : P ≡ holding n domains 0) (b : Bool) (tested : b ≡ empty n P) (cleared : List ℕ) (zeros : cleared ≡ replicate (length agenda) 0) where
    -- What opening places, by the test.
    opening_is : opening n domains ≡ cond b [] (P ∷ [])
    unfolding opening
    opening_is = rw (tested, made, problem_empty) refl

    -- A domain is empty.
    pub opens_none : b ≡ true → (0 ≡ length (opening n domains)) × (cleared ≡ agenda_of n (length agenda) (opening n domains))
    unfolding agenda_of stack_words
    opens_none e =
        let none : opening n domains ≡ [] = opening_is ∙ rw e refl in
        let all : length agenda - 0 ≡ length agenda = omega arith in
        rw (none, all) (refl, zeros)

    -- None is.
    pub opens_one : (after : List ℕ) → b ≡ false → after ≡ splice cleared (0 * (n + 2)) (slot_words n P) → length (slot_words n P) ≡ n + 2
        → (1 ≡ length (opening n domains)) × (after ≡ agenda_of n (length agenda) (opening n domains))
    unfolding agenda_of stack_words
    opens_one after e w l =
        let one : opening n domains ≡ P ∷ [] = opening_is ∙ rw e refl in
        let all : length agenda - 0 ≡ length agenda = omega arith in
        let none : cleared ≡ agenda_of n (length agenda) [] = zeros ∙ rw all refl in
        let slot : SlotIn n 0 (length agenda) = first_slot (length agenda) refl in
        let fits : 0 + length (slot_words n P) ≤ length agenda = omega (arith, slot.within) in
        rw one (refl, w ∙ rw (none, zero-mul) (agenda_push n (length agenda) 0 (P ∷ []) [] refl fits))
