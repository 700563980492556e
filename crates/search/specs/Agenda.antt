-- The agenda: a stack of subproblems, top first, and the words that hold it.
use Rattle.std.specs.Prelude.{◌≡◌, List, [], ◌∷◌, ◌++◌, ℕ, zero, suc, ◌+◌, ◌-◌, ◌*◌, ◌/◌, ◌%◌, ◌^◌, ◌≤◌, ◌<◌, length, get_or, take, drop, replicate}
use Rattle.splits.specs.Subproblems.{domain}
use Rattle.splits.specs.declared.subproblem.Subproblem.{Subproblem}

-- The subproblem of n domains, its entries past them empty.
unfoldable pub holding : ℕ → List ℕ → ℕ → Subproblem
holding n domains marked = record { domains = take n domains ++ replicate (32 - n) 0; marked = marked }

-- A subproblem as a slot can hold it: 32 domains of d values, those from n on empty, and marks of 32 bits.
pub record Shape (n d : ℕ) (P : Subproblem) : Type 0 where
  pub long : length P.domains ≡ 32
  pub masks : (i : ℕ) → domain P i < 2 ^ d
  pub past : (i : ℕ) → n ≤ i → domain P i ≡ 0
  pub marks : P.marked < 2 ^ 32

-- A slot: n masks, then the instantiated set as two words, high first.
unfoldable pub slot_words : ℕ → Subproblem → List ℕ
slot_words n P = take n P.domains ++ (P.marked / 65536 ∷ P.marked % 65536 ∷ [])

-- The subproblem that the words of a slot hold.
unfoldable pub subproblem_of : ℕ → List ℕ → Subproblem
subproblem_of n words = holding n words (get_or words n 0 * 65536 + get_or words (n + 1) 0)

-- Slot k of an agenda, from 0, the bottom.
unfoldable pub slot_at : ℕ → List ℕ → ℕ → List ℕ
slot_at n agenda k = take (n + 2) (drop (k * (n + 2)) agenda)

-- The stack that the first m slots of an agenda hold: slot 0 is the bottom.
unfoldable pub stack_of : ℕ → List ℕ → ℕ → List Subproblem
stack_of n agenda zero = []
stack_of n agenda (suc m) = subproblem_of n (slot_at n agenda m) ∷ stack_of n agenda m

-- The words of a stack, the bottom first.
unfoldable pub stack_words : ℕ → List Subproblem → List ℕ
stack_words n [] = []
stack_words n (P ∷ S) = stack_words n S ++ slot_words n P

-- How many whole slots a number of words is.
abbrev pub slots_in : ℕ → ℕ → ℕ
slots_in n words = words / (n + 2)

-- An agenda of so many words that holds a stack: its words, then zeros in unused slots.
unfoldable pub agenda_of : ℕ → ℕ → List Subproblem → List ℕ
agenda_of n words S = stack_words n S ++ replicate (words - length (stack_words n S)) 0
