-- The first checks level by level, as the loops of the code take them, and what the words lent must be for a level to read them.
use Rattle.std.specs.Prelude.{◌≡◌, Bool, true, cond, ◌||◌, List, ℕ, ◌+◌, ◌-◌, ◌≤◌, ◌<◌, length, get_or, eqb}
use Rattle.problem.specs.Masks.{bit, single, minus, lowest}
use Rattle.problem.specs.Problem.{Table, table_of, problem_of}
use Rattle.splits.specs.Subproblems.{domain}
use Rattle.problem.specs.Lists.{every}
use Rattle.problem.specs.Ranges.{Sized, Fitting}
use Rattle.splits.specs.declared.subproblem.Subproblem.{Subproblem}
use Rattle.search.specs.Agenda.{subproblem_of, slot_at}
use Rattle.problem.specs.Tests.FirstChecks.{refusal_of_problem}

-- What refusals 4 and 5 leave of them as well.
pub record Mirrored (n d : ℕ) (domains tables : List ℕ) : Type 0 where
  pub fitting : Fitting n d domains tables
  pub passed : refusal_of_problem (problem_of n d domains tables) ≡ 0

-- 6: what is wrong with a domain beside the problem's, and with each of a slot's.
unfoldable pub part_wrong : ℕ → ℕ → ℕ
part_wrong whole m = cond (eqb m 0) 1 (minus m whole)

unfoldable pub wrong_in : List ℕ → List ℕ → ℕ → ℕ
wrong_in domains slot i = part_wrong (get_or domains i 0) (get_or slot i 0)

-- The domains of the instantiated variables alone; what is allowed beside the lowest value of i, and for i itself that value alone; an
-- instantiated variable holds this, and so does every other beside it.
unfoldable pub held_at : Subproblem → ℕ → ℕ
held_at P j = cond (eqb (bit P.marked j) 1) (domain P j) 0

unfoldable pub beside_at : Table → Subproblem → ℕ → ℕ → ℕ
beside_at allowed P i j = cond (eqb j i) (single (lowest (domain P i))) (allowed i j (lowest (domain P i)))

unfoldable pub mark_obeys : ℕ → Table → Subproblem → ℕ → Bool
mark_obeys n allowed P i = eqb (bit P.marked i) 0 || every n (λ j. eqb (minus (held_at P j) (beside_at allowed P i j)) 0)

-- Those domains of a subproblem in 32 masks; what of some masks is outside their own of a row.
pub record Held (n : ℕ) (P : Subproblem) (masks : List ℕ) : Type 0 where
  pub long : length masks ≡ 32
  pub each : (j : ℕ) → j < n → get_or masks j 0 ≡ held_at P j
  pub past : (j : ℕ) → n ≤ j → get_or masks j 0 ≡ 0

unfoldable pub missing_in : List ℕ → List ℕ → ℕ → ℕ
missing_in held row j = minus (get_or held j 0) (get_or row j 0)

-- The first variable of a set from one on, or past all 32: none between is in the set.
pub record Next (set from next : ℕ) : Type 0 where
  pub up : from ≤ next
  pub none : (k : ℕ) → from ≤ k → k < next → bit set k ≡ 0
  pub there : next < 32 → bit set next ≡ 1

-- The words of a slot and its marks.
pub record SlotFits (n d : ℕ) (tables slot : List ℕ) (marked : ℕ) : Type 0 where
  pub sized : Sized n d tables
  pub words : length slot ≡ n + 2
  pub marks : marked ≡ (subproblem_of n slot).marked
  pub values : (i : ℕ) → i < n → lowest (get_or slot i 0) < d

-- Two slots have the same variables instantiated, and these the same domains; slot k and the one below it do.
pub record SameMarks (n : ℕ) (slot other : List ℕ) : Type 0 where
  pub marked : (subproblem_of n slot).marked ≡ (subproblem_of n other).marked
  pub domains : (i : ℕ) → i < n → bit (subproblem_of n slot).marked i ≡ 1 → domain (subproblem_of n slot) i ≡ domain (subproblem_of n other) i

abbrev pub AsBelow : ℕ → List ℕ → ℕ → Type 0
AsBelow n agenda k = (0 < k) × SameMarks n (slot_at n agenda k) (slot_at n agenda (k - 1))

-- Tests that are passed only by such.
abbrev pub TellsSame : ℕ → List ℕ → List ℕ → Bool → Type 0
TellsSame n slot other r = r ≡ true → SameMarks n slot other

abbrev pub TellsBelow : ℕ → List ℕ → ℕ → Bool → Type 0
TellsBelow n agenda k r = r ≡ true → AsBelow n agenda k

-- What is known of a slot's instantiated variables is so.
abbrev pub MarksKnown : ℕ → ℕ → List ℕ → List ℕ → Bool → Type 0
MarksKnown n d tables slot known = known ≡ true → every n (mark_obeys n (table_of n d tables) (subproblem_of n slot)) ≡ true
