-- The parts of the first checks, put together from what the loops find.
-- Assumes nothing.
use mathlib.Core.Path.{◌≡◌, refl, sym, ap, ◌∙◌}
use mathlib.Core.Bool.{Bool, true, false, cond, ◌&&◌, and-false, and-true}
use mathlib.Core.List.{List}
use Prim.Native.Nat.{ℕ, zero, suc, ◌+◌, ◌*◌, ◌%◌, ◌≤◌, ◌<◌}
use native.Mathlib.Omega.{arith}
use native.Mathlib.Nat.{mul-le-mul_right, div-mul-le_self, le_trans}
use native.Mathlib.Decide.{ℕ_discrete}
use lib.ListN.{length}
use lib.Dec.{eqb}
use borrow.Author.Tests.{le-leb, lt-leb, eq-eqb, ne_eqb, eqb-true}
use Rattle.problem.specs.Problem.{Problem, problem_of}
use Rattle.problem.specs.Lists.{every}
use Rattle.splits.specs.declared.subproblem.Subproblem.{Subproblem}
use Rattle.problem.proofs.Tests.{and_left, and_right}
use Rattle.search.specs.Agenda.{stack_of, slots_in, slot_at, subproblem_of}
use Rattle.problem.specs.Tests.FirstChecks.{refusal_of_numbers, refusal_of_problem, problem_sizes, problem_refusal, or_else}
use Rattle.search.specs.Tests.FirstChecks.{whole_slots, refusal_of_lengths, refusal_of_requests, obeys, all_obey, zeros_from, refusal_of_search, sizes_refusal, open_refusal}
use Rattle.problem.specs.Ranges.{Fitting}
use Rattle.problem.proofs.first_checks.Parts.{and_turn, else_pass, given_if, else_first, else_rest, numbers_pass}

-- ---- symmetry

-- ---- 4 and 5

-- ---- 6

-- The subproblem in slot k obeys the rules.
unfoldable pub slot_obeys : Problem → ℕ → List ℕ → ℕ → Bool
slot_obeys p n agenda k = obeys p (subproblem_of n (slot_at n agenda k))

-- The subproblems of the first m slots obey the rules where each of the slots' does.
pub all_slots : (p : Problem) (n : ℕ) (agenda : List ℕ) (m : ℕ) → every m (slot_obeys p n agenda) ≡ all_obey p (stack_of n agenda m)
unfolding all_obey stack_of every slot_obeys
all_slots p n agenda zero = refl
all_slots p n agenda (suc m) =
    and_turn (every m (slot_obeys p n agenda)) (obeys p (subproblem_of n (slot_at n agenda m)))
    ∙ ap (λ (x : Bool). obeys p (subproblem_of n (slot_at n agenda m)) && x) (all_slots p n agenda m)

-- so many subproblems lie within so many words
pub slots_within : (n words subproblems : ℕ) → subproblems ≤ slots_in n words → subproblems * (n + 2) ≤ words
slots_within n words subproblems h = le_trans (mul-le-mul_right (n + 2) h) (div-mul-le_self words (n + 2))

module _ (n d : ℕ) (domains tables agenda : List ℕ) (steps checks subproblems : ℕ) where
  -- There are more subproblems than slots.
  pub search_slots : slots_in n (length agenda) < subproblems
      → 6 ≡ refusal_of_search (problem_of n d domains tables) agenda steps checks subproblems
  unfolding refusal_of_search
  search_slots h = simp (lt-leb subproblems (slots_in n (length agenda)) h)

  -- There are more checks than 496 × steps.
  pub search_checks : 496 * steps < checks → 6 ≡ refusal_of_search (problem_of n d domains tables) agenda steps checks subproblems
  unfolding refusal_of_search
  search_checks h = simp (lt-leb checks (496 * steps) h, and-false)

  -- An unused slot is not zero.
  pub search_zeros : (bits : ℕ) → eqb bits 0 ≡ zeros_from (subproblems * (n + 2)) agenda → (bits ≡ 0 → ⊥)
      → 6 ≡ refusal_of_search (problem_of n d domains tables) agenda steps checks subproblems
  unfolding refusal_of_search
  search_zeros bits e f = simp (sym e ∙ ne_eqb bits 0 f, and-false)

  -- None of these; the rules decide.
  pub search_last : (bits : ℕ) (r : Bool) → subproblems ≤ slots_in n (length agenda) → checks ≤ 496 * steps
      → eqb bits 0 ≡ zeros_from (subproblems * (n + 2)) agenda → bits ≡ 0
      → r ≡ all_obey (problem_of n d domains tables) (stack_of n agenda subproblems)
      → cond r 0 6 ≡ refusal_of_search (problem_of n d domains tables) agenda steps checks subproblems
  unfolding refusal_of_search
  search_last bits r h k e z s =
      simp (le-leb subproblems (slots_in n (length agenda)) h, le-leb checks (496 * steps) k, sym e ∙ eq-eqb bits 0 z, and-true, sym s)

-- ---- what passing 1, 2 and 3 leaves

-- nor is 3: the words of the problem fit its numbers
pub lengths_pass : (n d : ℕ) (domains tables : List ℕ) (agenda : ℕ) → refusal_of_numbers n d ≡ 0
    → refusal_of_lengths n d (length domains) (length tables) agenda ≡ 0 → Fitting n d domains tables
unfolding refusal_of_lengths
lengths_pass n d domains tables agenda e h =
    let all = given_if (eqb (length domains) n && eqb (length tables) (n * n * d) && whole_slots n agenda) 3 (λ z. absurd (omega arith)) h in
    let both = and_left (eqb (length domains) n && eqb (length tables) (n * n * d)) (whole_slots n agenda) all in
    let numbers = numbers_pass n d e in
    record {
      sized = record {
        few = numbers.variables;
        small = numbers.values;
        words = eqb-true (length tables) (n * n * d) (and_right (eqb (length domains) n) (eqb (length tables) (n * n * d)) both);
      };
      words = eqb-true (length domains) n (and_left (eqb (length domains) n) (eqb (length tables) (n * n * d)) both);
    }

-- ---- the first of two refusals

-- a refusal of the sizes is one whatever comes after them
pub sizes_first : (r n d domains tables agenda b : ℕ) → r ≡ sizes_refusal n d domains tables agenda → (r ≡ 0 → ⊥)
    → r ≡ or_else (refusal_of_numbers n d) (or_else (refusal_of_lengths n d domains tables agenda) b)
unfolding sizes_refusal
sizes_first r n d domains tables agenda b e f =
    let lengths : ℕ = refusal_of_lengths n d domains tables agenda in
    elim (ℕ_discrete (refusal_of_numbers n d) 0) [
      | yes z ↦ else_rest r (refusal_of_numbers n d) (or_else lengths b) z (else_first r lengths b (rw z at e) f)
      | no g ↦ else_first r (refusal_of_numbers n d) (or_else lengths b) (rw (ne_eqb (refusal_of_numbers n d) 0 g) at e) f
    ]

-- the list of requests is whole requests, or is not
pub whole_list_lem : (n words : ℕ) → words % (n + 3) ≡ 0 → refusal_of_requests n words ≡ 0
unfolding refusal_of_requests
whole_list_lem n words e = simp (eq-eqb (words % (n + 3)) 0 e)

pub unwhole_list : (n words : ℕ) → (words % (n + 3) ≡ 0 → ⊥) → 3 ≡ refusal_of_requests n words
unfolding refusal_of_requests
unwhole_list n words f = simp (ne_eqb (words % (n + 3)) 0 f)

-- the sizes of the problem's words, then those of the agenda
else_both : (a : ℕ) (x w : Bool) → or_else (or_else a (cond x 0 3)) (cond w 0 3) ≡ or_else a (cond (x && w) 0 3)
else_both a x w = elim (ℕ_discrete a 0) [
  | yes z ↦ rw z (go x w)
  | no f ↦ simp (ne_eqb a 0 f)
]
  where
    go : (x w : Bool) → or_else (cond x 0 3) (cond w 0 3) ≡ cond (x && w) 0 3
    go true w = refl
    go false w = refl

sizes_is : (n d domains tables agenda : ℕ)
    → or_else (problem_sizes n d domains tables) (cond (whole_slots n agenda) 0 3) ≡ sizes_refusal n d domains tables agenda
unfolding problem_sizes sizes_refusal refusal_of_lengths
sizes_is n d domains tables agenda = else_both (refusal_of_numbers n d) (eqb domains n && eqb tables (n * n * d)) (whole_slots n agenda)

module _ (n d domains tables agenda r : ℕ) (e : r ≡ problem_sizes n d domains tables) where
  pub sizes_given : (r ≡ 0 → ⊥) → r ≡ sizes_refusal n d domains tables agenda
  sizes_given f = else_first r _ _ e f ∙ sizes_is n d domains tables agenda

  module _ (z : r ≡ 0) where
    pub sizes_few : n ≤ 32
    unfolding problem_sizes
    sizes_few = (numbers_pass n d (else_pass (refusal_of_numbers n d) _ (sym e ∙ z)).0).variables

    module _ (b : Bool) (w : b ≡ whole_slots n agenda) where
      pub sizes_whole : b ≡ true → 0 ≡ sizes_refusal n d domains tables agenda
      sizes_whole s = else_rest 0 _ _ (sym e ∙ z) (rw (← w, s) refl) ∙ sizes_is n d domains tables agenda

      pub sizes_odd : b ≡ false → 3 ≡ sizes_refusal n d domains tables agenda
      sizes_odd s = else_rest 3 _ _ (sym e ∙ z) (rw (← w, s) refl) ∙ sizes_is n d domains tables agenda

-- what passes them passes those of the problem
pub sizes_problem : (n d domains tables agenda : ℕ) → sizes_refusal n d domains tables agenda ≡ 0 → problem_sizes n d domains tables ≡ 0
sizes_problem n d domains tables agenda e = (else_pass _ _ (sizes_is n d domains tables agenda ∙ e)).0

-- so that what is left of the problem's are 4 and 5
pub problem_rest : (r n d : ℕ) (domains tables : List ℕ) → problem_sizes n d (length domains) (length tables) ≡ 0
    → r ≡ problem_refusal n d domains tables → r ≡ refusal_of_problem (problem_of n d domains tables)
unfolding problem_refusal
problem_rest r n d domains tables z e = rw z at e

-- the sizes pass
pub sizes_pass : (n d domains tables agenda : ℕ) → sizes_refusal n d domains tables agenda ≡ 0
    → (refusal_of_numbers n d ≡ 0) × (refusal_of_lengths n d domains tables agenda ≡ 0)
unfolding sizes_refusal
sizes_pass n d domains tables agenda e = else_pass (refusal_of_numbers n d) (refusal_of_lengths n d domains tables agenda) e

-- what is found of a subproblem read before is found of the slot's
pub slot_obeys_lem : (p : Problem) (n : ℕ) (agenda : List ℕ) (k : ℕ) (P : Subproblem) (b : Bool) → P ≡ subproblem_of n (slot_at n agenda k)
    → b ≡ obeys p P → b ≡ slot_obeys p n agenda k
unfolding slot_obeys
slot_obeys_lem p n agenda k P b e h = h ∙ ap (obeys p) e

-- what the first checks of opening leave where they pass
pub open_parts : (n d : ℕ) (domains tables agenda : List ℕ) → open_refusal n d domains tables agenda ≡ 0
    → (refusal_of_numbers n d ≡ 0) × (refusal_of_lengths n d (length domains) (length tables) (length agenda) ≡ 0)
    × (refusal_of_problem (problem_of n d domains tables) ≡ 0)
unfolding open_refusal
open_parts n d domains tables agenda e =
    let lengths : ℕ = refusal_of_lengths n d (length domains) (length tables) (length agenda) in
    let problem : ℕ = refusal_of_problem (problem_of n d domains tables) in
    let one = else_pass (refusal_of_numbers n d) (or_else lengths problem) e in
    let two = else_pass lengths problem one.1 in
    (one.0, two.0, two.1)

-- what opening's first checks leave: the words of the problem fit its numbers
pub open_pass : (n d : ℕ) (domains tables agenda : List ℕ) → open_refusal n d domains tables agenda ≡ 0 → Fitting n d domains tables
open_pass n d domains tables agenda e =
    let parts = open_parts n d domains tables agenda e in
    lengths_pass n d domains tables (length agenda) parts.0 parts.1
