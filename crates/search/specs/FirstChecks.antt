-- The first checks: which handed-in words deserve refusals 1 to 6. Each part of them stands by itself: the numbers (1, 2), the
-- lengths (3), the problem (4, 5), the search (6).
use Rattle.std.specs.Prelude.{◌≡◌, ◌⊎◌, ℕ, ◌+◌, ◌*◌, ◌≤◌, ◌<◌, length, get_or}
use mathlib.Core.List.{List, Memᴰ}
use Rattle.problem.specs.Problem.{Problem}
use Rattle.splits.specs.Subproblems.{Rules}
use Rattle.splits.specs.declared.subproblem.Subproblem.{Subproblem}
use Rattle.search.specs.Agenda.{stack_of, slots_in}

-- So many words are 1 to 512 whole slots.
abbrev pub WholeSlots : ℕ → ℕ → Type 0
WholeSlots n words = (slots : ℕ) × (1 ≤ slots) × (slots ≤ 512) × (words ≡ slots * (n + 2))

-- So many words are whole requests.
abbrev pub WholeRequests : ℕ → ℕ → Type 0
WholeRequests n words = (requests : ℕ) × (words ≡ requests * (n + 3))

-- 3: a wrong length, of the domains, of the tables or of the agenda; of a run, of its list of requests too.
abbrev pub Deserves3 : ℕ → ℕ → List ℕ → List ℕ → List ℕ → Type 0
Deserves3 n d domains tables agenda =
    (length domains ≡ n → ⊥) ⊎ (length tables ≡ n * n * d → ⊥) ⊎ (WholeSlots n (length agenda) → ⊥)

abbrev pub Deserves3Run : ℕ → ℕ → List ℕ → List ℕ → List ℕ → List ℕ → Type 0
Deserves3Run n d domains tables agenda requests = Deserves3 n d domains tables agenda ⊎ (WholeRequests n (length requests) → ⊥)

-- 6: some subproblem of the search breaks its rules, there are more than slots, a word past those in use is not 0, or the checks are more than
-- 496 times the steps.
abbrev pub Deserves6 : Problem → List ℕ → ℕ → ℕ → ℕ → Type 0
Deserves6 p agenda steps checks subproblems =
    ((P : Subproblem) × Memᴰ P (stack_of p.n agenda subproblems) × (Rules p P → ⊥))
    ⊎ (slots_in p.n (length agenda) < subproblems)
    ⊎ ((k : ℕ) × (subproblems * (p.n + 2) ≤ k) × (k < length agenda) × (get_or agenda k 0 ≡ 0 → ⊥))
    ⊎ (496 * steps < checks)
