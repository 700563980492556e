-- The content of a saved search, in document 01's order.
use Rattle.std.specs.Prelude.{List, ◌∷◌, ◌++◌, map, ℕ, ◌/◌, ◌%◌, ◌^◌, length, ltb}
use Rattle.problem.specs.Problem.{Table}
use Rattle.problem.specs.Lists.{below, keep}
use Rattle.search.specs.Agenda.{stack_words}
use Rattle.search.specs.Slots.{Search}
unfoldable pub use Rattle.blocks.specs.Lists.{each}

-- The variables after i.
unfoldable pub after : ℕ → ℕ → List ℕ
after n i = keep (λ j. ltb i j) (below n)

-- The masks of each two variables, once: by the lower, then by the higher, then by the lower's value.
unfoldable pub triangle : ℕ → ℕ → Table → List ℕ
triangle n d allowed = each (λ i. each (λ j. map (allowed i j) (below d)) (after n i)) (below n)

-- The first word of a content says n.
abbrev pub first_word : ℕ → ℕ
first_word n = n

-- Nine words, n, d, the steps in two, the checks in four and how many subproblems, high words first; then the domains, the tables, and the agenda
-- from the bottom.
unfoldable pub content_of : ℕ → ℕ → List ℕ → Table → Search → List ℕ
content_of n d domains allowed s =
    first_word n ∷ d ∷ s.steps / 65536 ∷ s.steps % 65536
    ∷ s.checks / 2 ^ 48 ∷ s.checks / 2 ^ 32 % 65536 ∷ s.checks / 65536 % 65536 ∷ s.checks % 65536 ∷ length s.memory
    ∷ domains ++ triangle n d allowed ++ stack_words n s.memory
