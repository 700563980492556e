-- Solutions: the problem that a file says has those of the one saved.
-- Assumes nothing.
use mathlib.Core.Path.{◌≡◌, sym, ◌∙◌}
use mathlib.Core.Logic.{◌↔◌}
use mathlib.Core.List.{List}
use Prim.Native.Nat.{ℕ, ◌^◌, ◌<◌}
use lib.ListN.{get_or}
use Rattle.problem.specs.Problem.{Proper, Table, AllowSame, Solution, table_of, problem_of}
use Rattle.problem.proofs.mask.Masks.{member_lt}
use Rattle.search.specs.Slots.{Search}
use Rattle.files.specs.Reading.{said_n, said_d, said_domains, said_allowed, table_words}
use Rattle.files.specs.Promises.{Says}
use Rattle.files.proofs.Triangle.{table_other}
use Rattle.files.proofs.Tables.{agree_back}

-- Tables that agree have the same solutions.
pub solution_agree : (n d : ℕ) (whole : ℕ → ℕ) (f g : Table) (q : ℕ → ℕ) → AllowSame n d f g → ((i : ℕ) → i < n → whole i < 2 ^ d)
    → Solution n f whole q → Solution n g whole q
solution_agree n d whole f g q agree small h = record {
  possible = h.possible;
  consistent = λ i j l k e. rw (← agree i j (q i) l k e (member_lt d (whole i) (q i) (small i l) (h.possible i l))) (h.consistent i j l k e);
}

solutions_cast : (n n' d d' : ℕ) (domains domains' : List ℕ) (t : Table) (f : Table) (q : ℕ → ℕ) → n' ≡ n → d' ≡ d → domains' ≡ domains
    → Solution n t (λ i. get_or domains i 0) q ↔ Solution n (table_of n d (table_words n d f)) (λ i. get_or domains i 0) q
    → Solution n t (λ i. get_or domains i 0) q ↔ Solution n' (table_of n' d' (table_words n' d' f)) (λ i. get_or domains' i 0) q
solutions_cast n n' d d' domains domains' t f q a b c h = rw (a, b, c) h

-- The problem that a file says has the solutions of the one saved.
pub same_solutions : (n d : ℕ) (domains tables : List ℕ) (s : Search) (file : List ℕ) (f : ℕ → ℕ) → Proper (problem_of n d domains tables)
    → Says file n d domains (table_of n d tables) s
    → Solution n (table_of n d tables) (λ i. get_or domains i 0) f
    ↔ Solution (said_n file) (table_of (said_n file) (said_d file) (table_words (said_n file) (said_d file) (said_allowed file)))
    (λ i. get_or (said_domains file) i 0) f
same_solutions n d domains tables s file f proper says =
    let there : AllowSame n d (table_of n d tables) (table_of n d (table_words n d (said_allowed file))) =
    λ i j a l k e m. sym (table_other n d (said_allowed file) i j a l k e m ∙ says.its_allowed i j a l k e m) in
    solutions_cast n (said_n file) d (said_d file) domains (said_domains file) (table_of n d tables) (said_allowed file) f says.its_n says.its_d says.its_domains (
      solution_agree n d (λ i. get_or domains i 0) (table_of n d tables) (table_of n d (table_words n d (said_allowed file))) f there proper.domains,
      solution_agree n d (λ i. get_or domains i 0) (table_of n d (table_words n d (said_allowed file))) (table_of n d tables) f
          (agree_back (table_of n d tables) (table_of n d (table_words n d (said_allowed file))) there) proper.domains,
    )
