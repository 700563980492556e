-- Two tables that agree at every place of two different variables make the same pieces and cost the same checks.
-- Assumes nothing.
use mathlib.Core.Path.{◌≡◌, refl, sym, ap, ap₂}
use mathlib.Core.Logic.{inl}
use mathlib.Core.Bool.{not}
use mathlib.Core.List.{List, Memᴰ, [], ◌∷◌, map}
use Prim.Native.Nat.{ℕ, ◌≤◌, ◌<◌}
use native.Mathlib.Omega.{arith}
use lib.Dec.{eqb}
use borrow.Author.Tests.{eqb-false, not-true}
use Rattle.problem.specs.Masks.{lowest}
use Rattle.problem.specs.Problem.{Problem, Table, AllowSame}
use Rattle.splits.specs.Subproblems.{domain, empty}
use Rattle.splits.specs.Requests.{kind_of, variable_of, value_of}
use Rattle.problem.specs.Lists.{below, keep}
use Rattle.splits.specs.Splits.{forbids, precluded, disjunct, backtracking, forward_checking, idc, named, pieces}
use Rattle.splits.specs.Checks.{checks}
use Rattle.splitting.specs.Promises.{Splits}
use Rattle.splits.specs.declared.subproblem.Subproblem.{Subproblem}
use Rattle.problem.proofs.mask.Masks.{member_lt}
use Rattle.splitting.proofs.Pieces.{Held}
use Rattle.splitting.proofs.Splitting.{lowest_in}
use Rattle.splits.proofs.Apart.{kind_same, kept_lt, precluded_same, disjunct_same, forbidden_same, tried_same}

-- Members of a list, mapped alike.
map_member : (f g : ℕ → Subproblem) (l : List ℕ) → ((j : ℕ) → Memᴰ j l → f j ≡ g j) → map f l ≡ map g l
map_member f g [] h = refl
map_member f g (x ∷ l) h = ap₂ {C = List Subproblem} (λ P S. P ∷ S) (h x (Memᴰ.head refl)) (map_member f g l (λ j m. h j (Memᴰ.tail m)))

-- ---- the pieces and checks of an accepted request

module _ {p : Problem} {P : Subproblem} {r : List ℕ} (s : Splits p P r) (g : Table) (agree : AllowSame p.n p.d p.allowed g) where
  held : Held p P
  held = record { proper = s.proper; rules = s.rules }

  low : (i : ℕ) → i < p.n → lowest (domain P i) < p.d
  low i l =
      member_lt p.d (p.domain i) (lowest (domain P i)) (s.proper.domains i l) (s.rules.part i l (lowest (domain P i)) (lowest_in held i l))

  variable_lt : 1 ≤ kind_of r → kind_of r ≤ 3 → variable_of r < p.n
  variable_lt h k = let q : p.n ≤ variable_of r → ⊥ = λ l. s.accepted.not_8 ((h, omega arith), inl l) in omega arith

  value_lt : 1 ≤ kind_of r → kind_of r ≤ 3 → value_of r < p.d
  value_lt h k = let q : p.d ≤ value_of r → ⊥ = λ l. s.accepted.not_9 (inl ((h, k), inl l)) in omega arith

  module _ (h : 1 ≤ kind_of r) (k : kind_of r ≤ 3) where
    -- What V and v read is the same in both tables.
    masks_beside : (i : ℕ) → i < p.n → (variable_of r ≡ i → ⊥) → p.allowed (variable_of r) i (value_of r) ≡ g (variable_of r) i (value_of r)
    masks_beside i l f = agree (variable_of r) i (value_of r) (variable_lt h k) l f (value_lt h k)

    forbids_same : (i : ℕ) → i < p.n → (i ≡ variable_of r → ⊥)
        → forbids p.allowed P (variable_of r) (value_of r) i ≡ forbids g P (variable_of r) (value_of r) i
    unfolding forbids
    forbids_same i l f = rw (agree i (variable_of r) (lowest (domain P i)) l (variable_lt h k) f (low i l)) refl

    further_same : map (disjunct p.allowed P (variable_of r) (value_of r)) (keep (λ j. not (eqb j (variable_of r))) (below p.n))
        ≡ map (disjunct g P (variable_of r) (value_of r)) (keep (λ j. not (eqb j (variable_of r))) (below p.n))
    further_same =
        map_member _ _ _ (λ j m.
        let (l, e) = kept_lt (λ j. not (eqb j (variable_of r))) p.n j m in
        disjunct_same p.n p.allowed g P (variable_of r) (value_of r) masks_beside j l
        (λ z. eqb-false j (variable_of r) (not-true (eqb j (variable_of r)) e) (sym z)))

    first_same : precluded p.n p.allowed P (variable_of r) (value_of r) ≡ precluded p.n g P (variable_of r) (value_of r)
    first_same = precluded_same p.n p.allowed g P (variable_of r) (value_of r) masks_beside

  -- The pieces placed.
  pub pieces_same : pieces p.n p.allowed P r ≡ pieces p.n g P r
  unfolding pieces named backtracking forward_checking idc
  pieces_same =
      ap (keep (λ Q. not (empty p.n Q)))
      (kind_same (kind_of r) _ _ _
      (λ z. rw (forbidden_same p.n p.allowed g P (variable_of r) (value_of r) (forbids_same (omega arith) (omega arith))) refl)
      (λ z. rw (first_same (omega arith) (omega arith)) refl)
      (λ z. ap₂ {C = List Subproblem} (λ Q S. Q ∷ S) (first_same (omega arith) (omega arith)) (further_same (omega arith) (omega arith))))

  -- The checks counted.
  pub checks_same : checks p.n p.allowed P r ≡ checks p.n g P r
  unfolding checks
  checks_same =
      kind_same (kind_of r) _ _ _
      (λ z. tried_same p.n p.allowed g P (variable_of r) (value_of r) (forbids_same (omega arith) (omega arith))) (λ z. refl) (λ z. refl)
