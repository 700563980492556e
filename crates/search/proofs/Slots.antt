-- Slots as a machine: their law, what a step on them is, and where they are full.
-- Assumes nothing.
use mathlib.Core.Path.{◌≡◌, refl}
use mathlib.Core.Logic.{◌↔◌, inl, inr, ⊎_elim}
use mathlib.Core.Bool.{true}
use mathlib.Core.List.{List, ◌∷◌, ◌++◌}
use Prim.Native.Nat.{ℕ, ◌+◌, ◌≤◌, ◌<◌}
use native.Mathlib.Omega.{arith}
use lib.ListN.{length, length-append}
use lib.Dec.{ltb}
use borrow.Author.Tests.{lt-ltb, ltb-true, ltb-false}
use Rattle.problem.specs.Problem.{Problem}
use Rattle.splits.specs.Splits.{pieces}
use Rattle.splits.specs.Checks.{checks}
use Rattle.problem.specs.Refusing.{FirstOf}
use Rattle.splits.specs.declared.subproblem.Subproblem.{Subproblem}
use Rattle.searches.specs.Machines.{split_top, Lawful}
use Rattle.searches.specs.Steps.{checks_of_top, step, refusals_of_request}
use Rattle.searches.specs.Tests.Refusal.{refusal_of_request}
use Rattle.searches.specs.Promises.{Chosen}
use Rattle.searches.proofs.Refusals.{first_refusal}
use Rattle.search.specs.Slots.{slots, Deserves12, Search}

-- A stack that finds room is in order after the request, and is split so.
pub slots_lawful : (room : ℕ) → Lawful (slots room)
slots_lawful room = record {
  fits = λ p r S P T t. ltb-false room (length (split_top p r S)) t.room;
  splits = λ p r S P T t. rw t.top refl;
}

-- A step on a stack with P on top.
pub step_is : (p : Problem) (room : ℕ) (P : Subproblem) (S : List Subproblem) (s : Search) (r : List ℕ) → s.memory ≡ P ∷ S
    → step p (slots room) r s
    ≡ record { memory = pieces p.n p.allowed P r ++ S; steps = s.steps + 1; checks = s.checks + checks p.n p.allowed P r }
unfolding step split_top checks_of_top
step_is p room P S s r top = rw top

-- They are full where the pieces exceed the free slots, P's counted free.
pub slots_full : (p : Problem) (room : ℕ) (P : Subproblem) (S : List Subproblem) (r : List ℕ) → length (P ∷ S) ≤ room
    → (ltb room (length (split_top p r (P ∷ S))) ≡ true) ↔ Deserves12 p room P S r
unfolding split_top
slots_full p room P S r fits =
    let l : List Subproblem = pieces p.n p.allowed P r in
    let long : length (l ++ S) ≡ length l + length S = length-append l S in (
      (λ e. let more : room < length (l ++ S) = ltb-true room (length (l ++ S)) e in omega (arith, long, more)),
      (λ h. lt-ltb room (length (l ++ S)) (omega (arith, long, h))),
    )

module _ (p : Problem) (room : ℕ) (P : Subproblem) (S : List Subproblem) (s : Search) (top : s.memory ≡ P ∷ S)
    (fits : length (P ∷ S) ≤ room) where
  full_here : (r : List ℕ) → (ltb room (length (split_top p r s.memory)) ≡ true) ↔ Deserves12 p room P S r
  full_here r = rw top (slots_full p room P S r fits)

  -- The refusals of a request, and the one chosen, by that.
  pub slots_refusals : (r : List ℕ) → FirstOf (refusals_of_request p s.steps P r (Deserves12 p room P S r)) (refusal_of_request p (slots room) r s)
  slots_refusals r =
      let (a, (b, (c, (d, (e, (f, g)))))) = first_refusal p (slots room) P S s r top in
      let same = full_here r in (
        a,
        (
          b,
          (
            c,
            (
              d,
              (
                e,
                (
                  (λ k. let w = f.0 k in (w.0, same.0 w.1), λ w. f.1 (w.0, same.1 w.1)),
                  (λ k. let w = g.0 k in (w.0, λ x. w.1 (same.1 x)), λ w. g.1 (w.0, λ x. w.1 (same.0 x))),
                ),
              ),
            ),
          ),
        ),
      )

  pub slots_chosen : (r : List ℕ) → Chosen p (λ q. ltb room (length (split_top p q s.memory)) ≡ true) P r → Chosen p (Deserves12 p room P S) P r
  slots_chosen r c = record {
    variable = c.variable;
    value = c.value;
    kind =
        ⊎_elim (λ w. inl (w.0, ⊎_elim (λ x. inl x) (λ x. inr ((full_here _).0 x)) w.1))
        (λ w. inr (w.0, λ x. w.1 (⊎_elim (λ y. inl y) (λ y. inr ((full_here _).1 y)) x))) c.kind;
  }
