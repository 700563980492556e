-- The refusal of a request by a search that runs: which number is given, exactly.
-- Assumes nothing.
use mathlib.Core.Path.{◌≡◌, refl, sym, ◌∙◌}
use mathlib.Core.Logic.{◌⊎◌, inl, inr, ◌↔◌}
use mathlib.Core.Bool.{Bool, true, false, cond}
use mathlib.Core.List.{List, [], ◌∷◌}
use Prim.Native.Nat.{ℕ}
use lib.Dec.{eqb}
use borrow.Author.Tests.{eq-eqb, eqb-true, eqb-false}
use Rattle.problem.specs.Problem.{Problem}
use Rattle.problem.specs.Refusing.{FirstOf}
use Rattle.splits.specs.Refusals.{Accepted}
use Rattle.splits.specs.Tests.Refusals.{refused_7, refused_8, refused_9, refused_10, refusal_of}
use Rattle.splits.specs.declared.subproblem.Subproblem.{Subproblem}
use Rattle.problem.proofs.Tests.{true_false}
use Rattle.problem.proofs.Refusing.{first_by}
use Rattle.splits.proofs.refusal.Refusals.{says_7, says_8, says_9, says_10}
use Rattle.searches.specs.Machines.{Machine}
use Rattle.searches.specs.Steps.{Search, Deserves11, refusals_of_request}
use Rattle.searches.specs.Tests.Refusal.{refusal_of_top, refusal_of_request}

-- The refusal is that of six tests in a chain.
chained : (a b c d e f : Bool) →
    let rest : ℕ = cond b 7 (cond c 8 (cond d 9 (cond e 10 0))) in
    cond a 11 (cond (eqb rest 0) (cond f 12 0) rest) ≡ cond a 11 (cond b 7 (cond c 8 (cond d 9 (cond e 10 (cond f 12 0)))))
chained true b c d e f = refl
chained false true c d e f = refl
chained false false true d e f = refl
chained false false false true e f = refl
chained false false false false true f = refl
chained false false false false false f = refl

module _ (p : Problem) (M : Machine) (P : Subproblem) (S : List Subproblem) (s : Search M.Memory) (r : List ℕ)
    (top : M.stack p s.memory ≡ P ∷ S) where
  -- The refusal, P being on top.
  pub refusal_is : refusal_of_request p M r s
      ≡ cond (eqb s.steps 4294967295) 11 (cond (eqb (refusal_of p.n p.d P r) 0) (cond (M.full p r s.memory) 12 0) (refusal_of p.n p.d P r))
  unfolding refusal_of_request refusal_of_top
  refusal_is = rw top

  abbrev tests : List Bool
  tests =
      eqb s.steps 4294967295 ∷ refused_7 r ∷ refused_8 p.n P r ∷ refused_9 p.d P r ∷ refused_10 p.n P r ∷ M.full p r s.memory ∷ []

  pub first_refusal : FirstOf (refusals_of_request p s.steps P r (M.full p r s.memory ≡ true)) (refusal_of_request p M r s)
  unfolding refusal_of
  first_refusal =
      rw (refusal_is, chained (eqb s.steps 4294967295) (refused_7 r) (refused_8 p.n P r) (refused_9 p.d P r) (refused_10 p.n P r) (M.full p r s.memory))
      (first_by (refusals_of_request p s.steps P r (M.full p r s.memory ≡ true)) tests refl (
        (eqb-true s.steps 4294967295, eq-eqb s.steps 4294967295),
        λ a. (says_7 p.n p.d P r, λ f. (says_8 p.n p.d P r f, λ g. (says_9 p.n p.d P r f, λ h. (says_10 p.n p.d P r, λ i. ((λ e. e, λ e. e), λ j. tt))))),
      ))

  -- None: the steps are not all taken, the splits accept it, and there is room.
  pub is_none : (refusal_of_request p M r s ≡ 0) ↔ ((Deserves11 s.steps → ⊥) × Accepted p.n p.d P r × (M.full p r s.memory ≡ false))
  is_none =
      let none = first_refusal.1.1.1.1.1.1 in (
        (λ e. let w = none.0 e in (
          w.0.0.0.0.0.1,
          record { not_7 = w.0.0.0.0.1; not_8 = w.0.0.0.1; not_9 = w.0.0.1; not_10 = w.0.1 },
          is_false (M.full p r s.memory) w.1,
        )),
        (λ w. none.1 ((((((tt, w.0), w.1.not_7), w.1.not_8), w.1.not_9), w.1.not_10), (λ e. true_false (sym e ∙ w.2)))),
      )
    where
      is_false : (b : Bool) → (b ≡ true → ⊥) → b ≡ false
      is_false true h = absurd (h refl)
      is_false false h = refl

  -- 12: they are not, the splits accept it, and there is none.
  pub is_12 : (refusal_of_request p M r s ≡ 12) ↔ ((Deserves11 s.steps → ⊥) × Accepted p.n p.d P r × (M.full p r s.memory ≡ true))
  is_12 =
      let full = first_refusal.1.1.1.1.1.0 in (
        (λ e. let w = full.0 e in (
          w.0.0.0.0.0.1,
          record { not_7 = w.0.0.0.0.1; not_8 = w.0.0.0.1; not_9 = w.0.0.1; not_10 = w.0.1 },
          w.1,
        )),
        (λ w. full.1 ((((((tt, w.0), w.1.not_7), w.1.not_8), w.1.not_9), w.1.not_10), w.2)),
      )

  -- A request that the splits accept meets only 11 and 12.
  pub only_11_12 : Accepted p.n p.d P r
      → (refusal_of_request p M r s ≡ 0) ⊎ (refusal_of_request p M r s ≡ 11) ⊎ (refusal_of_request p M r s ≡ 12)
  only_11_12 a = go (eqb s.steps 4294967295) refl (M.full p r s.memory) refl
    where
      go : (b : Bool) → eqb s.steps 4294967295 ≡ b → (c : Bool) → M.full p r s.memory ≡ c
          → (refusal_of_request p M r s ≡ 0) ⊎ (refusal_of_request p M r s ≡ 11) ⊎ (refusal_of_request p M r s ≡ 12)
      go true e c f = inr (inl (first_refusal.0.1 (tt, eqb-true s.steps 4294967295 e)))
      go false e true f = inr (inr (is_12.1 (eqb-false s.steps 4294967295 e, a, f)))
      go false e false f = inl (is_none.1 (eqb-false s.steps 4294967295 e, a, f))
