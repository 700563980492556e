-- What demands 1 and 2 say of a call of Rattle that goes on with a search.
-- Assumes nothing.
use mathlib.Core.Path.{◌≡◌, refl, sym, ap, subst, ◌∙◌}
use mathlib.Core.Logic.{inl, ⊎_elim, ◌↔◌}
use mathlib.Core.List.{List, [], ◌∷◌, ◌++◌}
use Prim.Native.Nat.{ℕ, ◌%◌, ◌+◌, ◌≤◌, ◌<◌}
use native.Mathlib.Omega.{arith}
use native.Mathlib.Decide.{ℕ_discrete}
use lib.ListN.{length, get_or}
use Rattle.problem.specs.FirstChecks.{Deserves4, Deserves5}
use Rattle.problem.specs.Refusing.{Refusals, FirstOf}
use Rattle.splits.specs.Splits.{pieces}
use Rattle.splits.specs.declared.subproblem.Subproblem.{Subproblem}
use Rattle.searches.specs.Machines.{split_top}
use Rattle.searches.specs.Steps.{step, refusals_of_request}
use Rattle.searches.specs.Verdicts.{number_of, verdict_of}
use Rattle.searches.specs.Runs.{run}
use Rattle.searches.specs.Tests.Refusal.{refusal_of_request}
use Rattle.searches.specs.Promises.{Shown}
use Rattle.searches.proofs.Runs.{stops}
use Rattle.search.specs.Agenda.{stack_of}
use Rattle.search.specs.Slots.{slots, Search, Stopped, Deserves12}
use Rattle.search.specs.FirstChecks.{Deserves6}
use Rattle.search.proofs.Promises.{search_refusals, run_refusals, slots_refusals}
use Rattle.console.specs.Searches.{Outcome, Way, by_requests, by_chooser, Lent}
use Rattle.console.proofs.Going.{alone}
use Rattle.demands.specs.Promises.{Calls, rattle, problem, search, asked, front, checks, Numbered, Answered}
use Rattle.demands.proofs.Tables.{in_third}
use Rattle.demands.proofs.Calling.{room, first_of, stopped_of, stopped_is, none_if, passed, refused_so, passing, handed, passes_first, outcome_at, search_left, passes_left, says_so}
use Rattle.demands.proofs.Standing.{few_taken, alone_stops}

-- What demands 1 and 2 say of one call.
abbrev pub Said : Calls → Lent → Way → Outcome → Type 0
Said c m way o = Numbered c m way o × Answered c m way o

-- Words are whole words.
pub no_odd : (a b c e : ℕ) → (a % 1 + b % 1 + c % 1 + e % 1 ≡ 0 → ⊥) → ⊥
no_odd a b c e f = f (omega arith)

-- The list of a way.
abbrev pub listed : Way → List ℕ
listed way = elim way [ by_requests l ↦ l | by_chooser j ↦ [] ]

-- 4 to 6.
abbrev from_4 : Lent → Refusals
from_4 m =
    (4, Deserves4 (problem rattle m m.tables)) ∷ (5, Deserves5 (problem rattle m m.tables))
    ∷ (6, Deserves6 (problem rattle m m.tables) m.held.agenda m.held.steps m.held.checks m.held.subproblems) ∷ []

-- The first checks give the first of the table.
pub first_of_table : (m : Lent) (way : Way) → FirstOf (checks rattle m (listed way) ((6, Deserves6 (problem rattle m m.tables) m.held.agenda m.held.steps m.held.checks m.held.subproblems) ∷ [])) (first_of m way)
unfolding first_of
first_of_table m (by_requests l) =
    in_third 1 2 3 _ _ _ _ (from_4 m) _ (λ x. inl x)
    (λ x. ⊎_elim (λ y. y) (λ f. absurd (no_odd (length m.domains) (length m.tables) (length m.held.agenda) (length l) f)) x) refl
    (run_refusals m.n m.d m.domains m.tables m.held.agenda l m.held.steps m.held.checks m.held.subproblems)
first_of_table m (by_chooser k) =
    in_third 1 2 3 _ _ _ _ (from_4 m) _ (λ x. inl (inl x))
    (λ x. ⊎_elim (λ y. ⊎_elim (λ w. w) (λ f. absurd (f (0, omega arith))) y)
    (λ f. absurd (no_odd (length m.domains) (length m.tables) (length m.held.agenda) 0 f)) x) refl
    (search_refusals m.n m.d m.domains m.tables m.held.agenda m.held.steps m.held.checks m.held.subproblems)

module _ (m : Lent) (way : Way) (o : Outcome) (g : rattle.GoingOn m way o) where
  first_number : (k : ℕ) → (o.verdict ≡ 0 → k ≡ o.refusal) → ((o.verdict ≡ 0 → ⊥) → k ≡ 0) → k ≡ first_of m way
  first_number k some none = elim (ℕ_discrete (first_of m way) 0) [
    | yes z ↦ none (λ v. (none_if m way o g).0 v z) ∙ sym z
    | no f ↦ some ((none_if m way o g).1 f) ∙ ap (λ (x : Outcome). x.refusal) (refused_so m way o g f)
  ]

  kept : o.verdict ≡ 0 → (o.refusal ≡ 0 → ⊥) × (o ≡ alone m.held o.refusal)
  kept v =
      let f = (none_if m way o g).0 v in
      let same = refused_so m way o g f in
      let number : o.refusal ≡ first_of m way = ap (λ (x : Outcome). x.refusal) same in
      (λ e. f (sym number ∙ e), same ∙ ap (alone m.held) (sym number))

  module _ (z : first_of m way ≡ 0) where
    x : Stopped
    x = run (problem rattle m m.tables) (slots (room m)) (asked rattle m way) (search rattle m m.held)

    at : o ≡ outcome_at m x
    unfolding x
    at = passing m way o g z ∙ ap (outcome_at m) (stopped_is m way)

    left : search rattle m o.held ≡ x.search
    unfolding x
    left = search_left m way o g z ∙ ap (λ (y : Stopped). y.search) (stopped_is m way)

    verdict_is : o.verdict ≡ number_of (verdict_of m.n x.search.memory)
    verdict_is = ap (λ (y : Outcome). y.verdict) at

    taken_is : o.taken ≡ x.taken
    taken_is = ap (λ (y : Outcome). y.taken) at

    refusal_is : o.refusal ≡ x.refusal
    refusal_is = ap (λ (y : Outcome). y.refusal) at

    next_number : o.verdict ≡ 1 → o.taken < length (asked rattle m way)
        → o.refusal ≡ refusal_of_request (problem rattle m m.tables) (slots (room m)) (get_or (asked rattle m way) o.taken []) (search rattle m o.held)
    unfolding x
    next_number v t =
        ⊎_elim (λ f. absurd (f.verdict (sym verdict_is ∙ v)))
        (λ w. ⊎_elim
        (λ f. refusal_is ∙ f.refusal ∙ (λ i. refusal_of_request (problem rattle m m.tables) (slots (room m)) (get_or (asked rattle m way) (sym taken_is i) []) (sym left i)))
        (λ f. absurd (let all = f.taken in omega (arith, all, taken_is, t))) w)
        (stops (problem rattle m m.tables) (slots (room m)) (asked rattle m way) (search rattle m m.held)).1

    next_some : o.verdict ≡ 1 → o.taken < length (asked rattle m way) → o.refusal ≡ 0 → ⊥
    unfolding x
    next_some v t e =
        ⊎_elim (λ f. f.verdict (sym verdict_is ∙ v))
        (λ w. ⊎_elim (λ f. f.refused (sym refusal_is ∙ e)) (λ f. absurd (let all = f.taken in omega (arith, all, taken_is, t))) w)
        (stops (problem rattle m m.tables) (slots (room m)) (asked rattle m way) (search rattle m m.held)).1

    no_number : (o.verdict ≡ 1 → o.taken < length (asked rattle m way) → ⊥) → o.refusal ≡ 0
    unfolding x
    no_number f =
        refusal_is
        ∙ ⊎_elim (λ h. h.refusal) (λ w. ⊎_elim (λ h. absurd (f (verdict_is ∙ h.verdict) (let few = h.request in omega (arith, few, taken_is)))) (λ h. h.refusal) w)
        (stops (problem rattle m m.tables) (slots (room m)) (asked rattle m way) (search rattle m m.held)).1

    fits_left : length (search rattle m o.held).memory ≤ room m
    fits_left = subst (λ (y : Search). length y.memory ≤ room m) (sym (search_left m way o g z)) (passes_left m way o g z).fits

    stands : (q : Outcome) → rattle.GoingOn m (front rattle m.n o.taken way) q
        → q ≡ record { held = o.held; verdict = o.verdict; taken = o.taken; refusal = 0 }
    stands q h =
        let y = stopped_of m way in
        let o_is : o ≡ outcome_at m y = passing m way o g z in
        let t : o.taken ≡ y.taken = ap (λ (v : Outcome). v.taken) o_is in
        let (pass, whole) = handed m way g.3 z in
        let (w, alone-is) = alone_stops m way whole in
        let h' : rattle.GoingOn m (front rattle m.n y.taken way) q =
        subst (λ (i : ℕ). rattle.GoingOn m (front rattle m.n i way) q) t h in
        let q-is = passing m (front rattle m.n y.taken way) q h' (passes_first m (front rattle m.n y.taken way) pass w) in
        q-is ∙ ap (outcome_at m) alone-is ∙ (λ i. record { held = (sym o_is i).held; verdict = (sym o_is i).verdict; taken = (sym o_is i).taken; refusal = 0 })

    one_step : o.taken ≡ 1 → (P : Subproblem) (S : List Subproblem) → (search rattle m m.held).memory ≡ P ∷ S
        → (search rattle m o.held).memory ≡ pieces m.n (problem rattle m m.tables).allowed P (get_or (asked rattle m way) 0 []) ++ S
    unfolding x step split_top
    one_step e P S top =
        ap (λ (y : Search). y.memory) (left ∙ (few_taken (problem rattle m m.tables) (slots (room m)) (asked rattle m way) (search rattle m m.held)).1 (sym taken_is ∙ e))
        ∙ ap (split_top (problem rattle m m.tables) (get_or (asked rattle m way) 0 [])) top

  passes : (o.verdict ≡ 0 → ⊥) → first_of m way ≡ 0
  passes = passed m way o g

  pub said : Said rattle m way o
  said = (
    record {
      first = λ k some none. subst (FirstOf (checks rattle m (listed way) ((6, Deserves6 (problem rattle m m.tables) m.held.agenda m.held.steps m.held.checks m.held.subproblems) ∷ [])))
          (sym (first_number k some none)) (first_of_table m way);
      kept = kept;
      next = λ P S v t top.
          let z : first_of m way ≡ 0 = passes (λ e. absurd (omega arith)) in
          let q : List ℕ = get_or (asked rattle m way) o.taken [] in (
            next_some z v t,
            subst (FirstOf (refusals_of_request (problem rattle m m.tables) o.held.steps P q (Deserves12 (problem rattle m m.tables) (room m) P S q)))
                (sym (next_number z v t))
                (slots_refusals (problem rattle m m.tables) (room m) P S (search rattle m o.held) q top (rw top at (fits_left z))),
          );
      none = λ some f. no_number (passes some) f;
      stands = λ some q h. stands (passes some) q h;
    },
    record {
      step = λ e P S top. one_step (passes (λ v. absurd (let none = ap (λ (y : Outcome). y.taken) (kept v).1 in omega (arith, none, e)))) e P S top;
      solved = λ e. solved_so e;
      unsolvable = λ some. unsolvable_so some;
    },
  )
    where
      solved_so : o.verdict ≡ 2 → Shown (problem rattle m m.tables) (search rattle m o.held).memory
      solved_so e =
          let z : first_of m way ≡ 0 = passes (λ v. absurd (omega arith)) in
          subst (λ (i : ℕ). Shown (problem rattle m m.tables) (stack_of m.n o.held.agenda i)) (sym g.1.its_subproblems)
          ((says_so m way o g z).solved (sym g.1.its_verdict ∙ e))

      unsolvable_so : (o.verdict ≡ 0 → ⊥) → (o.verdict ≡ 3) ↔ (o.held.subproblems ≡ 0)
      unsolvable_so some =
          let both = (says_so m way o g (passes some)).unsolvable in (
            (λ e. g.1.its_subproblems ∙ both.0 (sym g.1.its_verdict ∙ e)),
            (λ e. g.1.its_verdict ∙ both.1 (sym g.1.its_subproblems ∙ e)),
          )
