-- Two tables that agree at every place of two different variables: the same run and the same chooser, of every search that passes.
-- Assumes nothing.
use mathlib.Core.Path.{◌≡◌, refl, sym, ap, ◌∙◌}
use mathlib.Core.Logic.{◌⊎◌, inl, inr, ⊎_elim}
use mathlib.Core.Bool.{Bool, true, false, cond, ◌&&◌, ◌||◌}
use mathlib.Core.List.Memᴰ
use mathlib.Core.List.{List, ◌∷◌, ◌++◌}
use Prim.Native.Nat.{ℕ, zero, suc, ◌+◌, ◌≤◌, ◌<◌}
use native.Mathlib.Omega.{arith}
use native.Mathlib.Nat.{le_refl}
use native.Mathlib.Decide.{ℕ_discrete}
use lib.Dec.{eqb, ltb}
use borrow.Author.Tests.{eq-eqb, ne_eqb, eqb-true, eqb-false}
use Rattle.problem.specs.Masks.{bit, ◌∈◌, size, lowest}
use Rattle.problem.specs.Problem.{Problem, Table, AllowSame}
use Rattle.splits.specs.Subproblems.{domain, Instantiated, all_instantiated}
use Rattle.splits.specs.Refusals.{Accepted}
use Rattle.splits.specs.Tests.Refusals.{refusal_of}
use Rattle.splitting.specs.Promises.{Splits}
use Rattle.splits.specs.declared.subproblem.Subproblem.{Subproblem}
use Rattle.problem.proofs.mask.Masks.{bit_le, member_lt}
use Rattle.problem.proofs.Tests.{true_false}
use Rattle.problem.proofs.Products.{last}
use Rattle.splitting.proofs.Pieces.{Held}
use Rattle.splitting.proofs.Splitting.{lowest_in}
use Rattle.splits.proofs.Apart.{precluded_same}
use Rattle.search.specs.Slots.{slots, Search, Stopped}
use Rattle.searches.specs.Verdicts.{finished}
use Rattle.searches.specs.Steps.{stop, step}
use Rattle.searches.specs.Tests.Refusal.{refusal_of_top, refusal_of_request}
use Rattle.searches.specs.Runs.{run_from, run}
use Rattle.searches.specs.Machines.{split_top}
use Rattle.searches.specs.Chooser.{fewest_of, fewest, request, chosen_of, chosen, choose_from, choose}
use Rattle.searches.specs.Reached.{Passes}
use Rattle.searches.proofs.Verdicts.{running_top, finished_top, instantiated_all}
use Rattle.searches.proofs.Runs.{after, run_finished, run_taken, run_refused, run_ind}
use Rattle.splits.proofs.Promises.{request_accepted}
use Rattle.searches.proofs.Passing.{splits, step_passes}
use Rattle.search.proofs.Slots.{slots_lawful, step_is}
use Rattle.files.proofs.Agreeing.{pieces_same, checks_same}

-- ---- the variable chosen

-- Of the first i, it is one that is not instantiated; or all are, and it is n.
fewest_so_far : (n : ℕ) (P : Subproblem) (i : ℕ) → i ≤ n
    → ((fewest_of n P i < n) × (bit P.marked (fewest_of n P i) ≡ 0)) ⊎ ((fewest_of n P i ≡ n) × ((k : ℕ) → k < i → Instantiated P k))
unfolding fewest_of
fewest_so_far n P zero h = inr (refl, λ k l. absurd (omega arith))
fewest_so_far n P (suc i) h =
    go (eqb (bit P.marked i) 0) refl (eqb (fewest_of n P i) n) refl (ltb (size (domain P i)) (size (domain P (fewest_of n P i))))
    (fewest_so_far n P i (omega arith))
  where
    Way : ℕ → ℕ → Type 0
    Way x i = ((x < n) × (bit P.marked x ≡ 0)) ⊎ ((x ≡ n) × ((k : ℕ) → k < i → Instantiated P k))

    taken : eqb (bit P.marked i) 0 ≡ true → Way i (suc i)
    taken e = inl (omega arith, eqb-true (bit P.marked i) 0 e)

    go : (a : Bool) → eqb (bit P.marked i) 0 ≡ a → (b : Bool) → eqb (fewest_of n P i) n ≡ b → (c : Bool)
        → Way (fewest_of n P i) i → Way (cond (a && (b || c)) i (fewest_of n P i)) (suc i)
    go true e true f c w = taken e
    go true e false f true w = taken e
    go true e false f false (inl w) = inl w
    go true e false f false (inr w) = absurd (eqb-false (fewest_of n P i) n f w.0)
    go false e b f c (inl w) = inl w
    go false e b f c (inr w) =
        let m : Instantiated P i = omega (arith, bit_le P.marked i, eqb-false (bit P.marked i) 0 e) in
        inr (w.0, λ k l. ⊎_elim (λ (q : k ≡ i). rw q m) (λ (q : k < i). w.1 k q) (last l))

-- Of a running search's top it is a variable that is not instantiated.
fewest_free : (n : ℕ) (P : Subproblem) → all_instantiated n P ≡ false → (fewest n P < n) × (bit P.marked (fewest n P) ≡ 0)
fewest_free n P e = ⊎_elim (λ w. w) (λ w. absurd (true_false (sym (instantiated_all n P w.1) ∙ e))) (fewest_so_far n P n (le_refl n))

module _ (p : Problem) (g : Table) (agree : AllowSame p.n p.d p.allowed g) (room : ℕ) where
  -- The problem with the other table.
  abbrev other : Problem
  other = record { n = p.n; d = p.d; domain = p.domain; allowed = g }

  -- ---- a request

  top_same : (P : Subproblem) (S : List Subproblem) (s : Search) (r : List ℕ) → Passes p (slots room) s → s.memory ≡ P ∷ S
      → refusal_of_top p ((slots room).full p r (P ∷ S)) r (P ∷ S) ≡ refusal_of_top other ((slots room).full other r (P ∷ S)) r (P ∷ S)
  unfolding refusal_of_top split_top
  top_same P S s r h top = elim (ℕ_discrete (refusal_of p.n p.d P r) 0) [
    | yes e ↦
        let split : Splits p P r = record
        { proper = h.proper; rules = h.rules P (rw top (Memᴰ.head refl)); accepted = (request_accepted p.n p.d P r).0 e } in
        rw (pieces_same split g agree) refl
    | no f ↦ rw (ne_eqb (refusal_of p.n p.d P r) 0 f) refl
  ]

  request_same : (P : Subproblem) (S : List Subproblem) (s : Search) (r : List ℕ) → Passes p (slots room) s → s.memory ≡ P ∷ S
      → refusal_of_request p (slots room) r s ≡ refusal_of_request other (slots room) r s
  unfolding refusal_of_request
  request_same P S s r h top = rw top (ap (λ (x : ℕ). cond (eqb s.steps 4294967295) 11 x) (top_same P S s r h top))

  step_same : (P : Subproblem) (S : List Subproblem) (s : Search) (r : List ℕ) → Passes p (slots room) s → s.memory ≡ P ∷ S → refusal_of_request p (slots room) r s ≡ 0
      → step p (slots room) r s ≡ step other (slots room) r s
  step_same P S s r h top e =
      let split : Splits p P r = splits p (slots room) (slots_lawful room) P S s r h top e in
      step_is p room P S s r top
      ∙ (λ i. record {
        memory = pieces_same split g agree i ++ S;
        steps = s.steps + 1;
        checks = s.checks + checks_same split g agree i;
      })
      ∙ sym (step_is other room P S s r top)

  -- ---- a run

  -- A run stops alike.
  pub run_same : (rs : List (List ℕ)) (s : Search) → Passes p (slots room) s → run p (slots room) rs s ≡ run other (slots room) rs s
  unfolding run_from
  run_same =
      run_ind p (slots room) (λ rs s x. Passes p (slots room) s → x ≡ run other (slots room) rs s) (λ s h. refl)
      (λ r rs s e h. sym (run_finished other (slots room) (r ∷ rs) s e))
      (λ r rs s e k h.
      let (P, S, top) = running_top p.n s.memory e in
      let same = request_same P S s r h top in
      ap (λ (k : ℕ). stop s k 0) same ∙ sym (run_refused other (slots room) r rs s e (λ z. k (same ∙ z))))
      (λ r rs s x e k more h.
      let (P, S, top) = running_top p.n s.memory e in
      let same = request_same P S s r h top in
      ap (after 1) (more (step_passes p (slots room) (slots_lawful room) P S s r h top k) ∙ ap (run other (slots room) rs) (step_same P S s r h top k)) ∙ sym (run_taken other (slots room) r rs s e (sym same ∙ k)))

  -- ---- the chooser

  -- The request that it may choose is accepted.
  three_accepted : (P : Subproblem) (V' v : ℕ) → V' < p.n → bit P.marked V' ≡ 0 → v < p.d → v ∈ domain P V'
      → Accepted p.n p.d P (request 3 V' v)
  three_accepted P V' v l free m has = record {
    not_7 = λ x. ⊎_elim (λ (y : 3 < 1). absurd (omega arith)) (λ (y : 5 < 3). absurd (omega arith)) x;
    not_8 = λ x. ⊎_elim (λ (y : p.n ≤ V'). absurd (omega arith)) (λ (y : Instantiated P V'). absurd (omega arith)) x.1;
    not_9 = λ x.
        ⊎_elim
        (λ (y : ((1 ≤ 3) × (3 ≤ 3)) × ((p.d ≤ v) ⊎ (v ∈ domain P V' → ⊥))). ⊎_elim (λ (z : p.d ≤ v). absurd (omega arith)) (λ z. z has) y.1)
        (λ (y : (3 ≡ 4) × (size (domain P V') ≡ 1)). absurd (omega (arith, y.0))) x;
    not_10 = λ x. absurd (omega (arith, x.0));
  }

  chosen_same : (P : Subproblem) (S : List Subproblem) (s : Search) → Passes p (slots room) s → s.memory ≡ P ∷ S → all_instantiated p.n P ≡ false
      → chosen p (slots room) (P ∷ S) ≡ chosen other (slots room) (P ∷ S)
  unfolding chosen chosen_of split_top
  chosen_same P S s h top e =
      let V' = fewest p.n P in
      let v = lowest (domain P V') in
      let (l, free) = fewest_free p.n P e in
      let rules = h.rules P (rw top (Memᴰ.head refl)) in
      let held : Held p P = record { proper = h.proper; rules = rules } in
      let has : v ∈ domain P V' = lowest_in held V' l in
      let m : v < p.d = member_lt p.d (p.domain V') v (h.proper.domains V' l) (rules.part V' l v has) in
      let split : Splits p P (request 3 V' v) = record { proper = h.proper; rules = rules; accepted = three_accepted P V' v l free m has } in
      rw (precluded_same p.n p.allowed g P V' v (λ i k f. agree V' i v l k f m), pieces_same split g agree) refl

  choose_from_lem : (m : ℕ) (s : Search) (k : ℕ) → Passes p (slots room) s → choose_from p (slots room) m s k ≡ choose_from other (slots room) m s k
  unfolding choose_from
  choose_from_lem zero s k h = refl
  choose_from_lem (suc m) s k h = go (choose_from_lem m) (finished p.n s.memory) refl
    where
      r : List ℕ
      r = chosen p (slots room) s.memory

      r' : List ℕ
      r' = chosen other (slots room) s.memory

      first : Stopped
      first =
          cond (eqb (refusal_of_request p (slots room) r s) 0) (choose_from p (slots room) m (step p (slots room) r s) (k + 1))
          (stop s (refusal_of_request p (slots room) r s) k)

      second : Stopped
      second =
          cond (eqb (refusal_of_request other (slots room) r' s) 0) (choose_from other (slots room) m (step other (slots room) r' s) (k + 1))
          (stop s (refusal_of_request other (slots room) r' s) k)

      request_is : (P : Subproblem) (S : List Subproblem) → s.memory ≡ P ∷ S → all_instantiated p.n P ≡ false → r ≡ r'
      request_is P S top e = rw top (chosen_same P S s h top e)

      free : (P : Subproblem) (S : List Subproblem) → s.memory ≡ P ∷ S → finished p.n s.memory ≡ false → all_instantiated p.n P ≡ false
      free P S top e = sym (finished_top p.n P S) ∙ rw top at e

      next : ((t : Search) (j : ℕ) → Passes p (slots room) t → choose_from p (slots room) m t j ≡ choose_from other (slots room) m t j) → finished p.n s.memory ≡ false
          → first ≡ second
      next more e =
          let (P, S, top) = running_top p.n s.memory e in
          let same : r ≡ r' = request_is P S top (free P S top e) in
          let refusals : refusal_of_request p (slots room) r s ≡ refusal_of_request other (slots room) r' s = request_same P S s r h top ∙ ap
          (λ (x : List ℕ). refusal_of_request other (slots room) x s) same in
          elim (ℕ_discrete (refusal_of_request p (slots room) r s) 0) [
            | yes z ↦
                rw (eq-eqb (refusal_of_request p (slots room) r s) 0 z, eq-eqb (refusal_of_request other (slots room) r' s) 0 (sym refusals ∙ z))
                (more (step p (slots room) r s) (k + 1) (step_passes p (slots room) (slots_lawful room) P S s r h top z)
                ∙ ap (λ (t : Search). choose_from other (slots room) m t (k + 1)) (step_same P S s r h top z ∙ ap (λ (x : List ℕ). step other (slots room) x s) same))
            | no f ↦
                rw (ne_eqb (refusal_of_request p (slots room) r s) 0 f, ne_eqb (refusal_of_request other (slots room) r' s) 0 (λ z. f (refusals ∙ z)))
                (ap (λ (x : ℕ). stop s x k) refusals)
          ]

      go : ((t : Search) (j : ℕ) → Passes p (slots room) t → choose_from p (slots room) m t j ≡ choose_from other (slots room) m t j) → (b : Bool)
          → finished p.n s.memory ≡ b
          → cond b (stop s 0 k) first ≡ cond b (stop s 0 k) second
      go more true e = refl
      go more false e = next more e

  -- The chooser stops alike.
  pub choose_same : (limit : ℕ) (s : Search) → Passes p (slots room) s → choose p (slots room) limit s ≡ choose other (slots room) limit s
  choose_same limit s h = choose_from_lem limit s 0 h
