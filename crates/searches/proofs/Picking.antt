-- The house chooser: which variable, value and kind it chooses, that the request is accepted, and that the chooser is a run.
-- Assumes nothing.
use mathlib.Core.Path.{◌≡◌, refl, sym, ap, ◌∙◌}
use mathlib.Core.Logic.{◌⊎◌, inl, inr, ⊎_elim}
use mathlib.Core.Bool.{Bool, true, false, cond, ◌&&◌, ◌||◌}
use mathlib.Core.List.{List, ◌∷◌}
use Prim.Native.Nat.{ℕ, zero, suc, ◌+◌, ◌-◌, ◌≤◌, ◌<◌}
use native.Mathlib.Omega.{arith}
use native.Mathlib.Nat.{le_refl}
use native.Mathlib.Decide.{dec_lt}
use lib.Dec.{eqb, ltb}
use borrow.Author.Tests.{eq-eqb, ne_eqb, lt-ltb, le-ltb, eqb-true, eqb-false}
use Rattle.problem.specs.Masks.{bit, ◌∈◌, size, lowest, LowestIn}
use Rattle.problem.specs.Problem.{Problem}
use Rattle.splits.specs.Subproblems.{domain, Instantiated, all_instantiated, empty}
use Rattle.splits.specs.Requests.{kind_of, variable_of, value_of}
use Rattle.splits.specs.Splits.{precluded}
use Rattle.splits.specs.Refusals.{Deserves7, Deserves8, Deserves9, Accepted}
use Rattle.splits.specs.declared.subproblem.Subproblem.{Subproblem}
use Rattle.problem.proofs.mask.Masks.{bit_le, member_lt, lowest_least}
use Rattle.problem.proofs.Tests.{true_false, some_found, some_none}
use Rattle.problem.proofs.Products.{last}
use Rattle.splitting.proofs.Pieces.{Held}
use Rattle.splitting.proofs.Splitting.{lowest_in, domain_lt}
use Rattle.searches.specs.Verdicts.{number_of, verdict_of, finished}
use Rattle.searches.specs.Machines.{Machine, Lawful}
use Rattle.searches.specs.Steps.{Search, Stopped, stop, step}
use Rattle.searches.specs.Tests.Refusal.{refusal_of_request}
use Rattle.searches.specs.Runs.{run_from}
use Rattle.searches.specs.Chooser.{fewest_of, fewest, request_for, chosen_of, chosen, choose_from, choose}
use Rattle.searches.specs.Reached.{Passes}
use Rattle.searches.specs.Promises.{Finished, ChoiceRefused, AtLimit, Fewest, Chosen, picks}
use Rattle.searches.proofs.Verdicts.{finished_not, running, is_run_on, running_top, finished_top, instantiated_all}
use Rattle.searches.proofs.Runs.{after, after_none, before}
use Rattle.searches.proofs.Refusals.{only_11_12}
use Rattle.searches.proofs.Passing.{top_held, step_passes}

-- ---- a run of picks

pub picked : (p : Problem) (M : Machine) (m : ℕ) (s : Search M.Memory) (k : ℕ) → choose_from p M m s k ≡ run_from p M (picks p M m s) s k
unfolding choose_from run_from picks
picked p M zero s k = refl
picked p M (suc m) s k = rw (picked p M m (step p M (chosen p M s.memory) s) (k + 1))

-- ---- how the chooser goes

module _ (p : Problem) (M : Machine) where
  -- The refusal of what it chooses, and the search after it.
  abbrev pub met : Search M.Memory → ℕ
  met s = refusal_of_request p M (chosen p M s.memory) s

  abbrev pub next : Search M.Memory → Search M.Memory
  next s = step p M (chosen p M s.memory) s

  -- A step more: on a finished search, where what is chosen is taken, and where it is refused.
  pub choose_finished : (m : ℕ) (s : Search M.Memory) → finished p.n (M.stack p s.memory) ≡ true → choose p M m s ≡ stop s 0 0
  unfolding choose_from
  choose_finished zero s e = refl
  choose_finished (suc m) s e = rw e refl

  pub choose_taken : (m : ℕ) (s : Search M.Memory) → finished p.n (M.stack p s.memory) ≡ false → met s ≡ 0
      → choose p M (suc m) s ≡ after 1 (choose p M m (next s))
  unfolding choose_from
  choose_taken m s e h =
      rw (e, eq-eqb (met s) 0 h)
      (picked p M m (next s) 1 ∙ before p M 1 0 (picks p M m (next s)) (next s) ∙ ap (after 1) (sym (picked p M m (next s) 0)))

  pub choose_refused : (m : ℕ) (s : Search M.Memory) → finished p.n (M.stack p s.memory) ≡ false → (met s ≡ 0 → ⊥)
      → choose p M (suc m) s ≡ stop s (met s) 0
  unfolding choose_from
  choose_refused m s e h = rw (e, ne_eqb (met s) 0 h)

  -- What holds of the chooser at each way that it goes holds of it always.
  pub choose_ind : (C : ℕ → Search M.Memory → Stopped M.Memory → Type 0)
      → ((s : Search M.Memory) → C 0 s (stop s 0 0))
      → ((m : ℕ) (s : Search M.Memory) → finished p.n (M.stack p s.memory) ≡ true → C (suc m) s (stop s 0 0))
      → ((m : ℕ) (s : Search M.Memory) → finished p.n (M.stack p s.memory) ≡ false → (met s ≡ 0 → ⊥) → C (suc m) s (stop s (met s) 0))
      → ((m : ℕ) (s : Search M.Memory) (x : Stopped M.Memory) → finished p.n (M.stack p s.memory) ≡ false → met s ≡ 0
      → C m (next s) x → C (suc m) s (after 1 x))
      → (m : ℕ) (s : Search M.Memory) → C m s (choose p M m s)
  unfolding choose_from
  choose_ind C end fin ref take zero s = end s
  choose_ind C end fin ref take (suc m) s =
      go (finished p.n (M.stack p s.memory)) refl (eqb (met s) 0) refl (choose_ind C end fin ref take m (next s))
    where
      go : (a : Bool) → finished p.n (M.stack p s.memory) ≡ a → (b : Bool) → eqb (met s) 0 ≡ b
          → C m (next s) (choose p M m (next s)) → C (suc m) s (choose p M (suc m) s)
      go true e b f h = rw (choose_finished (suc m) s e) (fin m s e)
      go false e true f h =
          let k : met s ≡ 0 = eqb-true _ 0 f in
          rw (choose_taken m s e k) (take m s (choose p M m (next s)) e k h)
      go false e false f h =
          let k : met s ≡ 0 → ⊥ = eqb-false _ 0 f in
          rw (choose_refused m s e k) (ref m s e k)

  -- It takes no more steps than its limit, and stops in one of three ways.
  pub choose_stops : (m : ℕ) (s : Search M.Memory)
      → ((choose p M m s).taken ≤ m) × (Finished p M (choose p M m s) ⊎ ChoiceRefused p M m (choose p M m s) ⊎ AtLimit m (choose p M m s))
  choose_stops =
      choose_ind (λ m s x. (x.taken ≤ m) × (Finished p M x ⊎ ChoiceRefused p M m x ⊎ AtLimit m x))
      (λ s. (omega arith, inr (inr (record { refusal = refl; taken = refl }))))
      (λ m s e.
      (omega arith, inl (record { verdict = λ h. finished_not p.n (M.stack p s.memory) e (is_run_on (verdict_of p.n (M.stack p s.memory)) h); refusal = refl })))
      (λ m s e h.
      (omega arith, inr (inl (record { verdict = ap number_of (running p.n (M.stack p s.memory) e); below = omega arith; refusal = refl; refused = h }))))
      (λ m s x e h same. (omega (arith, same.0), more m x same.1))
    where
      more : (m : ℕ) (x : Stopped M.Memory) → Finished p M x ⊎ ChoiceRefused p M m x ⊎ AtLimit m x
          → Finished p M (after 1 x) ⊎ ChoiceRefused p M (suc m) (after 1 x) ⊎ AtLimit (suc m) (after 1 x)
      more m x (inl f) = inl (record { verdict = f.verdict; refusal = f.refusal })
      more m x (inr (inl f)) = inr (inl (record { verdict = f.verdict; below = omega (arith, f.below); refusal = f.refusal; refused = f.refused }))
      more m x (inr (inr f)) = inr (inr (record { refusal = f.refusal; taken = omega (arith, f.taken) }))

  -- ---- the chooser cut in two

  again : (m : ℕ) (s : Search M.Memory) → choose p M m s ≡ after 0 (choose p M (m - 0) s)
  again m s = let e : m ≡ m - 0 = omega arith in ap (λ (k : ℕ). choose p M k s) e ∙ after_none (choose p M (m - 0) s)

  -- Up to m steps, and then up to k more.
  pub two_limits : (k m : ℕ) (s : Search M.Memory)
      → choose p M (m + k) s ≡ after (choose p M m s).taken (choose p M ((m + k) - (choose p M m s).taken) (choose p M m s).search)
  two_limits k =
      choose_ind (λ m s x. choose p M (m + k) s ≡ after x.taken (choose p M ((m + k) - x.taken) x.search))
      (λ s. again (0 + k) s) (λ m s e. again (suc m + k) s) (λ m s e h. again (suc m + k) s)
      (λ m s x e h so_far.
      let up : suc m + k ≡ suc (m + k) = omega arith in
      let rest : (m + k) - x.taken ≡ (suc m + k) - (1 + x.taken) = omega arith in
      ap (λ (N : ℕ). choose p M N s) up ∙ choose_taken (m + k) s e h ∙ ap (after 1) so_far ∙ further x _ _ rest)
    where
      further : (x : Stopped M.Memory) (a b : ℕ) → a ≡ b
          → after 1 (after x.taken (choose p M a x.search)) ≡ after (1 + x.taken) (choose p M b x.search)
      further x a b e =
          let y = choose p M b x.search in
          let sum : 1 + (x.taken + y.taken) ≡ (1 + x.taken) + y.taken = omega arith in
          rw e (λ i. stop y.search y.refusal (sum i))

-- ---- the variable

-- Every one of the first i is instantiated, or the variable chosen so far is the one with the fewest values.
abbrev SoFar : ℕ → Subproblem → ℕ → ℕ → Type 0
SoFar n P i V' = ((V' ≡ n) × ((j : ℕ) → j < i → Instantiated P j)) ⊎ Fewest i P V'

module _ (n : ℕ) (P : Subproblem) where
  -- A variable more that is instantiated, that has fewer values, that has not.
  skip : (i V' : ℕ) → Instantiated P i → SoFar n P i V' → SoFar n P (suc i) V'
  skip i V' m (inl (e, h)) = inl (e, λ j l. ⊎_elim (λ (q : j ≡ i). rw q m) (λ (k : j < i). h j k) (last l))
  skip i V' m (inr q) = inr (record {
    variable = omega (arith, q.variable);
    uninstantiated = q.uninstantiated;
    fewest = λ j l u. ⊎_elim (λ (e : j ≡ i). absurd (u (rw e m))) (λ (k : j < i). q.fewest j k u) (last l);
    first = q.first;
  })

  start : (i : ℕ) → (Instantiated P i → ⊥) → ((j : ℕ) → j < i → Instantiated P j) → Fewest (suc i) P i
  start i m h = record {
    variable = le_refl (suc i);
    uninstantiated = m;
    fewest = λ j l u. ⊎_elim (λ (e : j ≡ i). rw e (le_refl (size (domain P i)))) (λ (k : j < i). absurd (u (h j k))) (last l);
    first = λ j l u. absurd (u (h j l));
  }

  fewer : (i V' : ℕ) → (Instantiated P i → ⊥) → Fewest i P V' → size (domain P i) < size (domain P V') → Fewest (suc i) P i
  fewer i V' m q s = record {
    variable = le_refl (suc i);
    uninstantiated = m;
    fewest = λ j l u. ⊎_elim (λ (e : j ≡ i). rw e (le_refl (size (domain P i)))) (λ (k : j < i). omega (arith, q.fewest j k u)) (last l);
    first = λ j l u. omega (arith, q.fewest j l u);
  }

  not_fewer : (i V' : ℕ) → Fewest i P V' → size (domain P V') ≤ size (domain P i) → Fewest (suc i) P V'
  not_fewer i V' q s = record {
    variable = omega (arith, q.variable);
    uninstantiated = q.uninstantiated;
    fewest = λ j l u. ⊎_elim (λ (e : j ≡ i). rw e s) (λ (k : j < i). q.fewest j k u) (last l);
    first = q.first;
  }

  so_far : (i : ℕ) → i ≤ n → SoFar n P i (fewest_of n P i)
  unfolding fewest_of
  so_far zero l = inl (refl, λ j k. absurd (omega arith))
  so_far (suc i) l = go (bit P.marked i) refl (so_far i (omega arith))
    where
      V₀ : ℕ
      V₀ = fewest_of n P i

      free : SoFar n P i V₀ → (Instantiated P i → ⊥) → SoFar n P (suc i) (cond (eqb V₀ n || ltb (size (domain P i)) (size (domain P V₀))) i V₀)
      free (inl (e, h)) m = rw (eq-eqb V₀ n e) (inr (start i m h))
      free (inr q) m = rw (ne_eqb V₀ n (λ e. omega (arith, q.variable))) (test (dec_lt (size (domain P i)) (size (domain P V₀))))
        where
          test : Dec (size (domain P i) < size (domain P V₀)) → SoFar n P (suc i) (cond (ltb (size (domain P i)) (size (domain P V₀))) i V₀)
          test (yes s) = rw (lt-ltb (size (domain P i)) (size (domain P V₀)) s) (inr (fewer i V₀ m q s))
          test (no s) =
              let k : size (domain P V₀) ≤ size (domain P i) = omega arith in
              rw (le-ltb (size (domain P i)) (size (domain P V₀)) k) (inr (not_fewer i V₀ q k))

      go : (b : ℕ) → bit P.marked i ≡ b → SoFar n P i V₀
          → SoFar n P (suc i) (cond (eqb b 0 && (eqb V₀ n || ltb (size (domain P i)) (size (domain P V₀)))) i V₀)
      go zero e q = free q (λ m. omega arith)
      go (suc zero) e q = skip i V₀ e q
      go (suc (suc b)) e q = absurd (omega (arith, bit_le P.marked i))

  -- Where not all are instantiated, it is the one with the fewest values.
  pub fewest_is : all_instantiated n P ≡ false → Fewest n P (fewest n P)
  fewest_is h = ⊎_elim (λ a. absurd (true_false (sym (instantiated_all n P a.1) ∙ h))) (λ q. q) (so_far n (le_refl n))

-- ---- the request

-- A request of kind 2 or 3 on a variable not instantiated, with a value of its domain, is accepted.
pub accepted : (n d : ℕ) (P : Subproblem) (r : List ℕ) → (kind_of r ≡ 2) ⊎ (kind_of r ≡ 3) → variable_of r < n → (Instantiated P (variable_of r) → ⊥)
    → value_of r < d → value_of r ∈ domain P (variable_of r) → Accepted n d P r
accepted n d P r e k new l m =
    let two : 2 ≤ kind_of r = ⊎_elim (λ (q : kind_of r ≡ 2). omega arith) (λ (q : kind_of r ≡ 3). omega arith) e in
    let three : kind_of r ≤ 3 = ⊎_elim (λ (q : kind_of r ≡ 2). omega arith) (λ (q : kind_of r ≡ 3). omega arith) e in
    record { not_7 = not_7 two three; not_8 = not_8; not_9 = not_9 three; not_10 = λ h. omega (arith, h.0, three) }
  where
    not_7 : 2 ≤ kind_of r → kind_of r ≤ 3 → Deserves7 r → ⊥
    not_7 two three (inl h) = omega arith
    not_7 two three (inr h) = omega arith

    not_8 : Deserves8 n P r → ⊥
    not_8 (_, inl h) = omega arith
    not_8 (_, inr o) = new o

    not_9 : kind_of r ≤ 3 → Deserves9 d P r → ⊥
    not_9 three (inl (_, inl h)) = omega arith
    not_9 three (inl (_, inr h)) = h m
    not_9 three (inr h) = omega (arith, h.0)

module _ (p : Problem) (M : Machine) (m : M.Memory) (P : Subproblem) (S : List Subproblem) (top : M.stack p m ≡ P ∷ S) (held : Held p P)
    (running : all_instantiated p.n P ≡ false) where
  V₁ : ℕ
  V₁ = fewest p.n P

  few : Fewest p.n P V₁
  unfolding V₁
  few = fewest_is p.n P running

  low : LowestIn (domain P V₁) (lowest (domain P V₁))
  low = record {
    member = lowest_in held V₁ few.variable;
    least = λ u. lowest_least (domain P V₁) u (domain_lt held V₁ few.variable);
  }

  -- It is the one that the rule chooses.
  pub chosen_so : Chosen p (λ r. M.full p r m ≡ true) P (chosen p M m)
  unfolding V₁ chosen chosen_of empty
  chosen_so = rw top (go (empty p.n Q) refl (M.full p (request_for p P 3) m) refl)
    where
      Q : Subproblem
      Q = precluded p.n p.allowed P V₁ (lowest (domain P V₁))

      go : (a : Bool) → empty p.n Q ≡ a → (b : Bool) → M.full p (request_for p P 3) m ≡ b
          → Chosen p (λ r. M.full p r m ≡ true) P (cond (a || b) (request_for p P 2) (request_for p P 3))
      go true e b f =
          let (i, k, z) = some_found (λ i. eqb (domain Q i) 0) p.n e in
          record { variable = few; value = low; kind = inl (refl, inl (i, k, eqb-true (domain Q i) 0 z)) }
      go false e true f = record { variable = few; value = low; kind = inl (refl, inr f) }
      go false e false f = record {
        variable = few;
        value = low;
        kind =
            inr (
              refl,
              ⊎_elim (λ w. eqb-false _ 0 (some_none (λ i. eqb (domain Q i) 0) p.n w.0 w.1 e) w.2) (λ w. true_false (sym w ∙ f)),
            );
      }

  -- So it is accepted.
  pub chosen_accepted : Accepted p.n p.d P (chosen p M m)
  chosen_accepted =
      let c = chosen_so in
      let r : List ℕ = chosen p M m in
      accepted p.n p.d P r (⊎_elim (λ k. inl k.0) (λ k. inr k.0) c.kind) c.variable.variable c.variable.uninstantiated
      (member_lt p.d (p.domain (variable_of r)) (value_of r) (held.proper.domains (variable_of r) c.variable.variable)
      (held.rules.part (variable_of r) c.variable.variable (value_of r) c.value.member))
      c.value.member

-- ---- the chooser

-- A top that runs.
pub top_running : (p : Problem) (M : Machine) (m : M.Memory) (P : Subproblem) (S : List Subproblem) → M.stack p m ≡ P ∷ S
    → finished p.n (M.stack p m) ≡ false → all_instantiated p.n P ≡ false
top_running p M m P S top e = sym (finished_top p.n P S) ∙ rw top at e

-- A pick meets only 11 and 12.
pick_refusals : (p : Problem) (M : Machine) (s : Search M.Memory) → Passes p M s → finished p.n (M.stack p s.memory) ≡ false
    → (met p M s ≡ 0) ⊎ (met p M s ≡ 11) ⊎ (met p M s ≡ 12)
pick_refusals p M s h e =
    let (P, S, top) = running_top p.n (M.stack p s.memory) e in
    only_11_12 p M P S s (chosen p M s.memory) top
    (chosen_accepted p M s.memory P S top (top_held p M P S s h top) (top_running p M s.memory P S top e))

-- What a pick leaves passes.
pub pick_passes : (p : Problem) (M : Machine) → Lawful M → (s : Search M.Memory) → Passes p M s → finished p.n (M.stack p s.memory) ≡ false
    → met p M s ≡ 0 → Passes p M (next p M s)
pick_passes p M law s h e k =
    let (P, S, top) = running_top p.n (M.stack p s.memory) e in
    step_passes p M law P S s (chosen p M s.memory) h top k

-- So does the chooser.
pub choose_refusals : (p : Problem) (M : Machine) → Lawful M → (m : ℕ) (s : Search M.Memory) → Passes p M s →
    let k : ℕ = (choose p M m s).refusal in (k ≡ 0) ⊎ (k ≡ 11) ⊎ (k ≡ 12)
choose_refusals p M law =
    choose_ind p M (λ m s x. Passes p M s → (x.refusal ≡ 0) ⊎ (x.refusal ≡ 11) ⊎ (x.refusal ≡ 12)) (λ s h. inl refl) (λ m s e h. inl refl)
    (λ m s e k h. pick_refusals p M s h e) (λ m s x e k more h. more (pick_passes p M law s h e k))
