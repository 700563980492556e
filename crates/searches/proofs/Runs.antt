-- How a run goes: its induction, what it takes, and a run of two lists.
-- Assumes nothing.
use mathlib.Core.Path.{◌≡◌, refl, sym, ap, ◌∙◌}
use mathlib.Core.Logic.{◌⊎◌, inl, inr}
use mathlib.Core.Bool.{Bool, true, false, cond}
use mathlib.Core.List.{List, [], ◌∷◌, ◌++◌}
use Prim.Native.Nat.{ℕ, suc, ◌+◌, ◌≤◌}
use native.Mathlib.Omega.{arith}
use native.Mathlib.Nat.{zero-add, add_assoc}
use native.Mathlib.Numerals.{one-add}
use lib.ListN.{length, take, drop}
use lib.Dec.{eqb}
use borrow.Author.Tests.{eq-eqb, ne_eqb, eqb-true, eqb-false}
use Rattle.problem.specs.Problem.{Problem}
use Rattle.searches.specs.Verdicts.{number_of, verdict_of, finished}
use Rattle.searches.specs.Machines.{Machine}
use Rattle.searches.specs.Steps.{Search, Stopped, stop, step}
use Rattle.searches.specs.Tests.Refusal.{refusal_of_request}
use Rattle.searches.specs.Runs.{run_from, run}
use Rattle.searches.specs.Promises.{Finished, Refused, Ended}
use Rattle.searches.proofs.Verdicts.{finished_not, running, is_run_on}

-- A stop with so many more taken before.
abbrev pub after : {A : Type 0} → ℕ → Stopped A → Stopped A
after k x = stop x.search x.refusal (k + x.taken)

-- With none taken before it is the same.
pub after_none : {A : Type 0} (x : Stopped A) → x ≡ after 0 x
after_none x = λ i. stop x.search x.refusal (sym (zero-add x.taken) i)

module _ (p : Problem) (M : Machine) where
  -- What was taken before is added to what is taken.
  pub before : (j k : ℕ) (rs : List (List ℕ)) (s : Search M.Memory) → run_from p M rs s (j + k) ≡ after j (run_from p M rs s k)
  unfolding run_from
  before j k [] s = refl
  before j k (r ∷ rs) s = go (finished p.n (M.stack p s.memory)) (eqb (refusal_of_request p M r s) 0)
      (ap (run_from p M rs (step p M r s)) (add_assoc j k 1) ∙ before j (k + 1) rs (step p M r s))
    where
      go : (a b : Bool) → run_from p M rs (step p M r s) (j + k + 1) ≡ after j (run_from p M rs (step p M r s) (k + 1))
          → cond a (stop s 0 (j + k)) (cond b (run_from p M rs (step p M r s) (j + k + 1))
          (stop s (refusal_of_request p M r s) (j + k)))
          ≡ after j (cond a (stop s 0 k) (cond b (run_from p M rs (step p M r s) (k + 1))
          (stop s (refusal_of_request p M r s) k)))
      go true b e = refl
      go false true e = e
      go false false e = refl

  -- A run of one request and more: on a finished search, where the request is taken, and where it is refused.
  pub run_finished : (rs : List (List ℕ)) (s : Search M.Memory) → finished p.n (M.stack p s.memory) ≡ true → run p M rs s ≡ stop s 0 0
  unfolding run_from
  run_finished [] s e = refl
  run_finished (r ∷ rs) s e = rw e refl

  pub run_taken : (r : List ℕ) (rs : List (List ℕ)) (s : Search M.Memory) → finished p.n (M.stack p s.memory) ≡ false → refusal_of_request p M r s ≡ 0
      → run p M (r ∷ rs) s ≡ after 1 (run p M rs (step p M r s))
  unfolding run_from
  run_taken r rs s e h = rw (e, eq-eqb (refusal_of_request p M r s) 0 h) (before 1 0 rs (step p M r s))

  pub run_refused : (r : List ℕ) (rs : List (List ℕ)) (s : Search M.Memory) → finished p.n (M.stack p s.memory) ≡ false → (refusal_of_request p M r s ≡ 0 → ⊥)
      → run p M (r ∷ rs) s ≡ stop s (refusal_of_request p M r s) 0
  unfolding run_from
  run_refused r rs s e h = rw (e, ne_eqb (refusal_of_request p M r s) 0 h)

  -- What holds of a run at each way that it goes holds of every run.
  pub run_ind : (C : List (List ℕ) → Search M.Memory → Stopped M.Memory → Type 0)
      → ((s : Search M.Memory) → C [] s (stop s 0 0))
      → ((r : List ℕ) (rs : List (List ℕ)) (s : Search M.Memory) → finished p.n (M.stack p s.memory) ≡ true → C (r ∷ rs) s (stop s 0 0))
      → ((r : List ℕ) (rs : List (List ℕ)) (s : Search M.Memory) → finished p.n (M.stack p s.memory) ≡ false → (refusal_of_request p M r s ≡ 0 → ⊥)
      → C (r ∷ rs) s (stop s (refusal_of_request p M r s) 0))
      → ((r : List ℕ) (rs : List (List ℕ)) (s : Search M.Memory) (x : Stopped M.Memory) → finished p.n (M.stack p s.memory) ≡ false → refusal_of_request p M r s ≡ 0
      → C rs (step p M r s) x → C (r ∷ rs) s (after 1 x))
      → (rs : List (List ℕ)) (s : Search M.Memory) → C rs s (run p M rs s)
  unfolding run_from
  run_ind C end fin ref take [] s = end s
  run_ind C end fin ref take (r ∷ rs) s =
      go (finished p.n (M.stack p s.memory)) refl (eqb (refusal_of_request p M r s) 0) refl (run_ind C end fin ref take rs (step p M r s))
    where
      go : (a : Bool) → finished p.n (M.stack p s.memory) ≡ a → (b : Bool) → eqb (refusal_of_request p M r s) 0 ≡ b
          → C rs (step p M r s) (run p M rs (step p M r s)) → C (r ∷ rs) s (run p M (r ∷ rs) s)
      go true e b f h = rw (run_finished (r ∷ rs) s e) (fin r rs s e)
      go false e true f h =
          let k : refusal_of_request p M r s ≡ 0 = eqb-true _ 0 f in
          rw (run_taken r rs s e k) (take r rs s (run p M rs (step p M r s)) e k h)
      go false e false f h =
          let k : refusal_of_request p M r s ≡ 0 → ⊥ = eqb-false _ 0 f in
          rw (run_refused r rs s e k) (ref r rs s e k)

  -- A run of two lists.
  pub two_lists : (qs rs : List (List ℕ)) (s : Search M.Memory)
      → run p M (rs ++ qs) s ≡ after (run p M rs s).taken (run p M (drop (run p M rs s).taken (rs ++ qs)) (run p M rs s).search)
  two_lists qs =
      run_ind (λ rs s x. run p M (rs ++ qs) s ≡ after x.taken (run p M (drop x.taken (rs ++ qs)) x.search))
      (λ s. after_none _) (λ r rs s e. after_none _) (λ r rs s e h. after_none _)
      (λ r rs s x e h same. run_taken r (rs ++ qs) s e h ∙ ap (after 1) same ∙ further r (rs ++ qs) x)
    where
      further : (r : List ℕ) (l : List (List ℕ)) (x : Stopped M.Memory) → after 1 (after x.taken (run p M (drop x.taken l) x.search))
          ≡ after (1 + x.taken) (run p M (drop (1 + x.taken) (r ∷ l)) x.search)
      further r l x =
          let y = run p M (drop x.taken l) x.search in
          rw (one-add x.taken) (λ i. stop y.search y.refusal (more x.taken y.taken i))
        where
          more : (a b : ℕ) → 1 + (a + b) ≡ suc a + b
          more a b = omega arith

  -- A run takes no more than there are, and stops in one of three ways.
  pub stops : (rs : List (List ℕ)) (s : Search M.Memory)
      → ((run p M rs s).taken ≤ length rs) × (Finished p M (run p M rs s) ⊎ Refused p M rs (run p M rs s) ⊎ Ended rs (run p M rs s))
  stops =
      run_ind (λ rs s x. (x.taken ≤ length rs) × (Finished p M x ⊎ Refused p M rs x ⊎ Ended rs x))
      (λ s. (omega arith, inr (inr (record { refusal = refl; taken = refl }))))
      (λ r rs s e.
      (omega arith, inl (record { verdict = λ h. finished_not p.n (M.stack p s.memory) e (is_run_on (verdict_of p.n (M.stack p s.memory)) h); refusal = refl })))
      (λ r rs s e h.
      (omega arith, inr (inl (record { verdict = ap number_of (running p.n (M.stack p s.memory) e); request = omega arith; refusal = refl; refused = h }))))
      (λ r rs s x e h same. (omega (arith, same.0), more r rs x same.1))
    where
      more : (r : List ℕ) (rs : List (List ℕ)) (x : Stopped M.Memory) → Finished p M x ⊎ Refused p M rs x ⊎ Ended rs x
          → Finished p M (after 1 x) ⊎ Refused p M (r ∷ rs) (after 1 x) ⊎ Ended (r ∷ rs) (after 1 x)
      more r rs x (inl f) = inl (record { verdict = f.verdict; refusal = f.refusal })
      more r rs x (inr (inl f)) = inr (inl (record {
        verdict = f.verdict;
        request = omega (arith, f.request);
        refusal = rw one-add f.refusal;
        refused = f.refused;
      }))
      more r rs x (inr (inr f)) = inr (inr (record { refusal = f.refusal; taken = omega (arith, f.taken) }))

  -- The requests taken, run alone.
  pub taken_alone : (rs : List (List ℕ)) (s : Search M.Memory)
      → run p M (take (run p M rs s).taken rs) s ≡ stop (run p M rs s).search 0 (run p M rs s).taken
  unfolding run_from
  taken_alone =
      run_ind (λ rs s x. run p M (take x.taken rs) s ≡ stop x.search 0 x.taken)
      (λ s. refl) (λ r rs s e. refl) (λ r rs s e h. refl)
      (λ r rs s x e h same.
      rw one-add (run_taken r (take x.taken rs) s e h ∙ ap (after 1) same
      ∙ (λ i. stop x.search 0 (one-add x.taken i))))

  -- Each request taken is one step.
  pub run_steps : (rs : List (List ℕ)) (s : Search M.Memory) → (run p M rs s).search.steps ≡ s.steps + (run p M rs s).taken
  unfolding step
  run_steps =
      run_ind (λ rs s x. x.search.steps ≡ s.steps + x.taken)
      (λ s. omega arith) (λ r rs s e. omega arith) (λ r rs s e h. omega arith) (λ r rs s x e h same. omega (arith, same))
