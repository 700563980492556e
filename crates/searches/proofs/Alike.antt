-- Two machines whose memories read as one stack: their runs and choosers stop alike where neither is refused for want of room.
-- Assumes nothing.
use mathlib.Core.Path.{◌≡◌, refl, sym, ap, subst, ◌∙◌}
use mathlib.Core.Logic.{⊎_elim}
use mathlib.Core.Bool.{Bool, true, false, cond, ◌||◌}
use mathlib.Core.List.{List, [], ◌∷◌}
use Prim.Native.Nat.{ℕ, zero, suc, ◌+◌}
use native.Mathlib.Omega.{arith}
use native.Mathlib.Decide.{ℕ_discrete}
use lib.ListN.{get_or}
use lib.Dec.{eqb}
use borrow.Author.Tests.{eqb-true, eqb-false}
use Rattle.problem.specs.Masks.{lowest}
use Rattle.problem.specs.Problem.{Problem}
use Rattle.splits.specs.Subproblems.{domain, empty}
use Rattle.splits.specs.Splits.{precluded}
use Rattle.splits.specs.Checks.{checks}
use Rattle.splits.specs.Tests.Refusals.{refusal_of}
use Rattle.splits.specs.declared.subproblem.Subproblem.{Subproblem}
use Rattle.problem.proofs.Tests.{true_false}
use Rattle.searches.specs.Verdicts.{number_of, verdict_of, finished}
use Rattle.searches.specs.Machines.{Machine, Lawful, stacks}
use Rattle.searches.specs.Steps.{Search, Stopped, stop, step}
use Rattle.searches.specs.Tests.Refusal.{refusal_of_request}
use Rattle.searches.specs.Runs.{run_from, run}
use Rattle.searches.specs.Chooser.{fewest, request_for, chosen_of, chosen, choose_from, choose}
use Rattle.searches.specs.Reached.{Passes}
use Rattle.searches.specs.Promises.{Alike, StopAlike, Unturned, read_out}
use Rattle.searches.proofs.Verdicts.{is_run_on, is_running, running_top}
use Rattle.searches.proofs.Runs.{after, run_finished, run_taken, run_refused, stops}
use Rattle.searches.proofs.Refusals.{refusal_is, first_refusal, is_12}
use Rattle.searches.proofs.Passing.{top_held, step_checks, step_fits, step_stack}
use Rattle.searches.proofs.Picking.{met, next, choose_finished, choose_taken, choose_refused, choose_stops, chosen_accepted, top_running, pick_passes}

module _ (p : Problem) (M N : Machine) where
  -- Stops of searches alike, with one refusal and as many taken.
  stop_alike : (s : Search M.Memory) (t : Search N.Memory) (k j : ℕ) → k ≡ j → Alike p M N s t → StopAlike p M N (stop s k 0) (stop t j 0)
  stop_alike s t k j e same = record { verdict = ap (verdict_of p.n) same.stack; refusal = e; taken = refl; search = same }

  after_alike : (x : Stopped M.Memory) (y : Stopped N.Memory) → StopAlike p M N x y → StopAlike p M N (after 1 x) (after 1 y)
  after_alike x y same = record { verdict = same.verdict; refusal = same.refusal; taken = ap (λ (k : ℕ). 1 + k) same.taken; search = same.search }

  -- What one machine's search is finished by finishes the other's.
  finished_alike : (s : Search M.Memory) (t : Search N.Memory) (b : Bool) → Alike p M N s t → finished p.n (M.stack p s.memory) ≡ b
      → finished p.n (N.stack p t.memory) ≡ b
  finished_alike s t b same e = ap (finished p.n) (sym same.stack) ∙ e

  module _ (s : Search M.Memory) (t : Search N.Memory) (same : Alike p M N s t) (P : Subproblem) (S : List Subproblem)
      (top : M.stack p s.memory ≡ P ∷ S) (r : List ℕ) where
    other : N.stack p t.memory ≡ P ∷ S
    other = sym same.stack ∙ top

    -- A request is refused alike where it is refused by 12 on neither.
    refused_alike : (refusal_of_request p M r s ≡ 12 → ⊥) → (refusal_of_request p N r t ≡ 12 → ⊥) → refusal_of_request p M r s ≡ refusal_of_request p N r t
    refused_alike f g =
        let mine = refusal_is p M P S s r top in
        let its = refusal_is p N P S t r other in
        rw (mine, its, ← same.steps)
        (go (eqb s.steps 4294967295) (eqb (refusal_of p.n p.d P r) 0) (M.full p r s.memory) (N.full p r t.memory) (λ e. f (mine ∙ e))
        (λ e. g (its ∙ rw (← same.steps) e)))
      where
        given : Bool → Bool → Bool → ℕ
        given a b c = cond a 11 (cond b (cond c 12 0) (refusal_of p.n p.d P r))

        go : (a b c d : Bool) → (given a b c ≡ 12 → ⊥) → (given a b d ≡ 12 → ⊥) → given a b c ≡ given a b d
        go true b c d f g = refl
        go false false c d f g = refl
        go false true true d f g = absurd (f refl)
        go false true false true f g = absurd (g refl)
        go false true false false f g = refl

    -- Taken, it leaves searches alike.
    step_alike : Lawful M → Lawful N → M.Fits p s.memory → N.Fits p t.memory → refusal_of_request p M r s ≡ 0 → refusal_of_request p N r t ≡ 0
        → Alike p M N (step p M r s) (step p N r t)
    unfolding step
    step_alike law law' fits fits' e f = record {
      stack = step_stack p M law P S s r fits top e ∙ sym (step_stack p N law' P S t r fits' other f);
      steps = ap (λ (k : ℕ). k + 1) same.steps;
      checks =
          step_checks p M P S s r top ∙ ap (λ (k : ℕ). k + checks p.n p.allowed P r) same.checks ∙ sym (step_checks p N P S t r other);
    }

-- ---- runs

-- A run that is not refused by 12 is not at its first request.
not_twelve : (p : Problem) (M : Machine) (r : List ℕ) (rs : List (List ℕ)) (s : Search M.Memory) → finished p.n (M.stack p s.memory) ≡ false
    → ((run p M (r ∷ rs) s).refusal ≡ 12 → ⊥) → refusal_of_request p M r s ≡ 12 → ⊥
not_twelve p M r rs s e f h =
    let some : refusal_of_request p M r s ≡ 0 → ⊥ = λ z. omega (arith, h, z) in
    f (ap (λ (x : Stopped M.Memory). x.refusal) (run_refused p M r rs s e some) ∙ h)

module _ (p : Problem) (M N : Machine) (law : Lawful M) (law' : Lawful N) where
  -- One request more.
  turn_alike : (r : List ℕ) (rs : List (List ℕ)) (s : Search M.Memory) (t : Search N.Memory) → M.Fits p s.memory → N.Fits p t.memory
      → Alike p M N s t → ((run p M (r ∷ rs) s).refusal ≡ 12 → ⊥) → ((run p N (r ∷ rs) t).refusal ≡ 12 → ⊥)
      → (M.Fits p (step p M r s).memory → N.Fits p (step p N r t).memory → Alike p M N (step p M r s) (step p N r t)
      → ((run p M rs (step p M r s)).refusal ≡ 12 → ⊥) → ((run p N rs (step p N r t)).refusal ≡ 12 → ⊥)
      → StopAlike p M N (run p M rs (step p M r s)) (run p N rs (step p N r t)))
      → StopAlike p M N (run p M (r ∷ rs) s) (run p N (r ∷ rs) t)
  turn_alike r rs s t fits fits' same f g more = go (finished p.n (M.stack p s.memory)) refl (eqb (refusal_of_request p M r s) 0) refl
    where
      go : (a : Bool) → finished p.n (M.stack p s.memory) ≡ a → (b : Bool) → eqb (refusal_of_request p M r s) 0 ≡ b
          → StopAlike p M N (run p M (r ∷ rs) s) (run p N (r ∷ rs) t)
      go true e b h =
          rw (run_finished p M (r ∷ rs) s e, run_finished p N (r ∷ rs) t (finished_alike p M N s t true same e)) (stop_alike p M N s t 0 0 refl same)
      go false e true h =
          let (P, S, top) = running_top p.n (M.stack p s.memory) e in
          let e' = finished_alike p M N s t false same e in
          let one : refusal_of_request p M r s ≡ 0 = eqb-true _ 0 h in
          let two : refusal_of_request p N r t ≡ 0 = sym
          (refused_alike p M N s t same P S top r (not_twelve p M r rs s e f) (not_twelve p N r rs t e' g)) ∙ one in
          let mine = run_taken p M r rs s e one in
          let its = run_taken p N r rs t e' two in
          rw (mine, its)
          (after_alike p M N _ _
          (more (step_fits p M law P S s r fits top one) (step_fits p N law' P S t r fits' (other p M N s t same P S top r) two)
          (step_alike p M N s t same P S top r law law' fits fits' one two)
          (λ z. f (ap (λ (x : Stopped M.Memory). x.refusal) mine ∙ z)) (λ z. g (ap (λ (x : Stopped N.Memory). x.refusal) its ∙ z))))
      go false e false h =
          let (P, S, top) = running_top p.n (M.stack p s.memory) e in
          let e' = finished_alike p M N s t false same e in
          let one : refusal_of_request p M r s ≡ 0 → ⊥ = eqb-false _ 0 h in
          let both : refusal_of_request p M r s ≡ refusal_of_request p N r t =
          refused_alike p M N s t same P S top r (not_twelve p M r rs s e f) (not_twelve p N r rs t e' g) in
          rw (run_refused p M r rs s e one, run_refused p N r rs t e' (λ z. one (both ∙ z))) (stop_alike p M N s t _ _ both same)

  pub runs_alike : (rs : List (List ℕ)) (s : Search M.Memory) (t : Search N.Memory) → M.Fits p s.memory → N.Fits p t.memory
      → Alike p M N s t → ((run p M rs s).refusal ≡ 12 → ⊥) → ((run p N rs t).refusal ≡ 12 → ⊥) → StopAlike p M N (run p M rs s) (run p N rs t)
  unfolding run_from
  runs_alike [] s t fits fits' same f g = stop_alike p M N s t 0 0 refl same
  runs_alike (r ∷ rs) s t fits fits' same f g = turn_alike r rs s t fits fits' same f g (runs_alike rs (step p M r s) (step p N r t))

-- ---- choosers

-- A chooser that is not refused by 12 is not at its first pick.
not_picked_twelve : (p : Problem) (M : Machine) (m : ℕ) (s : Search M.Memory) → finished p.n (M.stack p s.memory) ≡ false
    → ((choose p M (suc m) s).refusal ≡ 12 → ⊥) → met p M s ≡ 12 → ⊥
not_picked_twelve p M m s e f h =
    let some : met p M s ≡ 0 → ⊥ = λ z. omega (arith, h, z) in
    f (ap (λ (x : Stopped M.Memory). x.refusal) (choose_refused p M m s e some) ∙ h)

-- Where kind 3 has no room kind 2 has none, and the pick is not refused by 12, the room does not decide which it is, or no step is left.
module _ (p : Problem) (M : Machine) (s : Search M.Memory) (passes : Passes p M s) (e : finished p.n (M.stack p s.memory) ≡ false)
    (P : Subproblem) (S : List Subproblem) (top : M.stack p s.memory ≡ P ∷ S) where
  -- The precluded piece, and the pick by it.
  abbrev lost : Bool
  lost = let V' = fewest p.n P in empty p.n (precluded p.n p.allowed P V' (lowest (domain P V')))

  abbrev rule : Bool → List ℕ
  rule full = cond (lost || full) (request_for p P 2) (request_for p P 3)

  pick_is : chosen p M s.memory ≡ rule (M.full p (request_for p P 3) s.memory)
  unfolding chosen chosen_of
  pick_is = rw top

  picked_free : (s.steps ≡ 4294967295 → ⊥)
      → (M.full p (request_for p P 3) s.memory ≡ true → M.full p (request_for p P 2) s.memory ≡ true) → (met p M s ≡ 12 → ⊥)
      → chosen p M s.memory ≡ rule false
  picked_free free unturned f = go lost refl (M.full p (request_for p P 3) s.memory) refl
    where
      go : (a : Bool) → lost ≡ a → (b : Bool) → M.full p (request_for p P 3) s.memory ≡ b → chosen p M s.memory ≡ rule false
      go true l b h = pick_is ∙ rw l refl
      go false l false h = pick_is ∙ rw (l, h) refl
      go false l true h =
          let two : chosen p M s.memory ≡ request_for p P 2 = pick_is ∙ rw (l, h) refl in
          let full : M.full p (chosen p M s.memory) s.memory ≡ true = rw two (unturned h) in
          let accepted = chosen_accepted p M s.memory P S top (top_held p M P S s passes top) (top_running p M s.memory P S top e) in
          absurd (f ((is_12 p M P S s (chosen p M s.memory) top).1 (free, accepted, full)))

-- What is said of the chooser wherever it comes is said of it after a pick.
unturned_next : (p : Problem) (M : Machine) (m : ℕ) (s : Search M.Memory) → finished p.n (M.stack p s.memory) ≡ false → met p M s ≡ 0
    → Unturned p M (suc m) s → Unturned p M m (next p M s)
unturned_next p M m s e h turn k l P S =
    subst
    (λ (x : Stopped M.Memory). M.stack p x.search.memory ≡ P ∷ S → M.full p (request_for p P 3) x.search.memory ≡ true
    → M.full p (request_for p P 2) x.search.memory ≡ true)
    (choose_taken p M k s e h) (turn (suc k) (omega arith) P S)

-- And where it begins.
unturned_here : (p : Problem) (M : Machine) (m : ℕ) (s : Search M.Memory) (P : Subproblem) (S : List Subproblem) → Unturned p M (suc m) s
    → M.stack p s.memory ≡ P ∷ S → M.full p (request_for p P 3) s.memory ≡ true → M.full p (request_for p P 2) s.memory ≡ true
unfolding choose_from
unturned_here p M m s P S turn = turn 0 (omega arith) P S

-- Where all steps are taken a pick is refused by 11.
met_eleven : (p : Problem) (M : Machine) (s : Search M.Memory) (P : Subproblem) (S : List Subproblem) → M.stack p s.memory ≡ P ∷ S
    → s.steps ≡ 4294967295 → met p M s ≡ 11
met_eleven p M s P S top e = (first_refusal p M P S s (chosen p M s.memory) top).0.1 (tt, e)

module _ (p : Problem) (M N : Machine) (law : Lawful M) (law' : Lawful N) where
  -- One pick more.
  pick_alike : (m : ℕ) (s : Search M.Memory) (t : Search N.Memory) → Passes p M s → Passes p N t → Alike p M N s t
      → Unturned p M (suc m) s → Unturned p N (suc m) t
      → ((choose p M (suc m) s).refusal ≡ 12 → ⊥) → ((choose p N (suc m) t).refusal ≡ 12 → ⊥)
      → (Passes p M (next p M s) → Passes p N (next p N t) → Alike p M N (next p M s) (next p N t)
      → Unturned p M m (next p M s) → Unturned p N m (next p N t)
      → ((choose p M m (next p M s)).refusal ≡ 12 → ⊥) → ((choose p N m (next p N t)).refusal ≡ 12 → ⊥)
      → StopAlike p M N (choose p M m (next p M s)) (choose p N m (next p N t)))
      → StopAlike p M N (choose p M (suc m) s) (choose p N (suc m) t)
  pick_alike m s t passes passes' same turn turn' f g more = begins (finished p.n (M.stack p s.memory)) refl
    where
      -- Both are refused by one number.
      refused : (e : finished p.n (M.stack p s.memory) ≡ false) → met p M s ≡ met p N t → (met p M s ≡ 0 → ⊥)
          → StopAlike p M N (choose p M (suc m) s) (choose p N (suc m) t)
      refused e both some =
          rw (choose_refused p M m s e some, choose_refused p N m t (finished_alike p M N s t false same e) (λ z. some (both ∙ z)))
          (stop_alike p M N s t _ _ both same)

      -- Both take one request.
      taken : (e : finished p.n (M.stack p s.memory) ≡ false) (P : Subproblem) (S : List Subproblem) → M.stack p s.memory ≡ P ∷ S
          → chosen p M s.memory ≡ chosen p N t.memory → met p M s ≡ 0 → met p N t ≡ 0
          → StopAlike p M N (choose p M (suc m) s) (choose p N (suc m) t)
      taken e P S top one h k =
          let e' = finished_alike p M N s t false same e in
          let mine = choose_taken p M m s e h in
          let its = choose_taken p N m t e' k in
          let here : refusal_of_request p N (chosen p M s.memory) t ≡ 0 = ap (λ (r : List ℕ). refusal_of_request p N r t) one ∙ k in
          let left : Alike p M N (next p M s) (next p N t) =
          subst (λ (r : List ℕ). Alike p M N (next p M s) (step p N r t)) one
          (step_alike p M N s t same P S top (chosen p M s.memory) law law' passes.fits passes'.fits h here) in
          rw (mine, its)
          (after_alike p M N _ _
          (more (pick_passes p M law s passes e h) (pick_passes p N law' t passes' e' k) left (unturned_next p M m s e h turn)
          (unturned_next p N m t e' k turn')
          (λ z. f (ap (λ (x : Stopped M.Memory). x.refusal) mine ∙ z)) (λ z. g (ap (λ (x : Stopped N.Memory). x.refusal) its ∙ z))))

      -- A search that runs: all steps are taken, or the two picks are one request.
      goes : (e : finished p.n (M.stack p s.memory) ≡ false) (P : Subproblem) (S : List Subproblem) → M.stack p s.memory ≡ P ∷ S
          → Dec (s.steps ≡ 4294967295) → StopAlike p M N (choose p M (suc m) s) (choose p N (suc m) t)
      goes e P S top (yes all) =
          let one = met_eleven p M s P S top all in
          let two = met_eleven p N t P S (sym same.stack ∙ top) (sym same.steps ∙ all) in
          refused e (one ∙ sym two) (λ z. omega (arith, one, z))
      goes e P S top (no free) =
          let e' = finished_alike p M N s t false same e in
          let top' : N.stack p t.memory ≡ P ∷ S = sym same.stack ∙ top in
          let no-12 = not_picked_twelve p M m s e f in
          let no-12' = not_picked_twelve p N m t e' g in
          let one : chosen p M s.memory ≡ chosen p N t.memory =
          picked_free p M s passes e P S top free (unturned_here p M m s P S turn top) no-12
          ∙ sym (picked_free p N t passes' e' P S top' (λ z. free (same.steps ∙ z)) (unturned_here p N m t P S turn' top') no-12') in
          let both : met p M s ≡ met p N t =
          refused_alike p M N s t same P S top (chosen p M s.memory) no-12
          (λ z. no-12' (ap (λ (r : List ℕ). refusal_of_request p N r t) (sym one) ∙ z))
          ∙ ap (λ (r : List ℕ). refusal_of_request p N r t) one in
          elim (ℕ_discrete (met p M s) 0) [
            | yes h ↦ taken e P S top one h (sym both ∙ h)
            | no h ↦ refused e both h
          ]

      begins : (a : Bool) → finished p.n (M.stack p s.memory) ≡ a → StopAlike p M N (choose p M (suc m) s) (choose p N (suc m) t)
      begins true e =
          rw (choose_finished p M (suc m) s e, choose_finished p N (suc m) t (finished_alike p M N s t true same e)) (stop_alike p M N s t 0 0 refl same)
      begins false e = let (P, S, top) = running_top p.n (M.stack p s.memory) e in goes e P S top (ℕ_discrete s.steps 4294967295)

  pub choosers_alike : (m : ℕ) (s : Search M.Memory) (t : Search N.Memory) → Passes p M s → Passes p N t → Alike p M N s t
      → Unturned p M m s → Unturned p N m t → ((choose p M m s).refusal ≡ 12 → ⊥) → ((choose p N m t).refusal ≡ 12 → ⊥)
      → StopAlike p M N (choose p M m s) (choose p N m t)
  unfolding choose_from
  choosers_alike zero s t passes passes' same turn turn' f g = stop_alike p M N s t 0 0 refl same
  choosers_alike (suc m) s t passes passes' same turn turn' f g =
      pick_alike m s t passes passes' same turn turn' f g (choosers_alike m (next p M s) (next p N t))

-- ---- the stack itself

pub stacks_lawful : Lawful stacks
stacks_lawful = record { fits = λ p r S P T t. tt; splits = λ p r S P T t. rw t.top refl }

-- It has room for every request, so that nothing is refused by 12.
request_room : (p : Problem) (r : List ℕ) (s : Search (List Subproblem)) → number_of (verdict_of p.n s.memory) ≡ 1
    → refusal_of_request p stacks r s ≡ 12 → ⊥
request_room p r s runs h =
    let (P, S, top) = running_top p.n s.memory (is_running p.n s.memory (is_run_on (verdict_of p.n s.memory) runs)) in
    true_false (sym ((is_12 p stacks P S s r top).0 h).2)

run_room : (p : Problem) (rs : List (List ℕ)) (s : Search (List Subproblem)) → (run p stacks rs s).refusal ≡ 12 → ⊥
run_room p rs s h =
    ⊎_elim (λ f. let z = f.refusal in omega (arith, z, h))
    (λ k. ⊎_elim (λ f. request_room p (get_or rs (run p stacks rs s).taken []) (run p stacks rs s).search f.verdict (sym f.refusal ∙ h))
    (λ f. let z = f.refusal in omega (arith, z, h)) k) (stops p stacks rs s).1

choose_room : (p : Problem) (m : ℕ) (s : Search (List Subproblem)) → (choose p stacks m s).refusal ≡ 12 → ⊥
choose_room p m s h =
    ⊎_elim (λ f. let z = f.refusal in omega (arith, z, h))
    (λ k. ⊎_elim
    (λ f. request_room p (chosen p stacks (choose p stacks m s).search.memory) (choose p stacks m s).search f.verdict (sym f.refusal ∙ h))
    (λ f. let z = f.refusal in omega (arith, z, h)) k) (choose_stops p stacks m s).1

module _ (p : Problem) (M : Machine) (law : Lawful M) where
  read_alike : (s : Search M.Memory) → Alike p M stacks s (read_out p M s)
  read_alike s = record { stack = refl; steps = refl; checks = refl }

  pub run_reads : (rs : List (List ℕ)) (s : Search M.Memory) → M.Fits p s.memory → ((run p M rs s).refusal ≡ 12 → ⊥)
      → StopAlike p M stacks (run p M rs s) (run p stacks rs (read_out p M s))
  run_reads rs s fits f = runs_alike p M stacks law stacks_lawful rs s (read_out p M s) fits tt (read_alike s) f (run_room p rs (read_out p M s))

  pub chooser_reads : (m : ℕ) (s : Search M.Memory) → Passes p M s → Unturned p M m s → ((choose p M m s).refusal ≡ 12 → ⊥)
      → StopAlike p M stacks (choose p M m s) (choose p stacks m (read_out p M s))
  chooser_reads m s passes turn f =
      let passes' : Passes p stacks (read_out p M s) = record
      { proper = passes.proper; rules = passes.rules; fits = tt; counted = passes.counted; stepped = passes.stepped } in
      choosers_alike p M stacks law stacks_lawful m s (read_out p M s) passes passes' (read_alike s) turn
      (λ k l P S top full. absurd (true_false (sym full))) f (choose_room p m (read_out p M s))
