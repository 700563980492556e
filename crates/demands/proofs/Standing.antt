-- The requests or steps that a call took, alone; and a single one of them.
-- Assumes nothing.
use mathlib.Core.Path.{◌≡◌, refl, sym, ap, ◌∙◌}
use mathlib.Core.List.{List, []}
use Prim.Native.Nat.{ℕ, ◌+◌, ◌-◌, ◌*◌, ◌≤◌, min}
use native.Mathlib.Omega.{arith}
use native.Mathlib.Nat.{mul-le-mul_right, add-mul, one-mul}
use native.Mathlib.Numerals.{one-add}
use lib.ListN.{length, get_or, take, drop, length-drop, take-append-drop}
use lib.Seq.{length-take-le, take_at}
use Rattle.problem.specs.Problem.{Problem}
use Rattle.searches.specs.Machines.{Machine}
use Rattle.searches.specs.Steps.{Search, stop, step}
use Rattle.searches.specs.Runs.{run, requests_in}
use Rattle.searches.specs.Chooser.{choose_from, choose}
use Rattle.searches.proofs.Runs.{after, run_ind, taken_alone, stops}
use Rattle.searches.proofs.Picking.{choose_ind, choose_taken, choose_stops}
use Rattle.search.specs.Slots.{slots}
use Rattle.files.proofs.Requests.{requests_append}
use Rattle.console.specs.Searches.{Way, by_requests, by_chooser, Lent}
use Rattle.console.proofs.Standing.{requests_number}
use Rattle.demands.specs.Promises.{rattle, problem, search, front}
use Rattle.demands.proofs.Calling.{room, stopped_of, WholeWay}

module _ (p : Problem) (M : Machine) where
  -- A run that took none left the search, one that took one took a step.
  pub few_taken : (rs : List (List ℕ)) (s : Search M.Memory)
      → ((run p M rs s).taken ≡ 0 → (run p M rs s).search ≡ s) × ((run p M rs s).taken ≡ 1 → (run p M rs s).search ≡ step p M (get_or rs 0 []) s)
  few_taken =
      run_ind p M (λ rs s x. (x.taken ≡ 0 → x.search ≡ s) × (x.taken ≡ 1 → x.search ≡ step p M (get_or rs 0 []) s))
      (λ s. (λ e. refl, λ e. absurd (omega arith))) (λ r rs s e. (λ e. refl, λ e. absurd (omega arith)))
      (λ r rs s e h. (λ e. refl, λ e. absurd (omega arith)))
      (λ r rs s x e h same. (λ f. absurd (omega arith), λ f. same.0 (omega arith)))

  -- The chooser up to the steps that it took.
  pub chosen_alone : (k : ℕ) (s : Search M.Memory) → choose p M (choose p M k s).taken s ≡ stop (choose p M k s).search 0 (choose p M k s).taken
  unfolding choose_from
  chosen_alone =
      choose_ind p M (λ k s x. choose p M x.taken s ≡ stop x.search 0 x.taken)
      (λ s. refl) (λ k s e. refl) (λ k s e h. refl)
      (λ k s x e h same.
      rw one-add (choose_taken p M x.taken s e h ∙ ap (after 1) same ∙ (λ i. stop x.search 0 (one-add x.taken i))))

-- The first t of whole requests, and those after them.
pub front_requests : (n : ℕ) (l : List ℕ) (j t : ℕ) → length l ≡ j * (n + 3) → t ≤ j
    → (length (take (t * (n + 3)) l) ≡ t * (n + 3)) × (requests_in n (take (t * (n + 3)) l) ≡ take t (requests_in n l))
    × (length (drop (t * (n + 3)) l) ≡ (j - t) * (n + 3))
front_requests n l j t e h =
    let k : ℕ = t * (n + 3) in
    let inside : t * (n + 3) ≤ j * (n + 3) = mul-le-mul_right (n + 3) h in
    let long : length (take k l) ≡ k = length-take-le k l (omega arith) in
    let sum : t + (j - t) ≡ j = omega arith in
    let both : j * (n + 3) ≡ t * (n + 3) + (j - t) * (n + 3) = ap (λ (i : ℕ). i * (n + 3)) (sym sum) ∙ add-mul t (j - t) (n + 3) in
    let rest : length (drop k l) ≡ (j - t) * (n + 3) = length-drop k l ∙ omega arith in
    let split = ap (requests_in n) (sym (take-append-drop k l)) ∙ requests_append n (take k l) (drop k l) (t, long) (j - t, rest) in (
      long,
      sym (ap (take t) split ∙ take_at (requests_in n (take k l)) (requests_in n (drop k l)) t (requests_number n (take k l) t long)),
      rest,
    )

-- The way that was taken is whole, and stops where the whole way does, unrefused.
pub alone_stops : (m : Lent) (way : Way) → WholeWay m.n way
    → WholeWay m.n (front rattle m.n (stopped_of m way).taken way)
    × (stopped_of m (front rattle m.n (stopped_of m way).taken way) ≡ stop (stopped_of m way).search 0 (stopped_of m way).taken)
unfolding stopped_of
alone_stops m (by_requests l) (j, e) =
    let n : ℕ = m.n in
    let rs = requests_in n l in
    let s = search rattle m m.held in
    let t : ℕ = (run (problem rattle m m.tables) (slots (room m)) rs s).taken in
    let few : t ≤ j = omega (arith, (stops (problem rattle m m.tables) (slots (room m)) rs s).0, requests_number n l j e) in
    let (long, front, rest) = front_requests n l j t e few in
    rw (one-mul (t * (n + 3))) ((t, long), ap (λ (qs : List (List ℕ)). run (problem rattle m m.tables) (slots (room m)) qs s) front ∙ taken_alone (problem rattle m m.tables) (slots (room m)) rs s)
alone_stops m (by_chooser k) w =
    let s = search rattle m m.held in
    let t : ℕ = (choose (problem rattle m m.tables) (slots (room m)) k s).taken in
    let least : min t k ≡ t = omega (arith, (choose_stops (problem rattle m m.tables) (slots (room m)) k s).0) in
    (tt, ap (λ (i : ℕ). choose (problem rattle m m.tables) (slots (room m)) i s) least ∙ chosen_alone (problem rattle m m.tables) (slots (room m)) k s)
