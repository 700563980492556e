-- The requests that a run took, run alone.
-- Assumes nothing.
use mathlib.Core.Path.{◌≡◌, sym, ap, ◌∙◌}
use mathlib.Core.List.{List}
use Prim.Native.Nat.{ℕ, ◌+◌, ◌-◌, ◌*◌, ◌/◌, ◌≤◌}
use native.Mathlib.Omega.{arith}
use native.Mathlib.Nat.{mul-le-mul_right, add-mul, mul-div_cancel}
use lib.ListN.{length, take, drop, length-drop, take-append-drop}
use lib.Seq.{length-take-le, take_at}
use Rattle.problem.specs.Problem.{problem_of}
use Rattle.search.specs.Agenda.{slots_in, agenda_of}
use Rattle.searches.specs.Verdicts.{number_of, verdict_of}
use Rattle.search.specs.Slots.{slots, Stopped}
use Rattle.searches.specs.Machines.{Machine}
use Rattle.searches.specs.Steps.{stop}
use Rattle.searches.specs.Runs.{run, requests_in}
use Rattle.search.specs.FirstChecks.{WholeRequests}
use Rattle.search.specs.Calls.{search_of}
use Rattle.search.proofs.first_checks.FirstPassing.{run_is_passed}
use Rattle.searches.proofs.Promises.{taken, stops}
use Rattle.files.proofs.Requests.{cut_length, requests_append}
use Rattle.word_bytes.specs.Bytes.{Whole, words_of, bytes_of}
use Rattle.word_bytes.proofs.Words.{words_length, words_front}
use Rattle.console.specs.Searches.{by_requests}
use Rattle.console.specs.Promises.{TakenStand}
use Rattle.console.proofs.Going.{state_in, list_of, first_of, stopped_of, outcome_is, went, passes_so, requests_whole}

-- How many requests whole requests are.
pub requests_number : (n : ℕ) (words : List ℕ) (k : ℕ) → length words ≡ k * (n + 3) → length (requests_in n words) ≡ k
unfolding requests_in
requests_number n words k e =
    cut_length (length words / (n + 3)) (n + 3) words ∙ ap (λ (j : ℕ). j / (n + 3)) e ∙ mul-div_cancel k (omega arith)

-- The first t of the requests are those of the first t × (n + 3) words.
front_requests : (n : ℕ) (words : List ℕ) (m t : ℕ) → length words ≡ m * (n + 3) → t ≤ m
    → (length (take (t * (n + 3)) words) ≡ t * (n + 3)) × (requests_in n (take (t * (n + 3)) words) ≡ take t (requests_in n words))
front_requests n words m t e h =
    let k : ℕ = t * (n + 3) in
    let inside : t * (n + 3) ≤ m * (n + 3) = mul-le-mul_right (n + 3) h in
    let long : length (take k words) ≡ k = length-take-le k words (omega arith) in
    let sum : t + (m - t) ≡ m = omega arith in
    let both : m * (n + 3) ≡ t * (n + 3) + (m - t) * (n + 3) = ap (λ (j : ℕ). j * (n + 3)) (sym sum) ∙ add-mul t (m - t) (n + 3) in
    let rest : length (drop k words) ≡ (m - t) * (n + 3) = length-drop k words ∙ omega arith in
    let split = ap (requests_in n) (sym (take-append-drop k words)) ∙ requests_append n (take k words) (drop k words) (t, long) (m - t, rest) in (
      long,
      sym (ap (take t) split ∙ take_at (requests_in n (take k words)) (requests_in n (drop k words)) t (requests_number n (take k words) t long)),
    )

pub taken_left : TakenStand
unfolding list_of first_of stopped_of
taken_left n d domains tables requests s o q typed h some g =
    let p = passes_so n d domains tables s (by_requests requests) o typed h some in
    let (m, whole) = requests_whole n d domains tables requests s p.first in
    let pr = problem_of n d (words_of domains) (words_of tables) in
    let room : Machine = slots (slots_in n (length (words_of s.agenda))) in
    let x0 = search_of n (words_of s.agenda) (state_in s) in
    let rs = requests_in n (words_of requests) in
    let x : Stopped = run pr room rs x0 in
    let e = p.goes.ends in
    let t : o.taken ≡ x.taken = p.goes.out.its_taken ∙ rw p.first at e.taken in
    let few : o.taken ≤ m = omega (arith, (stops pr room rs x0).0, requests_number n (words_of requests) m whole) in
    let k : ℕ = o.taken * (n + 3) in
    let (long, front) = front_requests n (words_of requests) m o.taken whole few in
    let inside : o.taken * (n + 3) ≤ m * (n + 3) = mul-le-mul_right (n + 3) few in
    let fewer : 2 * k ≤ length requests = omega (arith, words_length requests) in
    let even : Whole (take (2 * k) requests) = rw (length-take-le (2 * k) requests fewer) (omega arith) in
    let says : words_of (take (2 * k) requests) ≡ take k (words_of requests) = words_front k requests in
    let y = went n d domains tables s (by_requests (take (2 * k) requests)) q p.whole even g in
    let passed = run_is_passed n d (words_of domains) (words_of tables) (words_of s.agenda) s.steps s.checks s.subproblems in
    let its_length : WholeRequests n (length (words_of (take (2 * k) requests))) = (o.taken, ap length says ∙ long) in
    let first = (passed (words_of (take (2 * k) requests))).1 (((passed (words_of requests)).0 p.first).0, its_length) in
    let same : run pr room (requests_in n (words_of (take (2 * k) requests))) x0 ≡ stop x.search 0 x.taken =
    ap (λ (l : List (List ℕ)). run pr room l x0) (ap (requests_in n) says ∙ front ∙ ap (λ (j : ℕ). take j rs) t) ∙ taken pr room rs x0 in
    let f = y.ends in
    let after : words_of q.held.agenda ≡ words_of o.held.agenda =
    (rw first at f.agenda) ∙ ap (λ (z : Stopped). agenda_of n (length (words_of s.agenda)) z.search.memory) same
    ∙ sym (rw p.first at e.agenda) in
    outcome_is q (record { held = o.held; verdict = o.verdict; taken = o.taken; refusal = 0 })
    (y.said ∙ ap bytes_of after ∙ sym p.goes.said)
    (y.out.its_steps ∙ (rw first at f.steps) ∙ ap (λ (z : Stopped). z.search.steps) same ∙ sym (rw p.first at e.steps)
    ∙ sym p.goes.out.its_steps)
    (y.out.its_checks ∙ (rw first at f.checks) ∙ ap (λ (z : Stopped). z.search.checks) same ∙ sym (rw p.first at e.checks)
    ∙ sym p.goes.out.its_checks)
    (y.out.its_subproblems ∙ (rw first at f.subproblems) ∙ ap (λ (z : Stopped). length z.search.memory) same
    ∙ sym (rw p.first at e.subproblems) ∙ sym p.goes.out.its_subproblems)
    (y.out.its_verdict ∙ ap number_of ((rw first at f.verdict) ∙ ap (λ (z : Stopped). verdict_of n z.search.memory) same
    ∙ sym (rw p.first at e.verdict)) ∙ sym p.goes.out.its_verdict)
    (y.out.its_taken ∙ (rw first at f.taken) ∙ ap (λ (z : Stopped). z.taken) same ∙ sym t)
    (y.out.its_refusal ∙ (rw first at f.refusal) ∙ ap (λ (z : Stopped). z.refusal) same)
