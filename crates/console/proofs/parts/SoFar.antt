-- A list of requests run a part at a time: what was run so far, and how it ends.
-- Assumes nothing.
use mathlib.Core.Path.{◌≡◌, refl, sym, ap, subst, ◌∙◌}
use mathlib.Core.Bool.{Bool, true, false, cond}
use mathlib.Core.List.{List, ◌++◌, append_assoc}
use Prim.Native.Nat.{ℕ, ◌+◌, ◌-◌, ◌*◌, ◌/◌, ◌%◌, ◌^◌, ◌≤◌, ◌<◌}
use native.Mathlib.Omega.{arith}
use native.Mathlib.Nat.{zero-add, add-mul, add_assoc, mul-le-mul_right, div-le_self, mul-div_cancel, lt_of_not-le}
use native.Mathlib.Decide.{dec_lt}
use lib.ListN.{length, get_or, take, drop, length-drop, take-append-drop}
use lib.Seq.{length-take-le, take-add, take-length}
use lib.Dec.{eqb}
use borrow.Author.Tests.{eqb-true, eq-eqb}
use Rattle.problem.proofs.Tests.{and_left, and_right, true_false}
use Rattle.search.specs.FirstChecks.{WholeRequests}
use Rattle.searches.specs.Verdicts.{number_of}
use Rattle.searches.specs.Runs.{run, requests_in}
use Rattle.problem.specs.Problem.{problem_of}
use Rattle.search.specs.Agenda.{slots_in}
use Rattle.search.specs.Slots.{slots, Stopped}
use Rattle.search.specs.Calls.{search_of, Ends, Runs}
use Rattle.searches.proofs.Verdicts.{is_run_on}
use Rattle.searches.proofs.Runs.{stops}
use Rattle.search.specs.declared.state.State.{State}
use Rattle.search.specs.Outcomes.{Ran}
use Rattle.searches.specs.declared.verdict.Verdict.TheVariants.{Running}
use Rattle.files.proofs.Requests.{cut_length, whole_append}
use Rattle.word_bytes.specs.Bytes.{Whole, words_of}
use Rattle.console.specs.Loops.Parts.{goes_on, WholeAt, Listed, Part, Narrow}
use Rattle.word_bytes.proofs.Words.{words_length, words_append}
use Rattle.console.proofs.parts.Runs.{joined, run_joined, run_ended, took_all, run_narrow, run_stepped}

-- ---- whole requests in bytes

pub whole_even : (n bytes : ℕ) → WholeAt n bytes → bytes % 2 ≡ 0
whole_even n bytes (k, e) = omega arith

pub whole_words : (n : ℕ) (l : List ℕ) → WholeAt n (length l) → WholeRequests n (length (words_of l))
whole_words n l (k, e) = (k, words_length l ∙ omega (arith, e))

-- of two places one after the other
between : (n a b : ℕ) → WholeAt n a → WholeAt n b → a ≤ b → WholeAt n (b - a)
between n a b (i, e) (j, f) h = elim (dec_lt j i) [
  | yes l ↦
      let up : (j + 1) * (2 * (n + 3)) ≤ i * (2 * (n + 3)) = mul-le-mul_right (2 * (n + 3)) (omega arith) in
      absurd (omega arith)
  | no k ↦
      let sum : i + (j - i) ≡ j = omega (arith, lt_of_not-le k) in
      let both : j * (2 * (n + 3)) ≡ i * (2 * (n + 3)) + (j - i) * (2 * (n + 3)) = ap (λ (m : ℕ). m * (2 * (n + 3))) (sym sum) ∙ add-mul i (j - i)
      (2 * (n + 3)) in
      (j - i, omega arith)
]

-- The last part, and one before it.
pub part_last : (n at bytes : ℕ) → Listed n bytes → at ≤ bytes → WholeAt n at → bytes - at ≤ 400 * (n + 3) → Part n at bytes bytes
part_last n at bytes listed h place l = record {
  after = h;
  within = omega arith;
  short = omega (arith, listed.few);
  more = λ f. absurd (f refl);
  whole = between n at bytes place (listed.requests, listed.whole) h;
  place = (listed.requests, listed.whole);
  rest = (0, omega arith);
}

pub part_full : (n at bytes : ℕ) → Listed n bytes → at ≤ bytes → WholeAt n at → 400 * (n + 3) < bytes - at → Part n at bytes (at + 400 * (n + 3))
part_full n at bytes listed h (k, e) l =
    let place : WholeAt n (at + 400 * (n + 3)) = (k + 200, omega (arith, e)) in
    record {
      after = omega arith;
      within = omega arith;
      short = omega (arith, listed.few);
      more = λ f. omega arith;
      whole = (200, omega arith);
      place = place;
      rest = between n (at + 400 * (n + 3)) bytes place (listed.requests, listed.whole) (omega arith);
    }

-- ---- whether it goes on

goes_refusal : (r : Ran) → goes_on r ≡ true → r.refusal ≡ 0
unfolding goes_on
goes_refusal r e = eqb-true r.refusal 0 (and_left (eqb r.refusal 0) (eqb (number_of r.verdict) 1) e)

goes_running : (r : Ran) → goes_on r ≡ true → r.verdict ≡ Running
unfolding goes_on
goes_running r e = is_run_on r.verdict (eqb-true (number_of r.verdict) 1 (and_right (eqb r.refusal 0) (eqb (number_of r.verdict) 1) e))

stops_not : (r : Ran) → goes_on r ≡ false → r.refusal ≡ 0 → r.verdict ≡ Running → ⊥
unfolding goes_on
stops_not r e f v =
    let one : number_of r.verdict ≡ 1 = ap number_of v in
    true_false (sym (rw (eq-eqb r.refusal 0 f, eq-eqb (number_of r.verdict) 1 one) refl) ∙ e)

-- ---- how many it takes

requests_few : (n : ℕ) (w : List ℕ) → length (requests_in n w) ≤ length w
unfolding requests_in
requests_few n w = rw (cut_length (length w / (n + 3)) (n + 3) w) (div-le_self (length w) (n + 3))

pub requests_count : (n : ℕ) (l : List ℕ) → Listed n (length l) → length (requests_in n (words_of l)) ≡ length l / (2 * (n + 3))
unfolding requests_in
requests_count n l listed =
    let words : length (words_of l) ≡ listed.requests * (n + 3) = words_length l ∙ omega (arith, listed.whole) in
    cut_length (length (words_of l) / (n + 3)) (n + 3) (words_of l) ∙ ap (λ (k : ℕ). k / (n + 3)) words ∙ mul-div_cancel listed.requests
    (omega arith)
    ∙ sym (ap (λ (k : ℕ). k / (2 * (n + 3))) listed.whole ∙ mul-div_cancel listed.requests (omega arith))

ends_taken : (first n k : ℕ) (before left : List ℕ) (s : State) (x : Stopped) (r : Ran) → Ends first n before left s x r → x.taken ≤ k → r.taken ≤ k
ends_taken first n k before left s x r ends h = go (eqb first 0) ends.taken
  where
    go : (b : Bool) → r.taken ≡ cond b x.taken 0 → r.taken ≤ k
    go true e = omega arith
    go false e = omega arith

-- ---- what was run so far

module _ (n d : ℕ) (domains tables before requests : List ℕ) (s : State) where
  -- Of the first `at` bytes of the list `taken` requests were taken, and whatever is run of what they left is run after them.
  pub record SoFar (mid : List ℕ) (state : State) (at taken : ℕ) : Type 0 where
    pub inside : at ≤ length requests
    pub few : taken ≤ at
    pub place : WholeAt n at
    pub on : (b left : List ℕ) (q : Ran) → WholeRequests n (length b) → Runs n d domains tables mid left b state q
        → Runs n d domains tables before left (words_of (take at requests) ++ b) s (joined taken q)

  -- That, of words and steps in their ranges.
  pub record Going (mid : List ℕ) (state : State) (at taken : ℕ) : Type 0 where
    pub far : SoFar mid state at taken
    pub long : length mid ≡ length before
    pub small : (i : ℕ) → get_or mid i 0 < 2 ^ 16
    pub stepped : state.counts.steps.0 < 2 ^ 32
    pub begun : s.counts.steps.0 < 2 ^ 32

  joined_none : (q : Ran) → q ≡ joined 0 q
  joined_none q = λ i. record { verdict = q.verdict; refusal = q.refusal; taken = sym (zero-add q.taken) i; state = q.state }

  pub so_far_none : SoFar before s 0 0
  unfolding words_of
  so_far_none = record {
    inside = omega arith;
    few = omega arith;
    place = (0, omega arith);
    on = λ b left q w h. subst (λ (x : Ran). Runs n d domains tables before left b s x) (joined_none q) h;
  }

module _ {n d : ℕ} {domains tables before requests : List ℕ} {s : State} {mid : List ℕ} {state : State} {at taken end : ℕ}
    (going : Going n d domains tables before requests s mid state at taken) (part : Part n at (length requests) end) {left : List ℕ} {q : Ran}
    (runs : Runs n d domains tables mid left (words_of (take (end - at) (drop at requests))) state q) where
  here : List ℕ
  here = take (end - at) (drop at requests)

  rest : List ℕ
  rest = drop end requests

  here_length : length here ≡ end - at
  unfolding here
  here_length = length-take-le (end - at) (drop at requests) (rw length-drop (omega (arith, part.within)))

  here_whole : WholeRequests n (length (words_of here))
  here_whole = whole_words n here (rw here_length part.whole)

  rest_whole : WholeRequests n (length (words_of rest))
  unfolding rest
  rest_whole = whole_words n rest (rw length-drop part.rest)

  -- It takes no more requests than it has bytes.
  pub part_taken : q.taken ≤ end - at
  unfolding here
  part_taken =
      let few : (run (problem_of n d domains tables) (slots (slots_in n (length mid))) (requests_in n (words_of here)) (search_of n mid state)).taken ≤ length
      (requests_in n (words_of here)) =
      (stops (problem_of n d domains tables) (slots (slots_in n (length mid))) (requests_in n (words_of here)) (search_of n mid state)).0 in
      ends_taken _ n (end - at) mid left state _ q runs (omega (arith, few, requests_few n (words_of here), words_length here, here_length))

  -- The list up to the end of this part, and the whole list.
  upto : take end requests ≡ take at requests ++ here
  unfolding here
  upto = let e : end ≡ at + (end - at) = omega (arith, part.after) in ap (λ (k : ℕ). take k requests) e ∙ take-add at (end - at) requests

  first_even : Whole (take at requests)
  first_even = rw (length-take-le at requests going.far.inside) (whole_even n at going.far.place)

  upto_even : Whole (take end requests)
  upto_even = rw (length-take-le end requests part.within) (whole_even n end part.place)

  upto_words : words_of (take end requests) ≡ words_of (take at requests) ++ words_of here
  upto_words = ap words_of upto ∙ words_append (take at requests) here first_even

  all_words : words_of requests ≡ words_of (take at requests) ++ (words_of here ++ words_of rest)
  unfolding rest
  all_words =
      ap words_of (sym (take-append-drop end requests)) ∙ words_append (take end requests) (drop end requests) upto_even
      ∙ ap (λ (l : List ℕ). l ++ words_of (drop end requests)) upto_words ∙ append_assoc (words_of (take at requests)) (words_of here)
      (words_of (drop end requests))

  -- At the list's end.
  so_far_end : end ≡ length requests → Runs n d domains tables before left (words_of requests) s (joined taken q)
  unfolding here
  so_far_end e =
      let same : words_of requests ≡ words_of (take at requests) ++ words_of here =
      ap words_of (sym (take-length requests) ∙ ap (λ (k : ℕ). take k requests) (sym e)) ∙ upto_words in
      subst (λ (l : List ℕ). Runs n d domains tables before left l s (joined taken q)) (sym same)
      (going.far.on (words_of here) left q here_whole runs)

  -- Where it does not go on.
  so_far_stop : goes_on (joined taken q) ≡ false → Runs n d domains tables before left (words_of requests) s (joined taken q)
  unfolding here goes_on
  so_far_stop e =
      subst (λ (l : List ℕ). Runs n d domains tables before left l s (joined taken q)) (sym all_words)
      (going.far.on (words_of here ++ words_of rest) left q (whole_both here_whole rest_whole)
      (run_ended n d domains tables mid state going.small (omega (arith, going.stepped)) left (words_of here) (words_of rest) q here_whole
      rest_whole runs (stops_not q e)))
    where
      whole_both : WholeRequests n (length (words_of here)) → WholeRequests n (length (words_of rest))
          → WholeRequests n (length (words_of here ++ words_of rest))
      whole_both a b = whole_append n (words_of here) (words_of rest) a b

  -- Where it goes on.
  so_far_more : goes_on (joined taken q) ≡ true → SoFar n d domains tables before requests s left q.state end (taken + q.taken)
  unfolding here goes_on
  so_far_more e = record {
    inside = part.within;
    few = omega (arith, going.far.few, part.after, part_taken);
    place = part.place;
    on = λ b last x w h.
        let more : Runs n d domains tables mid last (words_of here ++ b) state (joined q.taken x) =
        run_joined n d domains tables mid state going.small (omega (arith, going.stepped)) left (words_of here) b q here_whole w runs
        (goes_refusal q e)
        (took_all n d domains tables mid state going.small (omega (arith, going.stepped)) left (words_of here) b q here_whole w runs
        (goes_refusal q e) (goes_running q e))
        last x h in
        let both : Runs n d domains tables before last (words_of (take at requests) ++ (words_of here ++ b)) s (joined taken (joined q.taken x)) =
        going.far.on (words_of here ++ b) last (joined q.taken x) (whole_append n (words_of here) b here_whole w) more in
        let list : words_of (take end requests) ++ b ≡ words_of (take at requests) ++ (words_of here ++ b) =
        ap (λ (l : List ℕ). l ++ b) upto_words ∙ append_assoc (words_of (take at requests)) (words_of here) b in
        let sum : joined taken (joined q.taken x) ≡ joined (taken + q.taken) x =
        λ i. record { verdict = x.verdict; refusal = x.refusal; taken = sym (add_assoc taken q.taken x.taken) i; state = x.state } in
        subst (λ (l : List ℕ). Runs n d domains tables before last l s (joined (taken + q.taken) x)) (sym list)
        (subst (λ (y : Ran). Runs n d domains tables before last (words_of (take at requests) ++ (words_of here ++ b)) s y) sum both);
  }

  -- What the next part goes on with.
  pub go_again : (b : Bool) → b ≡ goes_on (joined taken q) → b ≡ true
      → SoFar n d domains tables before requests s left q.state end (taken + q.taken)
  go_again b e y = so_far_more (sym e ∙ y)

  pub stepped_again : q.state.counts.steps.0 < 2 ^ 32
  unfolding here
  stepped_again =
      omega (arith, run_stepped n d domains tables mid state going.small (omega (arith, going.stepped)) left (words_of here) q here_whole runs)

  -- What is returned.
  module _ (listed : Listed n (length requests)) (small : (i : ℕ) → get_or before i 0 < 2 ^ 16) (few : s.subproblems < 4294967296) where
    narrow_too : Runs n d domains tables before left (words_of requests) s (joined taken q)
        → Runs n d domains tables before left (words_of requests) s (joined taken q) × Narrow (joined taken q)
    narrow_too h = (
      h,
      run_narrow n d domains tables before s small (omega (arith, going.begun)) left (words_of requests) (joined taken q)
          (whole_words n requests (listed.requests, listed.whole)) few h,
    )

    pub returns_end : end ≡ length requests → Runs n d domains tables before left (words_of requests) s (joined taken q) × Narrow (joined taken q)
    returns_end e = narrow_too (so_far_end e)

    pub returns_stop : (b : Bool) → b ≡ goes_on (joined taken q) → b ≡ false
        → Runs n d domains tables before left (words_of requests) s (joined taken q) × Narrow (joined taken q)
    returns_stop b e y = narrow_too (so_far_stop (sym e ∙ y))
