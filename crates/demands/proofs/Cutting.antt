-- A way cut at any number of places, saved and loaded at each, ends as uncut: the calls of Rattle.
-- Assumes nothing.
use mathlib.Core.Path.{◌≡◌, refl, sym, ap, ap₂, subst, ◌∙◌}
use mathlib.Core.Logic.{inl, inr}
use mathlib.Core.List.{List, [], ◌++◌}
use Prim.Native.Nat.{ℕ, ◌+◌, ◌-◌, ◌*◌, ◌≤◌, ◌<◌, min}
use native.Mathlib.Omega.{arith}
use native.Mathlib.Nat.{mul-le-mul_right, one-mul}
use native.Mathlib.Decide.{ℕ_discrete, dec_lt}
use lib.ListN.{length, take, drop, length-take, length-drop, take-append-drop}
use Rattle.searches.specs.declared.verdict.Verdict.{Verdict}
use Rattle.searches.specs.Verdicts.{number_of}
use Rattle.searches.proofs.Picking.{choose_stops}
use Rattle.search.specs.FirstChecks.{WholeRequests}
use Rattle.search.specs.Slots.{slots}
use Rattle.search.specs.Calls.{Runs, Chooses}
use Rattle.search.specs.Outcomes.{Ran}
use Rattle.files.specs.Calls.{Deserves13}
use Rattle.files.specs.Promises.{TwoWays, SameEnd}
use Rattle.files.proofs.Promises.{cut_any, cut_choose}
use Rattle.console.specs.Searches.{Outcome, Way, by_requests, by_chooser, Lent, state_in}
use Rattle.demands.specs.Promises.{rattle, Goes, problem, search, front, Deserves3, Journey, uncut, cut}
use Rattle.demands.proofs.Calling.{room, first_of, stopped_of, Fitting, out_of, some_call, going, none_if, passed, passing, handed, passes_first, Passing, WholeWay, left_so}
use Rattle.demands.proofs.Standing.{front_requests}
use Rattle.demands.proofs.Saying.{said}

-- What is left of a way when so many are taken.
abbrev pub rest : ℕ → ℕ → Way → Way
rest n t way = elim way [ by_requests l ↦ by_requests (drop (1 * (t * (n + 3))) l) | by_chooser k ↦ by_chooser (k - t) ]

-- The result whose parts go out.
abbrev ran_out : Verdict → ℕ → Outcome → Ran
ran_out v k o = record { verdict = v; refusal = k; taken = o.taken; state = state_in o.held }

as_out : (m : Lent) (way : Way) (o : Outcome) (g : rattle.GoingOn m way o) → Goes m way o.held.agenda (ran_out g.0.verdict o.refusal o)
as_out m way o (r, h, goes, fits) =
    subst (Goes m way o.held.agenda)
    (λ i. record {
      verdict = r.verdict;
      refusal = sym h.its_refusal i;
      taken = sym h.its_taken i;
      state = record {
        counts = record { steps = record { 0 = sym h.its_steps i }; checks = record { 0 = sym h.its_checks i } };
        subproblems = sym h.its_subproblems i;
      };
    }) goes

-- A list of whole requests cut anywhere is two of them.
cut_whole : (n k : ℕ) (l : List ℕ) → WholeRequests n (length l)
    → WholeRequests n (length (take (k * (n + 3)) l)) × WholeRequests n (length (drop (k * (n + 3)) l))
cut_whole n k l (j, e) = elim (dec_lt j k) [
  | yes h ↦
      let over : j * (n + 3) ≤ k * (n + 3) = mul-le-mul_right (n + 3) (omega arith) in
      ((j, length-take (k * (n + 3)) l ∙ omega arith), (0, length-drop (k * (n + 3)) l ∙ omega arith))
  | no h ↦ let (a, b, c) = front_requests n l j k e (omega arith) in ((k, a), (j - k, c))
]

not_short : (a b : ℕ) → (a < b → ⊥) → b ≤ a
not_short a b f = elim (dec_lt a b) [ yes l ↦ absurd (f l) | no l ↦ omega arith ]

-- One cut: the call to it, save, load, and the two results.
module _ (m x y : Lent) (o whole : Outcome) (v w : Verdict) (f : ℕ) (file after : List ℕ) (b i j : ℕ)
    (saves : rattle.Saving m o.held file after b i)
    (fit : Deserves13 m.n m.d m.domains m.tables o.held.agenda (state_in o.held) file → ⊥)
    (loads : rattle.Loading (take (512 * b) after) x y j) (ds : length x.domains ≡ 1 * m.n) (ts : length x.tables ≡ 1 * (m.n * m.n * m.d))
    (long : length x.held.agenda ≡ length o.held.agenda) (second_agenda : List ℕ) (second : Ran) where
  ways : TwoWays m.n m.d m.domains m.tables
  ways = record {
    whole = ran_out w whole.refusal whole;
    whole_agenda = whole.held.agenda;
    first = ran_out v f o;
    first_agenda = o.held.agenda;
    saved = record { refusal = i; blocks = b };
    buffer = file;
    written = after;
    saves = saves;
    enough = not_short _ _ fit;
    loaded = record { refusal = j; n = y.n; d = y.d; state = state_in y.held };
    domains₀ = x.domains;
    domains' = y.domains;
    tables₀ = x.tables;
    tables' = y.tables;
    agenda₀ = x.held.agenda;
    agenda' = y.held.agenda;
    loads = loads;
    domain_words = ds ∙ one-mul m.n;
    table_words = ts ∙ one-mul (m.n * m.n * m.d);
    agenda_words = long;
    second = second;
    second_agenda = second_agenda;
  }

  -- What the two have in common at the end.
  pub record EndsAlike : Type 0 where
    pub saved : i ≡ 0
    pub loaded : j ≡ 0
    pub verdict : number_of second.verdict ≡ number_of w
    pub refusal : second.refusal ≡ whole.refusal
    pub held : (out_of second_agenda second).held ≡ whole.held
    pub taken : o.taken + second.taken ≡ whole.taken

  alike : SameEnd ways → EndsAlike
  unfolding ways
  alike e = record {
    saved = e.saved;
    loaded = e.loaded;
    verdict = ap number_of e.verdict;
    refusal = e.refusal;
    held = λ t. record { agenda = e.agenda_left t; steps = e.steps t; checks = e.checks t; subproblems = e.subproblems t };
    taken = e.taken;
  }

  -- By requests.
  pub run_alike : (l : List ℕ) (k : ℕ) → Passing m → WholeRequests m.n (length l) → Goes m (by_requests l) whole.held.agenda (ran_out w whole.refusal whole)
      → Goes m (by_requests (take (1 * (k * (m.n + 3))) l)) o.held.agenda (ran_out v f o)
      → Goes y (by_requests (drop (1 * (o.taken * (m.n + 3))) l)) second_agenda second → EndsAlike
  unfolding ways
  run_alike l k h wl u c on =
      let n : ℕ = m.n in
      let size : ℕ = k * (n + 3) in
      let one : 1 * size ≡ size = one-mul size in
      let both = cut_whole n k l wl in
      let join : take size l ++ drop size l ≡ l = take-append-drop size l in
      alike (cut_any n m.d m.domains m.tables m.held.agenda (state_in m.held) (take size l) (drop size l) h both.0 both.1 (record {
        ways = ways;
        uncut =
            subst (λ (q : List ℕ). Runs n m.d m.domains m.tables m.held.agenda whole.held.agenda q (state_in m.held) (ran_out w whole.refusal whole))
            (sym join) u;
        to_the_cut =
            subst (λ (z : ℕ). Runs n m.d m.domains m.tables m.held.agenda o.held.agenda (take z l) (state_in m.held) (ran_out v f o)) one c;
        goes_on =
            subst (λ (q : List ℕ). Runs y.n y.d y.domains y.tables y.held.agenda second_agenda q (state_in y.held) second)
            (ap₂ drop (one-mul (o.taken * (n + 3))) (sym join)) on;
      }))

  -- By the chooser.
  pub choose_alike : (k : ℕ) → Passing m → o.taken ≤ k → f ≡ 0 → Goes m (by_chooser k) whole.held.agenda (ran_out w whole.refusal whole)
      → Goes m (by_chooser o.taken) o.held.agenda (ran_out v f o) → Goes y (by_chooser (k - o.taken)) second_agenda second → EndsAlike
  unfolding ways
  choose_alike k h few none u c on =
      let sum : k ≡ o.taken + (k - o.taken) = omega arith in
      alike (cut_choose m.n m.d m.domains m.tables m.held.agenda (state_in m.held) o.taken (k - o.taken) h (record {
        ways = ways;
        uncut =
            subst (λ (q : ℕ). Chooses m.n m.d m.domains m.tables m.held.agenda whole.held.agenda q (state_in m.held) (ran_out w whole.refusal whole))
            sum u;
        to_the_cut = c;
        goes_on = on;
      }) (λ e. none))

-- ---- any number of cuts

-- Where 3 is not deserved the lengths are right.
right_sizes : (m x : Lent) → (Deserves3 rattle m.n m.d x [] → ⊥) → (length x.domains ≡ 1 * m.n) × (length x.tables ≡ 1 * (m.n * m.n * m.d))
right_sizes m x f = (
  elim (ℕ_discrete (length x.domains) m.n) [ yes e ↦ e ∙ sym (one-mul m.n) | no g ↦ absurd (f (inl (inl (inl g)))) ],
  elim (ℕ_discrete (length x.tables) (m.n * m.n * m.d)) [ yes e ↦ e ∙ sym (one-mul (m.n * m.n * m.d)) | no g ↦ absurd (f (inl (inl (inr (inl g))))) ],
)

-- What is handed to a journey is of its types.
journey_fits : (m : Lent) (way : Way) (refused taken : ℕ) (end : Outcome) → Journey rattle m way refused taken end → Fitting m
journey_fits m way refused taken end (uncut g) = g.3
journey_fits m way refused taken end (cut k g saves loads fit sizes long on) = g.3

-- The outcome is one.
call_one : (m : Lent) (way : Way) (o q : Outcome) → rattle.GoingOn m way o → rattle.GoingOn m way q → first_of m way ≡ 0 → o ≡ q
call_one m way o q g h z = passing m way o g z ∙ sym (passing m way q h z)

-- What is left to go on with.
abbrev Onward : (m y : Lent) (way : Way) (o whole : Outcome) (i j : ℕ) → Type 0
Onward m y way o whole i j =
    (i ≡ 0) × (j ≡ 0) × (first_of y (rest m.n o.taken way) ≡ 0)
    × ((q : Outcome) × rattle.GoingOn y (rest m.n o.taken way) q × (q.held ≡ whole.held) × (q.verdict ≡ whole.verdict)
    × (q.refusal ≡ whole.refusal) × (o.taken + q.taken ≡ whole.taken))

module _ (m x y : Lent) (o whole : Outcome) (file after : List ℕ) (b i j : ℕ)
    (saves : rattle.Saving m o.held file after b i)
    (fit : Deserves13 m.n m.d m.domains m.tables o.held.agenda (state_in o.held) file → ⊥)
    (loads : rattle.Loading (take (512 * b) after) x y j) (ds : length x.domains ≡ 1 * m.n) (ts : length x.tables ≡ 1 * (m.n * m.n * m.d))
    (long : length x.held.agenda ≡ length m.held.agenda) (fits : Fitting y) where
  -- From what the two have in common.
  onward : (way : Way) → rattle.GoingOn m way whole → first_of m way ≡ 0 → (v w : Verdict) (f : ℕ) → number_of w ≡ whole.verdict
      → length o.held.agenda ≡ length m.held.agenda
      → ((kept : length x.held.agenda ≡ length o.held.agenda) (second_agenda : List ℕ) (second : Ran)
      → Goes y (rest m.n o.taken way) second_agenda second
      → EndsAlike m x y o whole v w f file after b i j saves fit loads ds ts kept second_agenda second)
      → Onward m y way o whole i j
  onward way g z v w f same kept ends =
      let (left, r, goes) = some_call y (rest m.n o.taken way) in
      let e = ends (long ∙ sym kept) left r goes in
      let on = going y (rest m.n o.taken way) left r fits goes in
      let verdict : number_of r.verdict ≡ whole.verdict = e.verdict ∙ same in (
        e.saved,
        e.loaded,
        passed y (rest m.n o.taken way) (out_of left r) on (λ none. (none_if m way whole g).0 (sym verdict ∙ none) z),
        (out_of left r, on, e.held, verdict, e.refusal, e.taken),
      )

  kept_length : (way : Way) → WholeWay m.n way → Passing m → rattle.GoingOn m way o → length o.held.agenda ≡ length m.held.agenda
  kept_length way w h g = (left_so m way h w o.held.agenda g.0 g.2).0.length_kept

  pub one_cut : (way : Way) (k : ℕ) → rattle.GoingOn m way whole → first_of m way ≡ 0 → rattle.GoingOn m (front rattle m.n k way) o
      → Onward m y way o whole i j
  unfolding stopped_of
  one_cut (by_requests l) k g z c =
      let (h, wl) = handed m (by_requests l) g.3 z in
      let size : ℕ = k * (m.n + 3) in
      let front_whole : WholeRequests m.n (length (take (1 * size) l)) = rw (one-mul size) (cut_whole m.n k l wl).0 in
      onward (by_requests l) g z c.0.verdict g.0.verdict o.refusal (sym g.1.its_verdict) (kept_length (by_requests (take (1 * size) l)) front_whole h c)
      (λ kept left r goes. run_alike m x y o whole c.0.verdict g.0.verdict o.refusal file after b i j saves fit loads ds ts kept left r l k h wl
      (as_out m (by_requests l) whole g) (as_out m (by_requests (take (1 * size) l)) o c) goes)
  one_cut (by_chooser N) k g z c =
      let (h, u) = handed m (by_chooser N) g.3 z in
      let part : Way = by_chooser (min k N) in
      let zc = passes_first m part h tt in
      let taken : o.taken ≡ (stopped_of m part).taken = ap (λ (a : Outcome). a.taken) (passing m part o c zc) in
      let few : o.taken ≤ min k N =
      omega (arith, taken, (choose_stops (problem rattle m m.tables) (slots (room m)) (min k N) (search rattle m m.held)).0) in
      let least : min o.taken (min k N) ≡ o.taken = omega arith in
      let (a, r, goes) = some_call m (by_chooser (min o.taken (min k N))) in
      let alone = going m (by_chooser (min o.taken (min k N))) a r g.3 goes in
      let same = (said m part o c).0.stands (λ none. (none_if m part o c).0 none zc) (out_of a r) alone in
      let standing : Outcome = record { held = o.held; verdict = o.verdict; taken = o.taken; refusal = 0 } in
      let first : rattle.GoingOn m (by_chooser o.taken) standing =
      subst (λ (t : ℕ). rattle.GoingOn m (by_chooser t) standing) least
      (subst (λ (q : Outcome). rattle.GoingOn m (by_chooser (min o.taken (min k N))) q) same alone) in
      onward (by_chooser N) g z first.0.verdict g.0.verdict 0 (sym g.1.its_verdict) (kept_length part tt h c)
      (λ kept left r' goes'. choose_alike m x y o whole first.0.verdict g.0.verdict 0 file after b i j saves fit loads ds ts kept left r' N h (omega arith) refl
      (as_out m (by_chooser N) whole g) (as_out m (by_chooser o.taken) standing first) goes')

-- Wherever it is cut.
pub journey_ends : (m : Lent) (way : Way) (refused taken : ℕ) (whole end : Outcome) → rattle.GoingOn m way whole → first_of m way ≡ 0
    → Journey rattle m way refused taken end
    → (refused ≡ 0) × (taken ≡ whole.taken) × (end ≡ record { held = whole.held; verdict = whole.verdict; taken = end.taken; refusal = whole.refusal })
journey_ends m way refused taken whole end g z (uncut h) =
    let same = call_one m way end whole h g z in
    (refl, ap (λ (a : Outcome). a.taken) same, (λ t. record { held = (same t).held; verdict = (same t).verdict; taken = end.taken; refusal = (same t).refusal }))
journey_ends m way refused taken whole end g z
    (cut {x = x} {y = y} {o = o} {file = file} {after = after} {b = b} {i = i} {j = j} {refused = refused'} {taken = taken'} k c saves loads fit sizes long on) =
    let (ds, ts) = right_sizes m x sizes in
    let fits = journey_fits y (rest m.n o.taken way) refused' taken' end on in
    let (no-save, no-load, zy, (q, h, held, verdict, refusal, sum)) = one_cut m x y o whole file after b i j saves fit loads ds ts long fits way k g z c in
    let (none, all, same) = journey_ends y (rest m.n o.taken way) refused' taken' q end h zy on in (
      omega arith,
      omega arith,
      same ∙ (λ t. record { held = held t; verdict = verdict t; taken = end.taken; refusal = refusal t }),
    )
