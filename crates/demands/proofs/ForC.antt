-- The demands of the calls for C: those of Rattle at the words that the bytes say, and the refusals of lists that are not whole words.
-- Assumes nothing.
use mathlib.Core.Path.{◌≡◌, refl, sym, ap, subst, ◌∙◌}
use mathlib.Core.Logic.{◌⊎◌, inl, inr, ⊎_elim}
use mathlib.Core.List.{List, [], ◌∷◌}
use Prim.Native.Nat.{ℕ, ◌+◌, ◌%◌}
use native.Mathlib.Omega.{arith}
use native.Mathlib.Decide.{ℕ_discrete}
use lib.ListN.{length}
use Rattle.problem.specs.FirstChecks.{Deserves1, Deserves2, Deserves4, Deserves5}
use Rattle.problem.specs.Refusing.{Refusals, FirstOf}
use Rattle.problem.proofs.Refusing.{Found, first_of}
use Rattle.search.specs.FirstChecks.{Deserves6}
use Rattle.search.specs.Outcomes.{Opened}
use Rattle.blocks.specs.Reading.{Deserves14}
use Rattle.files.specs.Reading.{said_n, said_d, Deserves15}
use Rattle.files.specs.Calls.{Deserves13, Deserves12Load}
use Rattle.files.specs.Outcomes.{Saved}
use Rattle.files.specs.Outcomes.{Loaded}
use Rattle.word_bytes.specs.Bytes.{Whole, words_of, bytes_of}
use Rattle.word_bytes.proofs.Words.{bytes_again}
use Rattle.console.specs.Calls.{unwhole, unwhole_file}
use Rattle.console.specs.Searches.{Held, Outcome, Way, by_requests, by_chooser, Lent, state_in}
use Rattle.console.proofs.Promises.{unwhole_1, unwhole_2, unwhole_3, unwhole_14, unwhole_15, unwhole_file_3, open_refused, save_refused, load_refused, unsolvable_no_plan, solvable_held, steps_limited}
use Rattle.console.proofs.Going as Going
use Rattle.demands.specs.Promises.{rattle, for_c, problem, front, checks, Deserves3, Journey, Demand1, Demand2, Demand3}
use Rattle.demands.proofs.Tables.{in_third}
use Rattle.demands.proofs.Calling.{passed}
use Rattle.demands.proofs.Saying.{Said, listed, said}
use Rattle.demands.proofs.Refusing.{opening_so, saving_so, loading_so}
use Rattle.demands.proofs.Cutting.{journey_ends}
use Rattle.demands.proofs.Wording.{held_words, lent_words, out_words, way_words, AllWhole, SaysWords, call_words, front_words, front_whole, journey_words, Evens, whole_of, evens_of, three_there, three_back}

-- The refusals of lists that are not.
unwhole_found : (n d : ℕ) (Three : Type 0) (rest : Refusals) → Three → Found ((1, Deserves1 n) ∷ (2, Deserves2 d) ∷ (3, Three) ∷ rest) (unwhole n d)
unwhole_found n d Three rest three = elim (ℕ_discrete (unwhole n d) 1) [
  | yes e ↦ inl ((unwhole_1 n d).0 e, e)
  | no f ↦
      let not_1 : Deserves1 n → ⊥ = λ x. f ((unwhole_1 n d).1 x) in
      elim (ℕ_discrete (unwhole n d) 2) [
        | yes e ↦ inr (not_1, inl (((unwhole_2 n d).0 e).0, e))
        | no g ↦ let not_2 : Deserves2 d → ⊥ = λ x. g ((unwhole_2 n d).1 (x, not_1)) in inr (not_1, inr (not_2, inl (three, (unwhole_3 n d).1 (not_1, not_2))))
      ]
]

unwhole_file_found : (file : List ℕ) (Three : Type 0) (rest : Refusals) → Three
    → Found ((14, Deserves14 file) ∷ (15, Deserves15 file) ∷ (3, Three) ∷ rest) (unwhole_file file)
unwhole_file_found file Three rest three = elim (ℕ_discrete (unwhole_file file) 14) [
  | yes e ↦ inl ((unwhole_14 file).0 e, e)
  | no f ↦
      let not-14 : Deserves14 file → ⊥ = λ x. f ((unwhole_14 file).1 x) in
      elim (ℕ_discrete (unwhole_file file) 15) [
        | yes e ↦ inr (not-14, inl (((unwhole_15 file).0 e).1, e))
        | no g ↦
            let not-15 : Deserves15 file → ⊥ = λ x. g ((unwhole_15 file).1 (not-14, x)) in
            inr (not-14, inr (not-15, inl (three, (unwhole_file_3 file).1 (not-14, not-15))))
      ]
]

-- ---- a call that goes on

abbrev six : Lent → Refusals
six m = (6, Deserves6 (problem for_c m m.tables) (words_of m.held.agenda) m.held.steps m.held.checks m.held.subproblems) ∷ []

abbrev from_4 : Lent → Refusals → Refusals
from_4 m more = (4, Deserves4 (problem for_c m m.tables)) ∷ (5, Deserves5 (problem for_c m m.tables)) ∷ more

-- Two searches that are held, each saying its words, are one if these are.
held_one : (h k : Held) → held_words h ≡ held_words k → SaysWords h → k.agenda ≡ bytes_of (words_of k.agenda) → h ≡ k
held_one h k e s t =
    let agenda : h.agenda ≡ k.agenda = s ∙ ap (λ (x : Held). bytes_of x.agenda) e ∙ sym t in
    λ i. record { agenda = agenda i; steps = (e i).steps; checks = (e i).checks; subproblems = (e i).subproblems }

-- Refused by the first checks it leaves every byte.
kept_so : (m : Lent) (way : Way) (o : Outcome) → for_c.GoingOn m way o → AllWhole m way → o.verdict ≡ 0
    → (o.refusal ≡ 0 → ⊥) × (o ≡ record { held = m.held; verdict = 0; taken = 0; refusal = o.refusal })
kept_so m way o g w v =
    let (g', said-o) = call_words m way o w g in
    let (some, same) = (said (lent_words m) (way_words way) (out_words o) g').0.kept v in
    let held : o.held ≡ m.held =
    held_one o.held m.held (ap (λ (a : Outcome). a.held) same) said-o (sym (bytes_again m.held.agenda w.0.of_agenda g.1.bytes)) in
    (some, λ i. record { held = held i; verdict = (same i).verdict; taken = (same i).taken; refusal = o.refusal })

-- What was taken, alone, leaves the same bytes.
stands_so : (m : Lent) (way : Way) (o : Outcome) → for_c.GoingOn m way o → AllWhole m way → (o.verdict ≡ 0 → ⊥) → (q : Outcome)
    → for_c.GoingOn m (front for_c m.n o.taken way) q → q ≡ record { held = o.held; verdict = o.verdict; taken = o.taken; refusal = 0 }
stands_so m way o g (v, e) some q h =
    let (g', said-o) = call_words m way o (v, e) g in
    let (h', said-q) = call_words m (front for_c m.n o.taken way) q (v, front_whole m.n o.taken way e) h in
    let same = (said (lent_words m) (way_words way) (out_words o) g').0.stands some (out_words q)
    (subst (λ (u : Way). rattle.GoingOn (lent_words m) u (out_words q)) (front_words m.n o.taken way) h') in
    let held : q.held ≡ o.held = held_one q.held o.held (ap (λ (a : Outcome). a.held) same) said-q said-o in
    λ i. record { held = held i; verdict = (same i).verdict; taken = (same i).taken; refusal = (same i).refusal }

-- Whole words.
whole_said : (m : Lent) (way : Way) (o : Outcome) → for_c.GoingOn m way o → AllWhole m way → Said for_c m way o
unfolding words_of
whole_said m (by_requests l) o g w =
    let x = said (lent_words m) (by_requests (words_of l)) (out_words o) (call_words m (by_requests l) o w g).0 in (
      record {
        first = λ k some none. in_third 1 2 3 _ _ _ _ (from_4 m (six m)) k (three_there m.n m.d m l) (three_back m.n m.d m l (evens_of m l w.0 w.1)) refl (x.0.first k some none);
        kept = kept_so m (by_requests l) o g w;
        next = x.0.next;
        none = x.0.none;
        stands = stands_so m (by_requests l) o g w;
      },
      record { step = x.1.step; solved = x.1.solved; unsolvable = x.1.unsolvable },
    )
whole_said m (by_chooser j) o g w =
    let x = said (lent_words m) (by_chooser j) (out_words o) (call_words m (by_chooser j) o w g).0 in (
      record {
        first = λ k some none. in_third 1 2 3 _ _ _ _ (from_4 m (six m)) k (three_there m.n m.d m []) (three_back m.n m.d m [] (evens_of m [] w.0 w.1)) refl (x.0.first k some none);
        kept = kept_so m (by_chooser j) o g w;
        next = x.0.next;
        none = x.0.none;
        stands = stands_so m (by_chooser j) o g w;
      },
      record { step = x.1.step; solved = x.1.solved; unsolvable = x.1.unsolvable },
    )

unwhole_not : (n d : ℕ) → unwhole n d ≡ 0 → ⊥
unwhole_not n d z = refute (unwhole_found n d Unit [] tt)
  where
    refute : Found ((1, Deserves1 n) ∷ (2, Deserves2 d) ∷ (3, Unit) ∷ []) (unwhole n d) → ⊥
    refute (inl (x, e)) = omega arith
    refute (inr (x, inl (y, e))) = omega arith
    refute (inr (x, inr (y, inl (w, e)))) = omega arith
    refute (inr (x, inr (y, inr (w, e)))) = w tt

-- Not whole words.
module _ (m : Lent) (way : Way) (o : Outcome) (odd : Evens m (listed way) → ⊥) (same : o ≡ Going.alone m.held (unwhole m.n m.d)) where
  none_said : o.verdict ≡ 0
  none_said = ap (λ (x : Outcome). x.verdict) same

  number : o.refusal ≡ unwhole m.n m.d
  number = ap (λ (x : Outcome). x.refusal) same

  odd_said : Said for_c m way o
  odd_said = (
    record {
      first = λ k some none.
          subst (FirstOf (checks for_c m (listed way) (six m))) (sym (some none_said ∙ number))
          (first_of (checks for_c m (listed way) (six m)) (unwhole m.n m.d) refl
          (unwhole_found m.n m.d (Deserves3 for_c m.n m.d m (listed way)) (from_4 m (six m)) (inr odd)));
      kept = λ v. ((λ e. unwhole_not m.n m.d (sym number ∙ e)), same ∙ ap (Going.alone m.held) (sym number));
      next = λ P S v t top. absurd (omega (arith, none_said, v));
      none = λ some f. absurd (some none_said);
      stands = λ some q h. absurd (some none_said);
    },
    record {
      step = λ e P S top. absurd (let none = ap (λ (x : Outcome). x.taken) same in omega (arith, none, e));
      solved = λ e. absurd (omega (arith, none_said, e));
      unsolvable = λ some. absurd (some none_said);
    },
  )

list_is : (way : Way) → Whole (Going.list_of way) → Whole (listed way)
unfolding Going.list_of
list_is (by_requests l) e = e
list_is (by_chooser j) e = e

-- One or the other.
either : (m : Lent) (way : Way) (o : Outcome) → for_c.GoingOn m way o
    → AllWhole m way ⊎ ((Evens m (listed way) → ⊥) × (o ≡ Going.alone m.held (unwhole m.n m.d)))
either m way o g = elim (ℕ_discrete (length m.domains % 2 + length m.tables % 2 + length m.held.agenda % 2 + length (listed way) % 2) 0) [
  | yes z ↦ inl (whole_of m (listed way) z)
  | no f ↦
      ⊎_elim (λ w. absurd (f (evens_of m (listed way) w.0 (list_is way w.1)))) (λ same. inr (f, same))
      (Going.whole_or_odd m.n m.d m.domains m.tables m.held way o g.0)
]

pub said_for_c : (m : Lent) (way : Way) (o : Outcome) → for_c.GoingOn m way o → Said for_c m way o
said_for_c m way o g = ⊎_elim (λ w. whole_said m way o g w) (λ f. odd_said m way o f.0 f.1) (either m way o g)

-- ---- cuts

pub cuts_for_c : (m : Lent) (way : Way) (whole : Outcome) → for_c.GoingOn m way whole → (whole.verdict ≡ 0 → ⊥) → (refused taken : ℕ) (end : Outcome)
    → Journey for_c m way refused taken end
    → (refused ≡ 0) × (taken ≡ whole.taken) × (end ≡ record { held = whole.held; verdict = whole.verdict; taken = end.taken; refusal = whole.refusal })
cuts_for_c m way whole g some refused taken end journey =
    ⊎_elim
    (λ w.
    let (g', said_whole) = call_words m way whole w g in
    let (j, said-end) = journey_words m way refused taken end w journey in
    let (none, all, same) = journey_ends (lent_words m) (way_words way) refused taken (out_words whole) (out_words end) g' (passed (lent_words m) (way_words way) (out_words whole) g' some) j in
    let held : end.held ≡ whole.held = held_one end.held whole.held (ap (λ (a : Outcome). a.held) same) said-end said_whole in
    (none, all, λ i. record { held = held i; verdict = (same i).verdict; taken = end.taken; refusal = (same i).refusal }))
    (λ f. absurd (some (ap (λ (x : Outcome). x.verdict) f.1))) (either m way whole g)

-- ---- opening, save and load

pub opening_for_c : (m : Lent) (x : Held) (k : ℕ) → for_c.Opening m x k
    → FirstOf (checks for_c m [] []) k × ((k ≡ 0 → ⊥) → x ≡ record { agenda = m.held.agenda; steps = 0; checks = 0; subproblems = 0 })
unfolding words_of
opening_for_c m x k (h, bytes) = (
  elim (ℕ_discrete (length m.domains % 2 + length m.tables % 2 + length m.held.agenda % 2 + 0 % 2) 0) [
    | yes z ↦
        let y = h.opens.whole (whole_of m [] z).0 in
        let r = h.outcome in
        subst (FirstOf (checks for_c m [] [])) (sym h.its_refusal)
        (in_third 1 2 3 _ _ _ _ (from_4 m []) r.refusal (three_there m.n m.d m []) (three_back m.n m.d m [] z) refl
        (opening_so (lent_words m) (record {
          agenda = y.left;
          steps = r.state.counts.steps.0;
          checks = r.state.counts.checks.0;
          subproblems = r.state.subproblems;
        }) r.refusal y.opens).0)
    | no f ↦
        subst (FirstOf (checks for_c m [] []))
        (sym (h.its_refusal ∙ ap (λ (r : Opened). r.refusal) (h.opens.odd (λ w. f (evens_of m [] w refl))).0))
        (first_of (checks for_c m [] []) (unwhole m.n m.d) refl
        (unwhole_found m.n m.d (Deserves3 for_c m.n m.d m []) (from_4 m []) (inr f)))
  ],
  (λ f.
      let (a, b, c, e) = open_refused m.n m.d m.domains m.tables m.held.agenda x.agenda x.steps x.checks x.subproblems k bytes h f in
      (λ i. record { agenda = a i; steps = b i; checks = c i; subproblems = e i })),
)

abbrev thirteen : Lent → List ℕ → Refusals
thirteen m file =
    (6, Deserves6 (problem for_c m m.tables) (words_of m.held.agenda) m.held.steps m.held.checks m.held.subproblems)
    ∷ (13, Deserves13 m.n m.d (words_of m.domains) (words_of m.tables) (words_of m.held.agenda) (state_in m.held) file) ∷ []

pub saving_for_c : (m : Lent) (file after : List ℕ) (blocks k : ℕ) → for_c.Saving m m.held file after blocks k
    → FirstOf (checks for_c m [] (thirteen m file)) k × ((k ≡ 0 → ⊥) → (after ≡ file) × (blocks ≡ 0))
unfolding words_of
saving_for_c m file after blocks k h = (
  elim (ℕ_discrete (length m.domains % 2 + length m.tables % 2 + length m.held.agenda % 2 + 0 % 2) 0) [
    | yes z ↦
        let y = h.saves.whole (whole_of m [] z).0 in
        subst (FirstOf (checks for_c m [] (thirteen m file))) (sym h.its_refusal)
        (in_third 1 2 3 _ _ _ _ (from_4 m (thirteen m file)) h.outcome.refusal (three_there m.n m.d m []) (three_back m.n m.d m [] z) refl
        (saving_so (lent_words m) file after h.outcome.blocks h.outcome.refusal y).0)
    | no f ↦
        subst (FirstOf (checks for_c m [] (thirteen m file)))
        (sym (h.its_refusal ∙ ap (λ (r : Saved). r.refusal) (h.saves.odd (λ w. f (evens_of m [] w refl))).0))
        (first_of (checks for_c m [] (thirteen m file)) (unwhole m.n m.d) refl
        (unwhole_found m.n m.d (Deserves3 for_c m.n m.d m []) (from_4 m (thirteen m file)) (inr f)))
  ],
  (λ f. save_refused m.n m.d m.domains m.tables m.held.agenda m.held.steps m.held.checks m.held.subproblems file after blocks k h f),
)

abbrev loads_by : List ℕ → Lent → Refusals
loads_by file m =
    (14, Deserves14 file) ∷ (15, Deserves15 file) ∷ (3, Deserves3 for_c (said_n file) (said_d file) m [])
    ∷ (12, Deserves12Load file (words_of m.held.agenda)) ∷ []

pub loading_for_c : (file : List ℕ) (m x : Lent) (k : ℕ) → for_c.Loading file m x k
    → FirstOf (loads_by file m) k
    × ((k ≡ 0 → ⊥) → x ≡ record { n = 0; d = 0; domains = m.domains; tables = m.tables; held = record { agenda = m.held.agenda; steps = 0; checks = 0; subproblems = 0 } })
unfolding words_of
loading_for_c file m x k (h, bytes) = (
  elim (ℕ_discrete (length m.domains % 2 + length m.tables % 2 + length m.held.agenda % 2 + 0 % 2) 0) [
    | yes z ↦
        let r = h.outcome in
        let y = h.loads.whole (whole_of m [] z).0 in
        subst (FirstOf (loads_by file m)) (sym h.its_refusal)
        (in_third 14 15 3 _ _ _ _ ((12, Deserves12Load file (words_of m.held.agenda)) ∷ []) r.refusal (three_there (said_n file) (said_d file) m [])
        (three_back (said_n file) (said_d file) m [] z) refl
        (loading_so file (lent_words m) (record {
          n = r.n;
          d = r.d;
          domains = y.left_domains;
          tables = y.left_tables;
          held = record {
            agenda = y.left_agenda;
            steps = r.state.counts.steps.0;
            checks = r.state.counts.checks.0;
            subproblems = r.state.subproblems;
          };
        }) r.refusal y.loads).0)
    | no f ↦
        subst (FirstOf (loads_by file m))
        (sym (h.its_refusal ∙ ap (λ (r : Loaded). r.refusal) (h.loads.odd (λ w. f (evens_of m [] w refl))).0))
        (first_of (loads_by file m) (unwhole_file file) refl
        (unwhole_file_found file (Deserves3 for_c (said_n file) (said_d file) m []) ((12, Deserves12Load file (words_of m.held.agenda)) ∷ []) (inr f)))
  ],
  (λ f.
      let (a, b, c, n, d, steps, checks, count) =
      load_refused file m.domains x.domains m.tables x.tables m.held.agenda x.held.agenda x.n x.d x.held.steps x.held.checks
      x.held.subproblems k bytes.0 bytes.1 bytes.2 h f in
      (λ i. record {
        n = n i;
        d = d i;
        domains = a i;
        tables = b i;
        held = record { agenda = c i; steps = steps i; checks = checks i; subproblems = count i };
      })),
)

pub demand_1 : Demand1 for_c
demand_1 = record { opening = opening_for_c; saving = saving_for_c; loading = loading_for_c; going_on = λ m way o g. (said_for_c m way o g).0 }

pub demand_2 : Demand2 for_c
demand_2 = record {
  going_on = λ m way o g. (said_for_c m way o g).1;
  no_plan = λ m way o g opened life e. unsolvable_no_plan m.n m.d m.domains opened m.tables m.held way o life g.0 e;
}

pub demand_3 : Demand3 for_c
demand_3 = record {
  cuts = cuts_for_c;
  solvable = λ opened m life. solvable_held m.n m.d m.domains opened m.tables m.held life;
  limit = λ opened m life. (steps_limited m.n m.d m.domains opened m.tables m.held life).2;
}
