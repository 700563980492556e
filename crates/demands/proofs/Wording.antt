-- A call for C that goes on with a search, and a way cut at any number of places, in words: they are those of Rattle.
-- Assumes nothing.
use mathlib.Core.Path.{◌≡◌, refl, sym, ap, subst, ◌∙◌}
use mathlib.Core.Logic.{inl, inr}
use mathlib.Core.List.{List, []}
use native.Mathlib.Decide.{ℕ_discrete}
use Prim.Native.Nat.{ℕ, ◌+◌, ◌-◌, ◌*◌, ◌/◌, ◌%◌, min}
use native.Mathlib.Omega.{arith}
use native.Mathlib.Nat.{one-mul}
use lib.ListN.{length, take, drop, length-take, length-drop}
use Rattle.files.specs.Calls.{Saves, Loads}
use Rattle.word_bytes.specs.Bytes.{Whole, words_of, bytes_of}
use Rattle.word_bytes.proofs.Words.{words_length, words_small, words_past, words_front, said_whole}
use Rattle.console.specs.Calls.{WholeProblem}
use Rattle.console.specs.Searches.{Held, Outcome, Way, by_requests, by_chooser, Lent, state_in}
use Rattle.console.proofs.Promises.{load_in_words}
use Rattle.console.proofs.Going as Going
use Rattle.demands.specs.Promises.{rattle, for_c, front, Deserves3, Journey, uncut, cut}
use Rattle.demands.proofs.Saying.{no_odd, listed}
use Rattle.demands.proofs.Cutting.{rest}

-- In words.
abbrev pub held_words : Held → Held
held_words h = record { agenda = words_of h.agenda; steps = h.steps; checks = h.checks; subproblems = h.subproblems }

abbrev pub lent_words : Lent → Lent
lent_words m = record { n = m.n; d = m.d; domains = words_of m.domains; tables = words_of m.tables; held = held_words m.held }

abbrev pub out_words : Outcome → Outcome
out_words o = record { held = held_words o.held; verdict = o.verdict; taken = o.taken; refusal = o.refusal }

abbrev pub way_words : Way → Way
way_words (by_requests l) = by_requests (words_of l)
way_words (by_chooser k) = by_chooser k

-- ---- whole words or not

abbrev pub Evens : Lent → List ℕ → Type 0
Evens m l = length m.domains % 2 + length m.tables % 2 + length m.held.agenda % 2 + length l % 2 ≡ 0

pub whole_of : (m : Lent) (l : List ℕ) → Evens m l → WholeProblem m.domains m.tables m.held.agenda × Whole l
whole_of m l z = (record { of_domains = omega arith; of_tables = omega arith; of_agenda = omega arith }, omega arith)

pub evens_of : (m : Lent) (l : List ℕ) → WholeProblem m.domains m.tables m.held.agenda → Whole l → Evens m l
evens_of m l w e = omega (arith, w.of_domains, w.of_tables, w.of_agenda, e)

-- 3 at whole words is that of Rattle.
pub three_there : (n d : ℕ) (m : Lent) (l : List ℕ) → Deserves3 rattle n d (lent_words m) (words_of l) → Deserves3 for_c n d m l
three_there n d m l (inl x) = inl x
three_there n d m l (inr f) =
    absurd (no_odd (length (words_of m.domains)) (length (words_of m.tables)) (length (words_of m.held.agenda)) (length (words_of l)) f)

pub three_back : (n d : ℕ) (m : Lent) (l : List ℕ) → Evens m l → Deserves3 for_c n d m l → Deserves3 rattle n d (lent_words m) (words_of l)
three_back n d m l z (inl x) = inl x
three_back n d m l z (inr f) = absurd (f z)

-- All lists are whole words.
abbrev pub AllWhole : Lent → Way → Type 0
AllWhole m way = WholeProblem m.domains m.tables m.held.agenda × Whole (listed way)

-- What is left says its words.
abbrev pub SaysWords : Held → Type 0
SaysWords h = h.agenda ≡ bytes_of (words_of h.agenda)

pub call_words : (m : Lent) (way : Way) (o : Outcome) → AllWhole m way → for_c.GoingOn m way o
    → rattle.GoingOn (lent_words m) (way_words way) (out_words o) × SaysWords o.held
unfolding Going.list_of Going.first_of Going.stopped_of
call_words m (by_requests l) o (w, e) (g, typed) =
    let x = Going.went m.n m.d m.domains m.tables m.held (by_requests l) o w e g in
    ((x.ran, x.out, x.ends, (words_small m.held.agenda typed.bytes, typed.stepped)), x.said)
call_words m (by_chooser k) o (w, e) (g, typed) =
    let x = Going.went m.n m.d m.domains m.tables m.held (by_chooser k) o w e g in
    ((x.ran, x.out, x.ends, (words_small m.held.agenda typed.bytes, typed.stepped)), x.said)

-- The first k of a way, and what is left of it, in words.
pub front_words : (n k : ℕ) (way : Way) → way_words (front for_c n k way) ≡ front rattle n k (way_words way)
front_words n k (by_requests l) =
    ap by_requests (words_front (k * (n + 3)) l ∙ ap (λ (i : ℕ). take i (words_of l)) (sym (one-mul (k * (n + 3)))))
front_words n k (by_chooser j) = refl

abbrev pub rest_c : ℕ → ℕ → Way → Way
rest_c n t way = elim way [ by_requests l ↦ by_requests (drop (2 * (t * (n + 3))) l) | by_chooser k ↦ by_chooser (k - t) ]

rest_words : (n t : ℕ) (way : Way) → way_words (rest_c n t way) ≡ rest n t (way_words way)
rest_words n t (by_requests l) =
    ap by_requests (words_past (t * (n + 3)) l ∙ ap (λ (i : ℕ). drop i (words_of l)) (sym (one-mul (t * (n + 3)))))
rest_words n t (by_chooser j) = refl

pub front_whole : (n k : ℕ) (way : Way) → Whole (listed way) → Whole (listed (front for_c n k way))
front_whole n k (by_requests l) e = even (k * (n + 3)) (length l) (length (take (2 * (k * (n + 3))) l)) (length-take (2 * (k * (n + 3))) l) e
  where
    even : (a b c : ℕ) → c ≡ min (2 * a) b → b % 2 ≡ 0 → c % 2 ≡ 0
    even a b c f e = omega arith
front_whole n k (by_chooser j) e = e

rest_whole : (n t : ℕ) (way : Way) → Whole (listed way) → Whole (listed (rest_c n t way))
rest_whole n t (by_requests l) e = even (t * (n + 3)) (length l) (length (drop (2 * (t * (n + 3))) l)) (length-drop (2 * (t * (n + 3))) l) e
  where
    even : (a b c : ℕ) → c ≡ b - 2 * a → b % 2 ≡ 0 → c % 2 ≡ 0
    even a b c f e = omega arith
rest_whole n t (by_chooser j) e = e

-- Where 3 is not deserved, neither is it in words, and lists are whole words.
sizes_words : (m x : Lent) → (Deserves3 for_c m.n m.d x [] → ⊥)
    → WholeProblem x.domains x.tables x.held.agenda × (Deserves3 rattle m.n m.d (lent_words x) [] → ⊥)
unfolding words_of
sizes_words m x f = elim (ℕ_discrete (length x.domains % 2 + length x.tables % 2 + length x.held.agenda % 2 + 0 % 2) 0) [
  | yes z ↦ ((whole_of x [] z).0, λ three. f (three_there m.n m.d x [] three))
  | no g ↦ absurd (f (inr g))
]

-- Save and load in words.
save_words : (m : Lent) (h : Held) (file after : List ℕ) (b k : ℕ) → WholeProblem m.domains m.tables h.agenda → for_c.Saving m h file after b k
    → rattle.Saving (lent_words m) (held_words h) file after b k
save_words m h file after b k w s =
    subst (Saves m.n m.d (words_of m.domains) (words_of m.tables) (words_of h.agenda) (state_in h) file after)
    (λ i. record { refusal = sym s.its_refusal i; blocks = sym s.its_blocks i }) (s.saves.whole w)

load_words : (file : List ℕ) (x y : Lent) (k : ℕ) → WholeProblem x.domains x.tables x.held.agenda → for_c.Loading file x y k
    → rattle.Loading file (lent_words x) (lent_words y) k
load_words file x y k w (l, bytes) =
    subst (Loads file (words_of x.domains) (words_of y.domains) (words_of x.tables) (words_of y.tables) (words_of x.held.agenda) (words_of y.held.agenda))
    (λ i. record {
      refusal = sym l.its_refusal i;
      n = sym l.its_n i;
      d = sym l.its_d i;
      state = record {
        counts = record { steps = record { 0 = sym l.its_steps i }; checks = record { 0 = sym l.its_checks i } };
        subproblems = sym l.its_subproblems i;
      };
    })
    (load_in_words file x.domains y.domains x.tables y.tables x.held.agenda y.held.agenda l.outcome w l.loads)

load_whole : (file : List ℕ) (x y : Lent) (k : ℕ) → WholeProblem x.domains x.tables x.held.agenda → for_c.Loading file x y k
    → WholeProblem y.domains y.tables y.held.agenda
load_whole file x y k w (l, bytes) =
    let z = l.loads.whole w in
    record { of_domains = said_whole _ z.said_domains; of_tables = said_whole _ z.said_tables; of_agenda = said_whole _ z.said_agenda }

-- A journey in words.
pub journey_words : (m : Lent) (way : Way) (refused taken : ℕ) (end : Outcome) → AllWhole m way → Journey for_c m way refused taken end
    → Journey rattle (lent_words m) (way_words way) refused taken (out_words end) × SaysWords end.held
journey_words m way refused taken end w (uncut g) = let x = call_words m way end w g in (uncut x.0, x.1)
journey_words m way refused taken end (w, e)
    (cut {x = x} {y = y} {o = o} {file = file} {after = after} {b = b} {i = i} {j = j} {refused = refused'} {taken = taken'} k c saves loads fit sizes long on) =
    let (first, said) = call_words m (front for_c m.n k way) o (w, front_whole m.n k way e) c in
    let left : WholeProblem m.domains m.tables o.held.agenda =
    record { of_domains = w.of_domains; of_tables = w.of_tables; of_agenda = said_whole _ said } in
    let (lent, right) = sizes_words m x sizes in
    let (further, end-said) =
    journey_words y (rest_c m.n o.taken way) refused' taken' end (load_whole (take (512 * b) after) x y j lent loads, rest_whole m.n o.taken way e) on in (
      cut {x = lent_words x} {y = lent_words y} {o = out_words o} k
          (subst (λ (q : Way). rattle.GoingOn (lent_words m) q (out_words o)) (front_words m.n k way) first)
          (save_words m o.held file after b i left saves) (load_words (take (512 * b) after) x y j lent loads) fit right
          (words_length x.held.agenda ∙ ap (λ (a : ℕ). a / 2) long ∙ sym (words_length m.held.agenda))
          (subst (λ (q : Way). Journey rattle (lent_words y) q refused' taken' (out_words end)) (rest_words m.n o.taken way) further),
      end-said,
    )
