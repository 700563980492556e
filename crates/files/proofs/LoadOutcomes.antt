-- What load returns and leaves, refused or not.
-- Assumes nothing.
use mathlib.Core.Path.{◌≡◌, refl, sym, ap, ◌∙◌}
use mathlib.Core.Bool.{Bool, true, false, not, cond, ◌&&◌}
use mathlib.Core.List.{List}
use Prim.Native.Nat.{ℕ, ◌+◌, ◌-◌, ◌*◌, ◌≤◌}
use native.Mathlib.Omega.{arith}
use native.Mathlib.Nat.{mul_assoc, mul-le-mul_right, div-mul-le_self}
use native.Mathlib.Decide.{ℕ_discrete}
use lib.ListN.{length, get_or, take, replicate, length-append}
use lib.Seq.{take_at}
use lib.Dec.{eqb, ltb}
use borrow.Author.Tests.{eq-eqb, ne_eqb, eqb-true, ltb-false, not-false}
use Rattle.problem.proofs.Tests.{and_left, and_right}
use Rattle.search.specs.Agenda.{slots_in, agenda_of}
use Rattle.problem.specs.Lists.{splice}
use Rattle.problem.specs.Tests.FirstChecks.{or_else}
use Rattle.search.specs.Tests.FirstChecks.{whole_slots, refusal_of_lengths}
use Rattle.search.specs.declared.state.State.{State}
use Rattle.problem.proofs.first_checks.Parts.{given_if, else_pass}
use Rattle.blocks.specs.Reading.{blocks_in, content_word, content_from, Bytes}
use Rattle.files.specs.Reading.{said_n, said_d, said_steps, said_checks, said_subproblems, said_domains, said_allowed, said_search, agenda_from, table_words, refusal_of_words}
use Rattle.blocks.specs.Tests.Whole.{refusal_of_file}
use Rattle.std.specs.Prelude.{Ok, Err}
use Rattle.problem.specs.declared.refusal.Refusal.{Refusal}
use Rattle.problem.specs.Refused.{number_of}
use Rattle.blocks.specs.Calls.{RefusalOfFile, PutContent}
use Rattle.files.specs.Calls.{HeaderOf, load_refusal, Loads}
use Rattle.files.specs.Loops.Said.{Numbers, sized_in, allowed_in, pair_part, row_part, table_part, part_in, slots_part, Lent, Read, Made, Refused, Accepted}
use Rattle.files.specs.declared.saved.Header.{Header}
use Rattle.files.specs.Outcomes.{Loaded, loaded}
use Rattle.blocks.proofs.Lists.{each_same, map_same}
use Rattle.files.proofs.Triangle.{table_length}
use Rattle.blocks.proofs.Whole.{file_whole, refusal_is}
use Rattle.blocks.proofs.Contents.{length_from}
use Rattle.files.proofs.filling.Filled.{front_of_zeros, content_read, content_says}
use Rattle.files.proofs.filling.Mirrors.{triangle_few, slots_few, allowed_self, allowed_said}
use Rattle.files.proofs.reading.Refused.{numbers_passed, sized_numbers}
use Rattle.files.proofs.reading.Checked.{part_read, agenda_said}

-- A value that is given where there is no refusal, and one that is given where there is.
pub given : {A : Type 0} (r : ℕ) (x y z : A) → r ≡ 0 → z ≡ x → z ≡ cond (eqb r 0) x y
given r x y z e h = rw e h

-- One that is given where there is a refusal.
pub not_given : {A : Type 0} (r : ℕ) (x y z : A) → (r ≡ 0 → ⊥) → z ≡ y → z ≡ cond (eqb r 0) x y
not_given r x y z f h = rw (ne_eqb r 0 f) h

-- ---- what is lent fits

-- What passing 14, 15, 3 and 12 leaves, of n, d and m subproblems.
pub record Fitted (domains tables agenda n d m : ℕ) : Type 0 where
  pub numbers : Numbers n d
  pub few : m ≤ 512
  pub domains_words : domains ≡ n
  pub tables_words : tables ≡ n * n * d
  pub agenda_words : m * (n + 2) ≤ agenda

module _ (file : List ℕ) (domains tables agenda n d m : ℕ) where
  pub load_passed : n ≡ said_n file → d ≡ said_d file → m ≡ said_subproblems file → load_refusal file domains tables agenda ≡ 0
      → Fitted domains tables agenda n d m
  unfolding load_refusal refusal_of_lengths
  load_passed is-n is-d is_m e =
      let lengths : Bool = eqb domains (said_n file) && eqb tables (said_n file * said_n file * said_d file) && whole_slots (said_n file) agenda in
      let last : ℕ = cond (ltb (slots_in (said_n file) agenda) (said_subproblems file)) 12 0 in
      let one = else_pass (refusal_of_file file) (or_else (refusal_of_words file) (or_else (cond lengths 0 3) last)) e in
      let two = else_pass (refusal_of_words file) (or_else (cond lengths 0 3) last) one.1 in
      let three = else_pass (cond lengths 0 3) last two.1 in
      let all = given_if lengths 3 (λ z. absurd (omega arith)) three.0 in
      let both = and_left (eqb domains (said_n file) && eqb tables (said_n file * said_n file * said_d file)) (whole_slots (said_n file) agenda) all in
      let numbers = numbers_passed file n d m is-n is-d is_m two.0 in
      let room : m ≤ slots_in n agenda = rw (is-n, is_m) (no_twelve (slots_in (said_n file) agenda) (said_subproblems file) three.1) in
      let whole : m * (n + 2) ≤ slots_in n agenda * (n + 2) = mul-le-mul_right (n + 2) room in
      record {
        numbers = numbers.0;
        few = numbers.1;
        domains_words =
            rw is-n (eqb-true domains (said_n file) (and_left (eqb domains (said_n file)) (eqb tables (said_n file * said_n file * said_d file)) both));
        tables_words =
            rw (is-n, is-d)
            (eqb-true tables (said_n file * said_n file * said_d file)
            (and_right (eqb domains (said_n file)) (eqb tables (said_n file * said_n file * said_d file)) both));
        agenda_words = omega (arith, div-mul-le_self agenda (n + 2));
      }
    where
      none : (b : Bool) → ◌≡◌ {A = ℕ} (cond b 12 0) 0 → b ≡ false
      none true z = absurd (omega arith)
      none false z = refl

      no_twelve : (a b : ℕ) → ◌≡◌ {A = ℕ} (cond (ltb a b) 12 0) 0 → b ≤ a
      no_twelve a b z = ltb-false a b (none (ltb a b) z)

-- ---- the tables

-- What is written of two variables is what the file says, and 0 of one with itself.
mask_said : (file words : List ℕ) → ((k : ℕ) → get_or words k 0 ≡ content_word file k) → (i j a : ℕ)
    → allowed_in words (said_n file) (said_d file) i j a ≡ cond (eqb i j) 0 (said_allowed file i j a)
mask_said file words says i j a = elim (ℕ_discrete i j) [
  | yes e ↦ rw (eq-eqb i j e) (allowed_self words (said_n file) (said_d file) i j a (omega arith) (omega arith))
  | no f ↦ rw (ne_eqb i j f) (allowed_said file words says i j a)
]

-- The tables are those that the file says.
pub tables_said : (file words t : List ℕ) (n d : ℕ) → ((k : ℕ) → get_or words k 0 ≡ content_word file k) → n ≡ said_n file → d ≡ said_d file
    → t ≡ table_part words n d n
    → t ≡ table_words (said_n file) (said_d file) (said_allowed file)
unfolding table_part row_part pair_part table_words
tables_said file words t n d says is-n is-d e =
    e ∙ rw (is-n, is-d)
    (each_same _ _ (said_n file) (λ i l. each_same _ _ (said_n file) (λ j q. map_same _ _ (said_d file) (λ a p. mask_said file words says i j a))))

-- A refusal tells zeros.
pub refuses : (refusal : Refusal) → Refused (number_of refusal) (loaded (Err refusal))
refuses refusal = record { its = refl; its_n = refl; its_d = refl; steps = refl; checks = refl; subproblems = refl }

-- What is handed back that is not refused.
pub accepts : (h : Header) → Accepted h (loaded (Ok h))
accepts h = record { its = refl; its_n = refl; its_d = refl; its_state = refl }

-- Sizes that fit are numbers in their ranges.
pub load_numbers : (file : List ℕ) (h : Header) (b : Bool) → HeaderOf file h → b ≡ sized_in file → not b ≡ false
    → Numbers h.n h.d × (h.state.subproblems ≤ 512)
load_numbers file h b said sized y =
    sized_numbers file h.n h.d h.state.subproblems said.its_n said.its_d said.subproblems (sym sized ∙ not-false b y)

-- The words that were read say the content.
pub load_read : (file l words : List ℕ) (h : Header) (r : ℕ) (b : Bool) → Bytes file → RefusalOfFile file r → r ≡ 0 → HeaderOf file h → b ≡ sized_in file
    → not b ≡ false → l ≡ replicate 25553 0 → PutContent file l words → Read file words h
load_read file l words h r b bytes e z said sized y zero put =
    let passed : refusal_of_file file ≡ 0 = sym (refusal_is file r e) ∙ z in
    let whole = file_whole file passed in
    let read = content_read file l words zero whole.whole whole.few put in
    record {
      header = said;
      whole = passed;
      sized = sym sized ∙ not-false b y;
      bytes = bytes;
      long = ap length read ∙ length_from file 0 25553;
      says = content_says file words (blocks_in file) whole.whole whole.few read;
    }

-- What was made stands in the front of the room for it.
module _ (file words l m : List ℕ) (h : Header) (count : ℕ) (read : Read file words h) (z : l ≡ replicate 16384 0)
    (e : m ≡ splice l 0 (table_part words h.n h.d h.n)) (is-count : count ≡ h.n * (h.n * h.d)) where
  made : table_part words h.n h.d h.n ≡ table_words (said_n file) (said_d file) (said_allowed file)
  made =
      tables_said file words (table_part words h.n h.d h.n) h.n h.d read.says read.header.its_n read.header.its_d refl

  made_long : length (table_part words h.n h.d h.n) ≡ count
  made_long =
      ap length made ∙ table_length (said_n file) (said_d file) (said_allowed file) ∙ sym
      (is-count ∙ sym (mul_assoc h.n h.n h.d) ∙ rw (read.header.its_n, read.header.its_d) refl)

  made_taken : take count m ≡ table_part words h.n h.d h.n
  made_taken =
      ap (take count) (e ∙ rw z (front_of_zeros (table_part words h.n h.d h.n) 16384)) ∙ take_at (table_part words h.n h.d h.n)
      (replicate (16384 - length (table_part words h.n h.d h.n)) 0) count made_long

  pub made_all : Made file (take count m)
  made_all = made_taken ∙ made

  pub made_fits : count ≤ length m
  made_fits = rw (e, z, front_of_zeros, length-append) (omega (arith, made_long))

  pub made_count : count ≡ length (take count m)
  made_count = sym (ap length made_taken ∙ made_long)

-- ---- load

module _ (file domains tables agenda : List ℕ) (r : ℕ) (is-r : r ≡ load_refusal file (length domains) (length tables) (length agenda)) where
  refusal : ℕ
  refusal = load_refusal file (length domains) (length tables) (length agenda)

  -- Refused: zeros, and nothing is changed.
  pub load_refused : (r ≡ 0 → ⊥) → (s : Loaded) → Refused r s → Loads file domains domains tables tables agenda agenda s
  unfolding refusal
  load_refused f s z =
      let g : refusal ≡ 0 → ⊥ = λ z. f (is-r ∙ z) in
      record {
        refusal = z.its ∙ is-r;
        its_n = not_given refusal (said_n file) 0 s.n g z.its_n;
        its_d = not_given refusal (said_d file) 0 s.d g z.its_d;
        steps = not_given refusal (said_steps file) 0 s.state.counts.steps.0 g z.steps;
        checks = not_given refusal (said_checks file) 0 s.state.counts.checks.0 g z.checks;
        subproblems = not_given refusal (said_subproblems file) 0 s.state.subproblems g z.subproblems;
        its_domains = not_given refusal (said_domains file) domains domains g refl;
        its_tables = not_given refusal (table_words (said_n file) (said_d file) (said_allowed file)) tables tables g refl;
        its_agenda = not_given refusal (agenda_of (said_n file) (length agenda) (said_search file).memory) agenda agenda g refl;
      }

  -- Accepted: what the file says.
  module _ (zero-r : r ≡ 0) (words masks : List ℕ) (h : Header) (read : Read file words h) (tabled : Made file masks) where
    abbrev said : HeaderOf file h
    said = read.header

    abbrev fitted : Fitted (length domains) (length tables) (length agenda) h.n h.d h.state.subproblems
    fitted =
        load_passed file (length domains) (length tables) (length agenda) h.n h.d h.state.subproblems said.its_n said.its_d
        said.subproblems (sym is-r ∙ zero-r)

    -- What is lent takes the search.
    pub load_lent : Lent h.n h.state.subproblems masks domains tables agenda
    load_lent = record {
      few = fitted.few;
      domains_words = fitted.domains_words;
      tables_words =
          ap length tabled ∙ table_length (said_n file) (said_d file) (said_allowed file) ∙ sym
          (fitted.tables_words ∙ rw (said.its_n, said.its_d) refl);
      agenda_words = fitted.agenda_words;
    }

    -- Everything that load returns and leaves.
    pub load_accepted : (s : Loaded) (domains' tables' agenda' : List ℕ) → Accepted h s
        → domains' ≡ part_in words 9 h.n → tables' ≡ masks
        → agenda' ≡ slots_part words h.n h.d h.state.subproblems (length agenda)
        → Loads file domains domains' tables tables' agenda agenda' s
    unfolding refusal slots_part
    load_accepted s domains' tables' agenda' told ds ts as' =
        let n : ℕ = said_n file in
        let z : refusal ≡ 0 = sym is-r ∙ zero-r in
        let from : ℕ = agenda_from h.n h.d in
        let used : ℕ = h.state.subproblems * (h.n + 2) in
        let start : from ≤ 7977 = omega (arith, triangle_few h.n h.d fitted.numbers, fitted.numbers.variables) in
        let few : used ≤ 17408 = slots_few h.n h.state.subproblems 512 fitted.numbers.variables fitted.few (omega arith) in
        let front : part_in words 9 h.n ≡ said_domains file =
        part_read file words h read 9 h.n (omega (arith, fitted.numbers.variables)) ∙ rw said.its_n refl in
        let back : part_in words from used ≡ content_from file from used = part_read file words h read from used (omega arith) in
        let slots : agenda' ≡ agenda_of n (length agenda) (said_search file).memory =
        as' ∙ rw (back, said.its_n, said.its_d, said.subproblems) (agenda_said file (length agenda) read.bytes) in
        record {
          refusal = told.its ∙ sym z;
          its_n = given refusal n 0 s.n z (told.its_n ∙ said.its_n);
          its_d = given refusal (said_d file) 0 s.d z (told.its_d ∙ said.its_d);
          steps =
              given refusal (said_steps file) 0 s.state.counts.steps.0 z (ap (λ (x : State). x.counts.steps.0) told.its_state ∙ said.steps);
          checks =
              given refusal (said_checks file) 0 s.state.counts.checks.0 z (ap (λ (x : State). x.counts.checks.0) told.its_state ∙ said.checks);
          subproblems =
              given refusal (said_subproblems file) 0 s.state.subproblems z (ap (λ (x : State). x.subproblems) told.its_state ∙ said.subproblems);
          its_domains = given refusal (said_domains file) domains domains' z (ds ∙ front);
          its_tables = given refusal (table_words n (said_d file) (said_allowed file)) tables tables' z (ts ∙ tabled);
          its_agenda = given refusal (agenda_of n (length agenda) (said_search file).memory) agenda agenda' z slots;
        }
