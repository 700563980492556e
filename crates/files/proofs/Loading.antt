-- What load accepts passes the first checks.
-- Assumes nothing.
use mathlib.Core.Path.{◌≡◌, refl, sym, ap, ◌∙◌}
use mathlib.Core.Bool.{Bool, true, false, cond, ◌&&◌}
use mathlib.Core.List.{List}
use Prim.Native.Nat.{ℕ, ◌+◌, ◌*◌, ◌≤◌}
use native.Mathlib.Omega.{arith}
use native.Mathlib.Nat.{mul-le-mul_right, div-mul-le_self, le_trans}
use lib.ListN.{length, get_or}
use lib.Dec.{eqb, ltb}
use borrow.Author.Tests.{eq-eqb, eqb-true, ltb-false}
use Rattle.problem.specs.Problem.{AllowSame, table_of}
use Rattle.problem.proofs.Tests.{and_left, and_right}
use Rattle.search.specs.Agenda.{stack_of, slots_in, agenda_of}
use Rattle.search.specs.FirstChecks.{WholeSlots}
use Rattle.problem.specs.Tests.FirstChecks.{or_else}
use Rattle.search.specs.Tests.FirstChecks.{whole_slots, refusal_of_lengths}
use Rattle.search.proofs.first_checks.FirstPassing.{PassedSearch}
use Rattle.search.proofs.Encoding.{agenda_back, length_agenda}
use Rattle.problem.proofs.first_checks.Parts.{given_if, else_pass}
use Rattle.search.proofs.HandedOn.{agenda_zeros}
use Rattle.search.proofs.first_checks.Deserved.{slots_true, slots_is}
use Rattle.blocks.specs.Reading.{content_word, content_from, Bytes}
use Rattle.files.specs.Reading.{said_n, said_d, said_steps, said_checks, said_subproblems, said_domains, said_allowed, said_search, table_words, refusal_of_words}
use Rattle.blocks.specs.Tests.Whole.{refusal_of_file}
use Rattle.files.specs.Calls.{load_refusal}
use Rattle.blocks.proofs.Lists.{map_length}
use Rattle.files.proofs.Triangle.{table_length, table_other}
use Rattle.files.proofs.Stacks.{shape_length}
use Rattle.blocks.proofs.Whole.{Whole, file_whole}
use Rattle.files.proofs.Accepted.{Accepts, said_proper, words_accept}
use Rattle.files.proofs.Tables.{rules_agree, proper_agree}
use Rattle.files.proofs.RoundTrip.{said_shape, said_length}

-- ---- 3

-- Lengths that fit.
pub record Fits (n d domains tables agenda : ℕ) : Type 0 where
  pub domain_words : domains ≡ n
  pub table_words : tables ≡ n * n * d
  pub slots : WholeSlots n agenda

-- Passing 3 says that the lengths fit.
pub lengths_fit : (n d domains tables agenda : ℕ) → refusal_of_lengths n d domains tables agenda ≡ 0 → Fits n d domains tables agenda
unfolding refusal_of_lengths
lengths_fit n d domains tables agenda e =
    let ds = eqb domains n in
    let ts = eqb tables (n * n * d) in
    let ws = whole_slots n agenda in
    let all = given_if (ds && ts && ws) 3 (λ z. absurd (omega arith)) e in
    record {
      domain_words = eqb-true domains n (and_left ds ts (and_left (ds && ts) ws all));
      table_words = eqb-true tables (n * n * d) (and_right ds ts (and_left (ds && ts) ws all));
      slots = slots_true n agenda (and_right (ds && ts) ws all);
    }

-- Lengths that fit pass 3.
pub fit_lengths : (n d domains tables agenda : ℕ) → Fits n d domains tables agenda → refusal_of_lengths n d domains tables agenda ≡ 0
unfolding refusal_of_lengths
fit_lengths n d domains tables agenda h =
    rw (eq-eqb domains n h.domain_words, eq-eqb tables (n * n * d) h.table_words, slots_is n agenda h.slots) refl

-- ---- the problem that a file says

module _ (file : List ℕ) (a : Accepts file) where
  -- The problem whose tables have zeros for a variable with itself is the same.
  pub said_agree : AllowSame (said_n file) (said_d file) (said_allowed file) (table_of (said_n file) (said_d file) (table_words (said_n file) (said_d file) (said_allowed file)))
  said_agree i j v l k f m = sym (table_other (said_n file) (said_d file) (said_allowed file) i j v l k f m)

  -- It says n domains.
  pub domain_count : length (said_domains file) ≡ said_n file
  unfolding content_from
  domain_count = map_length (λ k. content_word file (9 + k)) (said_n file)

  -- ---- its agenda in one of so many words that takes it

  module _ (bytes : Bytes file) (words : ℕ) (slots : WholeSlots (said_n file) words) (fits : said_subproblems file ≤ slots_in (said_n file) words) where
    within : said_subproblems file * (said_n file + 2) ≤ words
    within = le_trans (mul-le-mul_right (said_n file + 2) fits) (div-mul-le_self words (said_n file + 2))

    -- The agenda that load leaves is as long as the one lent.
    pub memory_length : length (agenda_of (said_n file) words (said_search file).memory) ≡ words
    memory_length =
        length_agenda (said_n file) words (said_search file).memory
        (rw (
          shape_length (said_n file) a.variables (said_search file).memory (said_shape file bytes a.variables),
          said_length file bytes a.variables,
        )
        within)

    -- It holds the stack that the file says.
    pub memory_read : stack_of (said_n file) (agenda_of (said_n file) words (said_search file).memory) (said_subproblems file) ≡ (said_search file).memory
    memory_read =
        ap (stack_of (said_n file) (agenda_of (said_n file) words (said_search file).memory)) (sym (said_length file bytes a.variables))
        ∙ agenda_back (said_n file) 16 words (said_search file).memory a.variables (said_shape file bytes a.variables)

    -- What is loaded passes the first checks.
    pub said_passing : PassedSearch (said_n file) (said_d file) (said_domains file) (table_words (said_n file) (said_d file) (said_allowed file))
        (agenda_of (said_n file) words (said_search file).memory) (said_steps file) (said_checks file) (said_subproblems file)
    said_passing =
        let tables = table_of (said_n file) (said_d file) (table_words (said_n file) (said_d file) (said_allowed file)) in
        record {
          passed = record {
            proper =
                proper_agree (said_n file) (said_d file) (λ i. get_or (said_domains file) i 0) (said_allowed file) tables said_agree (said_proper file a);
            domains_words = domain_count;
            tables_words = table_length (said_n file) (said_d file) (said_allowed file);
            slots = rw memory_length slots;
          };
          rules = λ P m.
              rules_agree (said_n file) (said_d file) (λ i. get_or (said_domains file) i 0) (said_allowed file) tables said_agree a.domains P
              (a.rules P (rw memory_read at m));
          room = rw memory_length fits;
          zeros = λ k l m.
              agenda_zeros (said_n file) 16 words (said_search file).memory a.variables (said_shape file bytes a.variables) k
              (rw (said_length file bytes a.variables) l);
          limit = a.counted;
        }

-- ---- a load that is not refused

-- What a load that is not refused says.
pub record Taken (file : List ℕ) (domains tables agenda : ℕ) : Type 0 where
  pub whole : Whole file
  pub accepts : Accepts file
  pub lengths : Fits (said_n file) (said_d file) domains tables agenda
  pub room : said_subproblems file ≤ slots_in (said_n file) agenda

-- A refusal 0 says so.
pub load_taken : (file : List ℕ) (domains tables agenda : ℕ) → load_refusal file domains tables agenda ≡ 0 → Taken file domains tables agenda
unfolding load_refusal
load_taken file domains tables agenda e =
    let twelve : ℕ = cond (ltb (slots_in (said_n file) agenda) (said_subproblems file)) 12 0 in
    let three = refusal_of_lengths (said_n file) (said_d file) domains tables agenda in
    let (a, x) = else_pass (refusal_of_file file) (or_else (refusal_of_words file) (or_else three twelve)) e in
    let (b, y) = else_pass (refusal_of_words file) (or_else three twelve) x in
    let (c, z) = else_pass three twelve y in
    record {
      whole = file_whole file a;
      accepts = words_accept file b;
      lengths = lengths_fit (said_n file) (said_d file) domains tables agenda c;
      room = fits (ltb (slots_in (said_n file) agenda) (said_subproblems file)) refl z;
    }
  where
    fits : (b : Bool) → ltb (slots_in (said_n file) agenda) (said_subproblems file) ≡ b → ◌≡◌ {A = ℕ} (cond b 12 0) 0
        → said_subproblems file ≤ slots_in (said_n file) agenda
    fits true e z = absurd (omega arith)
    fits false e z = ltb-false (slots_in (said_n file) agenda) (said_subproblems file) e
