-- The rules that 15 speaks of are kept exactly if the search that the file says, in an agenda of 512 slots, passes search's first checks.
-- Assumes nothing.
use mathlib.Core.Path.{◌≡◌, refl, sym, ap, ◌∙◌}
use mathlib.Core.Logic.{⊎_elim}
use mathlib.Core.Bool.{Bool, true, ◌&&◌}
use mathlib.Core.List.{List, ◌++◌}
use Prim.Native.Nat.{ℕ, ◌+◌, ◌-◌, ◌*◌, ◌≤◌}
use native.Mathlib.Omega.{arith}
use native.Mathlib.Nat.{mul-le-mul_right}
use native.Mathlib.Decide.{dec_lt}
use lib.ListN.{length, get_or, take, drop, replicate, length-replicate}
use lib.Seq.{take_all}
use lib.Dec.{eqb}
use borrow.Author.Tests.{eqb-true}
use Rattle.std.specs.Prelude.{Result, Ok, Err}
use Rattle.std.specs.Result.{result_or}
use Rattle.problem.specs.declared.refusal.Refusal.{Refusal}
use Rattle.problem.specs.declared.refusal.Refusal.TheVariants.{Content}
use Rattle.problem.specs.Refused.{told}
use Rattle.problem.proofs.Refused.{never_0}
use Rattle.problem.specs.Problem.{table_of}
use Rattle.problem.specs.Lists.{every}
use Rattle.problem.proofs.Tests.{and_left, and_right, every_at}
use Rattle.search.specs.Agenda.{slots_in, stack_of, stack_words, agenda_of}
use Rattle.search.specs.FirstChecks.{WholeSlots}
use Rattle.search.specs.Tests.FirstChecks.{search_refusal}
use Rattle.problem.proofs.Copies.{zeros_at}
use Rattle.search.proofs.Encoding.{stack_of_words, agenda_back}
use Rattle.search.proofs.first_checks.FirstPassing.{search_is_passed}
use Rattle.blocks.specs.Blocks.{blocks_for}
use Rattle.blocks.specs.Reading.{blocks_in, content_word, content_from, Bytes}
use Rattle.files.specs.Reading.{said_n, said_d, said_steps, said_checks, said_subproblems, said_domains, said_allowed, said_agenda, said_search, said_words, agenda_from, table_words, refusal_of_words}
use Rattle.files.specs.Loops.Said.{Numbers, numbers_in, zero_in, filled, sized_in, Read, Made, part_in}
use Rattle.files.specs.Calls.{HeaderOf}
use Rattle.files.specs.declared.saved.Header.{Header}
use Rattle.blocks.proofs.Lists.{seq, seq_join, map_is}
use Rattle.files.proofs.Triangle.{table_other}
use Rattle.files.proofs.Stacks.{slots_in_lem}
use Rattle.blocks.proofs.Whole.{Whole, file_whole}
use Rattle.files.proofs.Accepted.{Accepts, words_accept, accept_words, words_either}
use Rattle.files.proofs.Tables.{rules_agree}
use Rattle.files.proofs.RoundTrip.{said_shape, said_length}
use Rattle.files.proofs.Loading.{said_passing}
use Rattle.blocks.proofs.Contents.{length_from, from_small}
use Rattle.files.proofs.filling.Mirrors.{part_at, part_long, triangle_few}
use Rattle.blocks.proofs.reading.Filled.{content_past}
use Rattle.files.proofs.reading.Refused.{sized_numbers, read_numbers}

-- ---- parts of the words read

-- A part of them is so many words of the content.
pub part_read : (file words : List ℕ) (h : Header) → Read file words h → (from w : ℕ) → from + w ≤ 25553 → part_in words from w ≡ content_from file from w
unfolding content_from part_in
part_read file words header read from w h =
    sym (map_is (λ k. content_word file (from + k)) w (take ((from + w) - from) (drop from words)) (part_long words from w (omega (arith, read.long)))
    (λ k l. sym (read.says (from + k)) ∙ sym (part_at words from w k l)))

-- ---- the agenda

-- The words of the stack that they say are these words.
words_said : (file : List ℕ) (n from m : ℕ) → Bytes file
    → stack_words n (stack_of n (content_from file from (m * (n + 2))) m) ≡ content_from file from (m * (n + 2))
words_said file n from m small =
    let l : List ℕ = content_from file from (m * (n + 2)) in
    let long : length l ≡ m * (n + 2) = length_from file from (m * (n + 2)) in
    stack_of_words n l m (omega arith) (from_small file from (m * (n + 2)) small) ∙ take_all (m * (n + 2)) l (omega arith)

-- With zeros after them they are the agenda of the stack that the file says.
pub agenda_said : (file : List ℕ) (words : ℕ) → Bytes file
    → content_from file (agenda_from (said_n file) (said_d file)) (said_subproblems file * (said_n file + 2)) ++ replicate (words - said_subproblems file * (said_n file + 2)) 0
    ≡ agenda_of (said_n file) words (said_search file).memory
unfolding agenda_of said_agenda
agenda_said file words small =
    let n : ℕ = said_n file in
    let m : ℕ = said_subproblems file in
    let said = words_said file n (agenda_from (said_n file) (said_d file)) m small in
    rw (said, length_from file (agenda_from (said_n file) (said_d file)) (m * (n + 2))) refl

-- ---- the first checks

module _ (file : List ℕ) (small : Bytes file) (whole : Whole file) (sized : sized_in file ≡ true) where
  numbers : Numbers (said_n file) (said_d file) × (said_subproblems file ≤ 512)
  numbers = sized_numbers file (said_n file) (said_d file) (said_subproblems file) refl refl refl sized

  -- Its words fill its blocks.
  record Full : Type 0 where
    pub fills : blocks_in file ≡ blocks_for (said_words file)
    pub zeros : (k : ℕ) → said_words file ≤ k → content_word file k ≡ 0

  full : Full
  unfolding sized_in filled zero_in
  full =
      let words : ℕ = said_words file in
      let test : ℕ → Bool = λ k. eqb (content_word file (words + k)) 0 in
      let blocks : Bool = eqb (blocks_in file) (blocks_for words) in
      let both = and_right (numbers_in (said_n file) (said_d file) (said_subproblems file)) (blocks && every (blocks_in file * 253 - words) test) sized in
      record {
        fills = eqb-true (blocks_in file) (blocks_for words) (and_left blocks (every (blocks_in file * 253 - words) test) both);
        zeros = λ k l. elim (dec_lt k (blocks_in file * 253)) [
          | yes h ↦
              let at : words + (k - words) ≡ k = omega arith in
              rw (← at) (eqb-true (content_word file (words + (k - words))) 0
              (every_at test (blocks_in file * 253 - words) (k - words) (omega arith) (and_right blocks (every (blocks_in file * 253 - words) test) both)))
          | no h ↦ content_past file k (omega (arith, whole.whole))
        ];
      }

  -- The largest agenda.
  abbrev memory : List ℕ
  memory = agenda_of (said_n file) (512 * (said_n file + 2)) (said_search file).memory

  slots : WholeSlots (said_n file) (512 * (said_n file + 2))
  slots = (512, omega arith, omega arith, refl)

  fits : said_subproblems file ≤ slots_in (said_n file) (512 * (said_n file + 2))
  fits = rw (slots_in_lem (said_n file) 512) numbers.1

  -- The words from the agenda's first on are that agenda.
  memory_is : content_from file (agenda_from (said_n file) (said_d file)) (512 * (said_n file + 2)) ≡ memory
  unfolding content_from seq
  memory_is =
      let n : ℕ = said_n file in
      let used : ℕ = said_subproblems file * (n + 2) in
      let left : ℕ = 512 * (n + 2) - used in
      let few : used ≤ 512 * (n + 2) = mul-le-mul_right (n + 2) numbers.1 in
      let all : used + left ≡ 512 * (n + 2) = omega arith in
      let zeros : content_from file (agenda_from (said_n file) (said_d file) + used) left ≡ replicate left 0 =
      map_is (λ k. content_word file (agenda_from (said_n file) (said_d file) + used + k)) left (replicate left 0) (length-replicate left 0)
      (λ k l. full.zeros (agenda_from (said_n file) (said_d file) + used + k) (omega arith) ∙ sym (zeros_at left k)) in
      ap (content_from file (agenda_from (said_n file) (said_d file))) (sym all) ∙ seq_join (content_word file) (agenda_from (said_n file) (said_d file)) used
      left
      ∙ ap (λ (t : List ℕ). content_from file (agenda_from (said_n file) (said_d file)) used ++ t) zeros ∙ agenda_said file (512 * (n + 2)) small

  -- It holds the stack that the file says.
  memory_read : stack_of (said_n file) memory (said_subproblems file) ≡ (said_search file).memory
  memory_read =
      let few = numbers.0.variables in
      ap (stack_of (said_n file) memory) (sym (said_length file small few))
      ∙ agenda_back (said_n file) 16 (512 * (said_n file + 2)) (said_search file).memory few (said_shape file small few)

  -- The refusal of the first checks.
  abbrev checked : ℕ
  checked =
      search_refusal (said_n file) (said_d file) (said_domains file) (table_words (said_n file) (said_d file) (said_allowed file)) memory
      (said_steps file) (said_checks file) (said_subproblems file)

  -- An accepted file passes them.
  accepted_passes : Accepts file → checked ≡ 0
  accepted_passes a =
      (search_is_passed (said_n file) (said_d file) (said_domains file) (table_words (said_n file) (said_d file) (said_allowed file)) memory
      (said_steps file) (said_checks file) (said_subproblems file)).1 (said_passing file a small (512 * (said_n file + 2)) slots fits)

  -- One that passes them is accepted.
  passes_accepted : checked ≡ 0 → Accepts file
  passes_accepted e =
      let n : ℕ = said_n file in
      let d : ℕ = said_d file in
      let tables : List ℕ = table_words n d (said_allowed file) in
      let h = (search_is_passed n d (said_domains file) tables memory (said_steps file) (said_checks file) (said_subproblems file)).0 e in
      record {
        some_variable = numbers.0.some_variable;
        variables = numbers.0.variables;
        some_value = numbers.0.some_value;
        values = numbers.0.values;
        few = numbers.1;
        fills = full.fills;
        zeros = λ k l m. full.zeros k l;
        domains = h.passed.proper.domains;
        masks = λ i j a l k m.
            let other : i ≡ j → ⊥ = λ q. absurd (omega arith) in
            rw (← table_other n d (said_allowed file) i j a (omega arith) k other m) (h.passed.proper.masks i j a (omega arith) k other m);
        rules = λ P m.
            rules_agree n d (λ i. get_or (said_domains file) i 0) (table_of n d tables) (said_allowed file) (table_other n d (said_allowed file))
            h.passed.proper.domains P
            (h.rules P (rw memory_read m));
        counted = h.limit;
      }

  -- So 15 is given exactly if they refuse.
  pub passes_none : checked ≡ 0 → 0 ≡ refusal_of_words file
  passes_none e = sym (accept_words file (passes_accepted e))

  pub refused_given : (checked ≡ 0 → ⊥) → 15 ≡ refusal_of_words file
  refused_given f = ⊎_elim (λ z. absurd (f (accepted_passes (words_accept file z)))) (λ z. sym z) (words_either file)

-- ---- as the code makes them

module _ (file words tables ds slots : List ℕ) (h : Header) (read : Read file words h) (tabled : Made file tables) (r : ℕ)
    (is-ds : ds ≡ part_in words 9 h.n) (is-slots : slots ≡ part_in words (agenda_from h.n h.d) (512 * (h.n + 2)))
    (is-r : r ≡ search_refusal h.n h.d ds tables slots h.state.counts.steps.0 h.state.counts.checks.0 h.state.subproblems) where
  abbrev said : HeaderOf file h
  said = read.header

  fitting : Numbers h.n h.d × (h.state.subproblems ≤ 512)
  fitting = read_numbers file words h read

  domains_read : ds ≡ said_domains file
  domains_read = is-ds ∙ part_read file words h read 9 h.n (omega (arith, fitting.0.variables)) ∙ ap (content_from file 9) said.its_n

  slots_read : slots ≡ agenda_of (said_n file) (512 * (said_n file + 2)) (said_search file).memory
  slots_read =
      is-slots ∙ part_read file words h read (agenda_from h.n h.d) (512 * (h.n + 2))
      (omega (arith, triangle_few h.n h.d fitting.0, fitting.0.variables))
      ∙ rw (said.its_n, said.its_d) (memory_is file read.bytes (file_whole file read.whole) read.sized)

  made : r ≡ checked file read.bytes (file_whole file read.whole) read.sized
  made = is-r ∙ rw (domains_read, slots_read, tabled, said.steps, said.checks, said.subproblems, said.its_n, said.its_d) refl

  -- They pass.
  pub rules_kept : r ≡ 0 → 0 ≡ refusal_of_words file
  rules_kept z = passes_none file read.bytes (file_whole file read.whole) read.sized (sym made ∙ z)

  -- They refuse.
  pub rules_broken : (r ≡ 0 → ⊥) → 15 ≡ refusal_of_words file
  rules_broken f = refused_given file read.bytes (file_whole file read.whole) read.sized (λ z. f (made ∙ z))

-- Whatever they refuse is 15.
pub fifteen_or : {A : Type 0} (r : Result A Refusal) (k : ℕ) → (told r ≡ 0 → 0 ≡ k) → ((told r ≡ 0 → ⊥) → 15 ≡ k)
    → told (result_or r (Err Content)) ≡ k
fifteen_or (Ok a) k none some = none refl
fifteen_or (Err refusal) k none some = some (never_0 refusal)
