-- Words that are more than the rules allow, or none: the refusals that follow.
-- Assumes nothing.
use mathlib.Core.Path.{◌≡◌, refl, ap}
use mathlib.Core.Logic.{inl, inr}
use mathlib.Core.Bool.{Bool, true, false, cond, ◌&&◌}
use mathlib.Core.List.{List, []}
use Prim.Native.Nat.{ℕ, ◌+◌, ◌*◌, ◌≤◌, ◌<◌}
use native.Mathlib.Omega.{arith}
use native.Mathlib.Nat.{mul-le-mul, lt_of_not-le}
use native.Mathlib.Decide.{dec_lt}
use lib.ListN.{length}
use lib.Dec.{eqb}
use borrow.Author.Tests.{eqb-true, eqb-false, ne_eqb}
use Rattle.problem.proofs.Tests.{and_left, and_right}
use Rattle.problem.specs.Problem.{problem_of}
use Rattle.problem.specs.Tests.FirstChecks.{or_else, refusal_of_numbers, refusal_of_problem}
use Rattle.search.specs.Tests.FirstChecks.{whole_slots, refusal_of_lengths, refusal_of_requests, refusal_of_search, open_refusal, search_refusal, run_refusal}
use Rattle.search.specs.declared.state.State.{State}
use Rattle.search.proofs.first_checks.Deserved.{slots_true}
use Rattle.problem.proofs.first_checks.Passing.{numbers_none}
use Rattle.files.specs.Reading.{said_n, said_d, refusal_of_words}
use Rattle.blocks.specs.Tests.Whole.{refusal_of_file}
use Rattle.files.specs.Calls.{save_refusal, load_refusal}
use Rattle.files.proofs.Accepted.{Accepts, words_accept}
use Rattle.console.specs.Calls.{unwhole, unwhole_file}

-- ---- then 3 is deserved

pub record InRange (n d : ℕ) : Type 0 where
  pub some : 1 ≤ n
  pub few : n ≤ 32
  pub some_value : 1 ≤ d
  pub small : d ≤ 16

pub in_range : (n d : ℕ) → refusal_of_numbers n d ≡ 0 → InRange n d
in_range n d e =
    let f = (numbers_none n d).0 e in record {
      some = elim (dec_lt n 1) [
        | yes l ↦ absurd (f.0 (inl l))
        | no a ↦ omega (arith, lt_of_not-le a)
      ];
      few = elim (dec_lt 32 n) [
        | yes l ↦ absurd (f.0 (inr l))
        | no a ↦ omega (arith, lt_of_not-le a)
      ];
      some_value = elim (dec_lt d 1) [
        | yes l ↦ absurd (f.1 (inl l))
        | no a ↦ omega (arith, lt_of_not-le a)
      ];
      small = elim (dec_lt 16 d) [
        | yes l ↦ absurd (f.1 (inr l))
        | no a ↦ omega (arith, lt_of_not-le a)
      ];
    }

-- So many words are some, and at most so many.
abbrev pub Within : ℕ → ℕ → Type 0
Within words most = (0 < words) × (words ≤ most)

-- So many words of domains, tables and agenda are not all some and as few as the rules allow.
abbrev pub Unfit : ℕ → ℕ → ℕ → Type 0
Unfit domains tables agenda = Within domains 32 → Within tables 16384 → Within agenda 17408 → ⊥

lengths_three : (n d domains tables agenda : ℕ) → InRange n d → Unfit domains tables agenda → refusal_of_lengths n d domains tables agenda ≡ 3
unfolding refusal_of_lengths
lengths_three n d domains tables agenda range unfit = go (eqb domains n && eqb tables (n * n * d) && whole_slots n agenda) refl
  where
    go : (b : Bool) → (eqb domains n && eqb tables (n * n * d) && whole_slots n agenda) ≡ b → ◌≡◌ {A = ℕ} (cond b 0 3) 3
    go false e = refl
    go true e =
        let x : Bool = eqb domains n in
        let y : Bool = eqb tables (n * n * d) in
        let z : Bool = whole_slots n agenda in
        let two : (x && y) ≡ true = and_left (x && y) z e in
        let its_n : domains ≡ n = eqb-true domains n (and_left x y two) in
        let its-masks : tables ≡ n * n * d = eqb-true tables (n * n * d) (and_right x y two) in
        let masks : n * n * d ≤ 32 * 32 * 16 = mul-le-mul (mul-le-mul range.few range.few) range.small in
        let some-masks : 1 * 1 * 1 ≤ n * n * d = mul-le-mul (mul-le-mul range.some range.some) range.some_value in
        let slots = slots_true n agenda (and_right (x && y) z e) in
        let slot : n + 2 ≤ 34 = omega (arith, range.few) in
        let some-slot : 1 ≤ n + 2 = omega arith in
        let words : slots.0 * (n + 2) ≤ 512 * 34 = mul-le-mul slots.2 slot in
        let some_words : 1 * 1 ≤ slots.0 * (n + 2) = mul-le-mul slots.1 some-slot in
        absurd
        (unfit (omega (arith, range.some), omega (arith, range.few)) (omega arith, omega arith) (omega (arith, slots.3), omega (arith, slots.3)))

-- ---- the refusals that follow

else_three : (a x : ℕ) → (a ≡ 0 → x ≡ 3) → or_else a x ≡ or_else a 3
else_three a x h = go (eqb a 0) refl
  where
    go : (b : Bool) → eqb a 0 ≡ b → cond b x a ≡ cond b 3 a
    go true e = h (eqb-true a 0 e)
    go false e = refl

unwhole_some : (a : ℕ) → or_else a 3 ≡ 0 → ⊥
unwhole_some a = go (eqb a 0) refl
  where
    go : (b : Bool) → eqb a 0 ≡ b → cond b 3 a ≡ 0 → ⊥
    go true e h = absurd (omega arith)
    go false e h = eqb-false a 0 e h

pub unwhole_not : (n d : ℕ) → unwhole n d ≡ 0 → ⊥
unfolding unwhole
unwhole_not n d = unwhole_some (refusal_of_numbers n d)

module _ (n d : ℕ) (domains tables agenda : List ℕ) where
  -- Of opening.
  pub open_above : Unfit (length domains) (length tables) (length agenda) → open_refusal n d domains tables agenda ≡ unwhole n d
  unfolding open_refusal unwhole
  open_above h =
      else_three (refusal_of_numbers n d) _
      (λ e. let r = in_range n d e in rw (lengths_three n d (length domains) (length tables) (length agenda) r h) refl)

  -- Of the chooser and of save.
  pub search_above : (steps checks subproblems : ℕ) → Unfit (length domains) (length tables) (length agenda)
      → search_refusal n d domains tables agenda steps checks subproblems ≡ unwhole n d
  unfolding search_refusal
  search_above steps checks subproblems h = rw (open_above h, ne_eqb (unwhole n d) 0 (unwhole_not n d)) refl

  -- Of a run.
  pub run_above : (requests : List ℕ) (steps checks subproblems : ℕ) → Unfit (length domains) (length tables) (length agenda)
      → run_refusal n d domains tables agenda requests steps checks subproblems ≡ unwhole n d
  unfolding run_refusal unwhole
  run_above requests steps checks subproblems h =
      else_three (refusal_of_numbers n d) _
      (λ e. let r = in_range n d e in rw (lengths_three n d (length domains) (length tables) (length agenda) r h) refl)

  -- Of a run whose list is not whole requests.
  pub run_cut : (requests : List ℕ) (steps checks subproblems : ℕ) → (n ≤ 32 → refusal_of_requests n (length requests) ≡ 3)
      → run_refusal n d domains tables agenda requests steps checks subproblems ≡ unwhole n d
  unfolding run_refusal unwhole refusal_of_lengths
  run_cut requests steps checks subproblems h =
      else_three (refusal_of_numbers n d) _
      (λ e. go (eqb (length domains) n && eqb (length tables) (n * n * d) && whole_slots n (length agenda)) (refusal_of_requests n (length requests))
      (h (in_range n d e).few))
    where
      go : (b : Bool) (x : ℕ) → x ≡ 3
          → or_else (cond b 0 3) (or_else x (or_else (refusal_of_problem (problem_of n d domains tables)) (refusal_of_search (problem_of n d domains tables) agenda steps checks subproblems))) ≡ 3
      go true x e = rw e refl
      go false x e = refl

-- Of save.
pub save_above : (n d : ℕ) (domains tables agenda : List ℕ) (s : State) (file : List ℕ) → Unfit (length domains) (length tables) (length agenda)
    → save_refusal n d domains tables agenda s file ≡ unwhole n d
unfolding save_refusal
save_above n d domains tables agenda s file h =
    rw
    (search_above n d domains tables agenda s.counts.steps.0 s.counts.checks.0 s.subproblems h, ne_eqb (unwhole n d) 0 (unwhole_not n d))
    refl

-- The first checks of no words at all.
pub none_unwhole : (n d : ℕ) → open_refusal n d [] [] [] ≡ unwhole n d
unfolding open_refusal unwhole refusal_of_lengths
none_unwhole n d =
    else_three (refusal_of_numbers n d) _
    (λ e. let r = in_range n d e in let f : eqb 0 n ≡ false = ne_eqb 0 n (λ z. absurd (omega (arith, r.some))) in rw f refl)

-- ---- load

pub unwhole_file_not : (file : List ℕ) → unwhole_file file ≡ 0 → ⊥
unfolding unwhole_file
unwhole_file_not file = go (eqb (refusal_of_file file) 0) refl
  where
    go : (b : Bool) → eqb (refusal_of_file file) 0 ≡ b → cond b (or_else (refusal_of_words file) 3) (refusal_of_file file) ≡ 0 → ⊥
    go true e h = unwhole_some (refusal_of_words file) h
    go false e h = eqb-false (refusal_of_file file) 0 e h

said_range : (file : List ℕ) → Accepts file → InRange (said_n file) (said_d file)
said_range file r = record { some = r.some_variable; few = r.variables; some_value = r.some_value; small = r.values }

pub load_above : (file : List ℕ) (domains tables agenda : ℕ) → Unfit domains tables agenda
    → load_refusal file domains tables agenda ≡ unwhole_file file
unfolding load_refusal unwhole_file
load_above file domains tables agenda h =
    ap (or_else (refusal_of_file file)) (else_three (refusal_of_words file) _
    (λ e. let r = words_accept file e in rw (lengths_three (said_n file) (said_d file) domains tables agenda (said_range file r) h) refl))

pub load_no_words : (file : List ℕ) → load_refusal file 0 0 0 ≡ unwhole_file file
unfolding load_refusal unwhole_file refusal_of_lengths
load_no_words file =
    ap (or_else (refusal_of_file file)) (else_three (refusal_of_words file) _
    (λ e. let r = words_accept file e in let f : eqb 0 (said_n file) ≡ false = ne_eqb 0 (said_n file) (λ z. absurd (omega (arith, r.some_variable))) in rw f refl))
