-- The refusals of save and load: which number is given, exactly.
-- Assumes nothing.
use mathlib.Core.Path.{◌≡◌, refl, sym, ◌∙◌}
use mathlib.Core.Logic.{◌⊎◌, inl, inr, ⊎_elim, ◌↔◌}
use mathlib.Core.Bool.{cond, ◌&&◌}
use mathlib.Core.List.{List}
use Prim.Native.Nat.{ℕ, ◌*◌, ◌≤◌, ◌<◌}
use native.Mathlib.Omega.{arith}
use native.Mathlib.Decide.{ℕ_discrete, dec_lt}
use lib.ListN.{length}
use lib.Dec.{eqb, ltb}
use borrow.Author.Tests.{lt-ltb, le-ltb}
use Rattle.search.specs.Agenda.{slots_in}
use Rattle.search.specs.FirstChecks.{Deserves3}
use Rattle.problem.specs.Tests.FirstChecks.{or_else}
use Rattle.search.specs.Tests.FirstChecks.{whole_slots, refusal_of_lengths, search_refusal}
use Rattle.search.specs.declared.state.State.{State}
use Rattle.search.proofs.first_checks.FirstPassing.{lengths_none}
use Rattle.search.proofs.Exactly.{search_refusal_few}
use Rattle.blocks.specs.Blocks.{blocks_for}
use Rattle.files.specs.Reading.{said_n, said_d, said_subproblems, Deserves15, refusal_of_words}
use Rattle.blocks.specs.Reading.{Deserves14}
use Rattle.blocks.specs.Tests.Whole.{refusal_of_file}
use Rattle.files.specs.Calls.{handed_content, save_refusal, load_refusal, Deserves13, Deserves12Load}
use Rattle.blocks.proofs.Tests.{one_of}
use Rattle.files.proofs.Tests.{else_none, else_some}
use Rattle.blocks.proofs.Whole.{refusal_14, refusal_not_14, file_either}
use Rattle.files.proofs.Accepted.{refusal_15, refusal_not_15, words_either}
use Rattle.files.proofs.Loading.{Fits, lengths_fit, fit_lengths}

-- ---- save: 1 to 6, then 13

module _ (n d : ℕ) (domains tables agenda : List ℕ) (s : State) (file : List ℕ) where
  first : ℕ
  first = search_refusal n d domains tables agenda s.counts.steps.0 s.counts.checks.0 s.subproblems

  needed : ℕ
  needed = 512 * blocks_for (length (handed_content n d domains tables agenda s))

  -- The first checks refuse; the buffer is too short; neither.
  data Way : Type 0 where
    early : (first ≡ 0 → ⊥) → save_refusal n d domains tables agenda s file ≡ first → Way
    short : first ≡ 0 → length file < needed → save_refusal n d domains tables agenda s file ≡ 13 → Way
    taken : first ≡ 0 → needed ≤ length file → save_refusal n d domains tables agenda s file ≡ 0 → Way

  way : Way
  unfolding save_refusal first needed
  way = elim (ℕ_discrete first 0) [
    | no f ↦ early f (else_some first (cond (ltb (length file) needed) 13 0) f)
    | yes e ↦
        elim (dec_lt (length file) needed) [
          | yes l ↦ short e l (else_none first (cond (ltb (length file) needed) 13 0) e ∙ rw (lt-ltb (length file) needed l) refl)
          | no l ↦
              let m : needed ≤ length file = omega arith in
              taken e m (else_none first (cond (ltb (length file) needed) 13 0) e ∙ rw (le-ltb (length file) needed m) refl)
        ]
  ]

  small : first ≤ 6
  unfolding first
  small = search_refusal_few n d domains tables agenda s.counts.steps.0 s.counts.checks.0 s.subproblems

  -- 1 to 6 are those of the first checks.
  pub save_first : (j : ℕ) → 1 ≤ j → j ≤ 6 → (save_refusal n d domains tables agenda s file ≡ j)
      ↔ (search_refusal n d domains tables agenda s.counts.steps.0 s.counts.checks.0 s.subproblems ≡ j)
  unfolding first
  save_first j l h = go way
    where
      go : Way → (save_refusal n d domains tables agenda s file ≡ j) ↔ (first ≡ j)
      go (early f e) = (λ x. sym e ∙ x, λ x. e ∙ x)
      go (short z m e) = (λ x. absurd (omega arith), λ x. absurd (omega arith))
      go (taken z m e) = (λ x. absurd (omega arith), λ x. absurd (omega arith))

  -- 13, exactly.
  pub save_13 : (save_refusal n d domains tables agenda s file ≡ 13)
      ↔
      ((search_refusal n d domains tables agenda s.counts.steps.0 s.counts.checks.0 s.subproblems ≡ 0) × Deserves13 n d domains tables
      agenda s file)
  unfolding first needed
  save_13 = go way
    where
      go : Way → (save_refusal n d domains tables agenda s file ≡ 13) ↔ ((first ≡ 0) × (length file < needed))
      go (early f e) = (λ x. absurd (omega (arith, small)), λ x. absurd (f x.0))
      go (short z m e) = (λ x. (z, m), λ x. e)
      go (taken z m e) = (λ x. absurd (omega arith), λ x. absurd (omega (arith, x.1)))

  -- None, exactly.
  pub save_none : (save_refusal n d domains tables agenda s file ≡ 0)
      ↔ ((search_refusal n d domains tables agenda s.counts.steps.0 s.counts.checks.0 s.subproblems ≡ 0)
      × (Deserves13 n d domains tables agenda s file → ⊥))
  unfolding first needed
  save_none = go way
    where
      go : Way → (save_refusal n d domains tables agenda s file ≡ 0) ↔ ((first ≡ 0) × (length file < needed → ⊥))
      go (early f e) = (λ x. absurd (f (sym e ∙ x)), λ x. absurd (f x.0))
      go (short z m e) = (λ x. absurd (omega arith), λ x. absurd (x.1 m))
      go (taken z m e) = (λ x. (z, λ l. absurd (omega arith)), λ x. e)

-- ---- load: 14, 15, 3, 12

-- Four refusals, one after the other: which is given.
data Given (w a b c e : ℕ) : Type 0 where
  by_14 : w ≡ 14 → a ≡ 14 → Given w a b c e
  by_15 : w ≡ 15 → a ≡ 0 → b ≡ 15 → Given w a b c e
  by_3 : w ≡ 3 → a ≡ 0 → b ≡ 0 → c ≡ 3 → Given w a b c e
  by_12 : w ≡ 12 → a ≡ 0 → b ≡ 0 → c ≡ 0 → e ≡ 12 → Given w a b c e
  by_none : w ≡ 0 → a ≡ 0 → b ≡ 0 → c ≡ 0 → e ≡ 0 → Given w a b c e

given : (a b c e : ℕ) → (a ≡ 0) ⊎ (a ≡ 14) → (b ≡ 0) ⊎ (b ≡ 15) → (c ≡ 0) ⊎ (c ≡ 3) → (e ≡ 0) ⊎ (e ≡ 12)
    → Given (or_else a (or_else b (or_else c e))) a b c e
given a b c e (inr x) y z w = by_14 (rw x refl) x
given a b c e (inl x) (inr y) z w = by_15 (rw (x, y) refl) x y
given a b c e (inl x) (inl y) (inr z) w = by_3 (rw (x, y, z) refl) x y z
given a b c e (inl x) (inl y) (inl z) (inr w) = by_12 (rw (x, y, z) w) x y z w
given a b c e (inl x) (inl y) (inl z) (inl w) = by_none (rw (x, y, z) w) x y z w

module _ {w a b c e : ℕ} where
  given_14 : Given w a b c e → (w ≡ 14) ↔ (a ≡ 14)
  given_14 (by_14 h x) = (λ q. x, λ q. h)
  given_14 (by_15 h x y) = (λ q. absurd (omega arith), λ q. absurd (omega arith))
  given_14 (by_3 h x y z) = (λ q. absurd (omega arith), λ q. absurd (omega arith))
  given_14 (by_12 h x y z v) = (λ q. absurd (omega arith), λ q. absurd (omega arith))
  given_14 (by_none h x y z v) = (λ q. absurd (omega arith), λ q. absurd (omega arith))

  given_15 : Given w a b c e → (w ≡ 15) ↔ ((a ≡ 0) × (b ≡ 15))
  given_15 (by_14 h x) = (λ q. absurd (omega arith), λ q. absurd (omega arith))
  given_15 (by_15 h x y) = (λ q. (x, y), λ q. h)
  given_15 (by_3 h x y z) = (λ q. absurd (omega arith), λ q. absurd (omega arith))
  given_15 (by_12 h x y z v) = (λ q. absurd (omega arith), λ q. absurd (omega arith))
  given_15 (by_none h x y z v) = (λ q. absurd (omega arith), λ q. absurd (omega arith))

  given_3 : Given w a b c e → (w ≡ 3) ↔ ((a ≡ 0) × (b ≡ 0) × (c ≡ 3))
  given_3 (by_14 h x) = (λ q. absurd (omega arith), λ q. absurd (omega arith))
  given_3 (by_15 h x y) = (λ q. absurd (omega arith), λ q. absurd (omega arith))
  given_3 (by_3 h x y z) = (λ q. (x, y, z), λ q. h)
  given_3 (by_12 h x y z v) = (λ q. absurd (omega arith), λ q. absurd (omega arith))
  given_3 (by_none h x y z v) = (λ q. absurd (omega arith), λ q. absurd (omega arith))

  given_12 : Given w a b c e → (w ≡ 12) ↔ ((a ≡ 0) × (b ≡ 0) × (c ≡ 0) × (e ≡ 12))
  given_12 (by_14 h x) = (λ q. absurd (omega arith), λ q. absurd (omega arith))
  given_12 (by_15 h x y) = (λ q. absurd (omega arith), λ q. absurd (omega arith))
  given_12 (by_3 h x y z) = (λ q. absurd (omega arith), λ q. absurd (omega arith))
  given_12 (by_12 h x y z v) = (λ q. (x, y, z, v), λ q. h)
  given_12 (by_none h x y z v) = (λ q. absurd (omega arith), λ q. absurd (omega arith))

  given_none : Given w a b c e → (w ≡ 0) ↔ ((a ≡ 0) × (b ≡ 0) × (c ≡ 0) × (e ≡ 0))
  given_none (by_14 h x) = (λ q. absurd (omega arith), λ q. absurd (omega arith))
  given_none (by_15 h x y) = (λ q. absurd (omega arith), λ q. absurd (omega arith))
  given_none (by_3 h x y z) = (λ q. absurd (omega arith), λ q. absurd (omega arith))
  given_none (by_12 h x y z v) = (λ q. absurd (omega arith), λ q. absurd (omega arith))
  given_none (by_none h x y z v) = (λ q. (x, y, z, v), λ q. h)

-- 3: the lengths.
module _ (n d : ℕ) (domains tables agenda : List ℕ) where
  -- The answer is 0 or 3.
  pub lengths_either : (refusal_of_lengths n d (length domains) (length tables) (length agenda) ≡ 0) ⊎ (refusal_of_lengths n d (length domains) (length tables) (length agenda) ≡ 3)
  unfolding refusal_of_lengths
  lengths_either = one_of (eqb (length domains) n && eqb (length tables) (n * n * d) && whole_slots n (length agenda)) 0 3

  fits_not : Fits n d (length domains) (length tables) (length agenda) → Deserves3 n d domains tables agenda → ⊥
  fits_not f (inl h) = h f.domain_words
  fits_not f (inr (inl h)) = h f.table_words
  fits_not f (inr (inr h)) = h f.slots

  wrong : (Fits n d (length domains) (length tables) (length agenda) → ⊥) → Deserves3 n d domains tables agenda
  wrong f = elim (ℕ_discrete (length domains) n) [
    | no h ↦ inl h
    | yes x ↦
        elim (ℕ_discrete (length tables) (n * n * d)) [
          | no h ↦ inr (inl h)
          | yes y ↦ inr (inr (λ z. f (record { domain_words = x; table_words = y; slots = z })))
        ]
  ]

  -- 3 is given exactly if it is deserved.
  pub lengths_3 : (refusal_of_lengths n d (length domains) (length tables) (length agenda) ≡ 3) ↔ Deserves3 n d domains tables agenda
  lengths_3 = (
    λ e. wrong (λ f. let z = fit_lengths n d (length domains) (length tables) (length agenda) f in absurd (omega arith)),
    λ g. ⊎_elim (λ e. absurd (fits_not (lengths_fit n d (length domains) (length tables) (length agenda) e) g)) (λ e. e) lengths_either,
  )

module _ (file domains tables agenda : List ℕ) where
  room : ℕ
  room = cond (ltb (slots_in (said_n file) (length agenda)) (said_subproblems file)) 12 0

  room_12 : (room ≡ 12) ↔ Deserves12Load file agenda
  unfolding room
  room_12 = elim (dec_lt (slots_in (said_n file) (length agenda)) (said_subproblems file)) [
    | yes l ↦ rw (lt-ltb (slots_in (said_n file) (length agenda)) (said_subproblems file) l) (λ e. l, λ e. refl)
    | no l ↦ rw (le-ltb (slots_in (said_n file) (length agenda)) (said_subproblems file) (omega arith)) (λ e. absurd (omega arith), λ e. absurd (l e))
  ]

  room_not_12 : (room ≡ 0) ↔ (Deserves12Load file agenda → ⊥)
  unfolding room
  room_not_12 = elim (dec_lt (slots_in (said_n file) (length agenda)) (said_subproblems file)) [
    | yes l ↦ rw (lt-ltb (slots_in (said_n file) (length agenda)) (said_subproblems file) l) (λ e. absurd (omega arith), λ e. absurd (e l))
    | no l ↦ rw (le-ltb (slots_in (said_n file) (length agenda)) (said_subproblems file) (omega arith)) (λ e. l, λ e. refl)
  ]

  all : Given (load_refusal file (length domains) (length tables) (length agenda)) (refusal_of_file file) (refusal_of_words file)
      (refusal_of_lengths (said_n file) (said_d file) (length domains) (length tables) (length agenda)) room
  unfolding load_refusal room
  all =
      given (refusal_of_file file) (refusal_of_words file) (refusal_of_lengths (said_n file) (said_d file) (length domains) (length tables) (length agenda))
      room
      (file_either file) (words_either file) (lengths_either (said_n file) (said_d file) domains tables agenda)
      (⊎_elim (λ e. inr e) (λ e. inl e) (one_of (ltb (slots_in (said_n file) (length agenda)) (said_subproblems file)) 12 0))

  -- 14, exactly.
  pub load_14 : (load_refusal file (length domains) (length tables) (length agenda) ≡ 14) ↔ Deserves14 file
  load_14 = (λ e. (refusal_14 file).0 ((given_14 all).0 e), λ g. (given_14 all).1 ((refusal_14 file).1 g))

  -- 15, exactly.
  pub load_15 : (load_refusal file (length domains) (length tables) (length agenda) ≡ 15) ↔ ((Deserves14 file → ⊥) × Deserves15 file)
  load_15 = (
    λ e. let (x, y) = (given_15 all).0 e in ((refusal_not_14 file).0 x, (refusal_15 file).0 y),
    λ g. (given_15 all).1 ((refusal_not_14 file).1 g.0, (refusal_15 file).1 g.1),
  )

  -- 3, exactly.
  pub load_3 : (load_refusal file (length domains) (length tables) (length agenda) ≡ 3)
      ↔ ((Deserves14 file → ⊥) × (Deserves15 file → ⊥) × Deserves3 (said_n file) (said_d file) domains tables agenda)
  load_3 = (
    λ e. let (x, y, z) =
        (given_3 all).0 e in ((refusal_not_14 file).0 x, (refusal_not_15 file).0 y, (lengths_3 (said_n file) (said_d file) domains tables agenda).0 z),
    λ g. (given_3 all).1
        ((refusal_not_14 file).1 g.0, (refusal_not_15 file).1 g.1, (lengths_3 (said_n file) (said_d file) domains tables agenda).1 g.2),
  )

  -- 12, exactly.
  pub load_12 : (load_refusal file (length domains) (length tables) (length agenda) ≡ 12)
      ↔
      ((Deserves14 file → ⊥) × (Deserves15 file → ⊥) × (Deserves3 (said_n file) (said_d file) domains tables agenda → ⊥) × Deserves12Load file
      agenda)
  load_12 = (
    λ e.
        let (x, y, z, w) = (given_12 all).0 e in
        ((refusal_not_14 file).0 x, (refusal_not_15 file).0 y, (lengths_none (said_n file) (said_d file) domains tables agenda).0 z, room_12.0 w),
    λ g.
        (given_12 all).1 (
          (refusal_not_14 file).1 g.0,
          (refusal_not_15 file).1 g.1,
          (lengths_none (said_n file) (said_d file) domains tables agenda).1 g.2,
          room_12.1 g.3,
        ),
  )

  -- None, exactly.
  pub load_none : (load_refusal file (length domains) (length tables) (length agenda) ≡ 0)
      ↔ ((Deserves14 file → ⊥) × (Deserves15 file → ⊥) × (Deserves3 (said_n file) (said_d file) domains tables agenda → ⊥)
      × (Deserves12Load file agenda → ⊥))
  load_none = (
    λ e.
        let (x, y, z, w) = (given_none all).0 e in
        ((refusal_not_14 file).0 x, (refusal_not_15 file).0 y, (lengths_none (said_n file) (said_d file) domains tables agenda).0 z, room_not_12.0 w),
    λ g.
        (given_none all).1 (
          (refusal_not_14 file).1 g.0,
          (refusal_not_15 file).1 g.1,
          (lengths_none (said_n file) (said_d file) domains tables agenda).1 g.2,
          room_not_12.1 g.3,
        ),
  )
