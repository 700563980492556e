-- The refusals of opening, save and load of Rattle by their tables, and what is left.
-- Assumes nothing.
use mathlib.Core.Path.{◌≡◌, refl, sym, subst, ◌∙◌}
use mathlib.Core.Logic.{inl, inr, ⊎_elim}
use mathlib.Core.List.{List, [], ◌∷◌}
use Prim.Native.Nat.{ℕ, ◌≤◌}
use native.Mathlib.Omega.{arith}
use native.Mathlib.Decide.{ℕ_discrete}
use lib.ListN.{length}
use borrow.Author.Tests.{ne_eqb}
use Rattle.problem.specs.FirstChecks.{Deserves4, Deserves5}
use Rattle.problem.specs.Refusing.{Refusals, FirstOf}
use Rattle.problem.proofs.Refusing.{found_of, first_of, Found}
use Rattle.search.specs.FirstChecks.{Deserves3, Deserves6}
use Rattle.search.specs.Promises.{search_table}
use Rattle.search.specs.Tests.FirstChecks.{open_refusal, search_refusal}
use Rattle.search.proofs.Promises.{open_refusals, search_refusals}
use Rattle.search.proofs.Exactly.{search_refusal_few}
use Rattle.blocks.specs.Reading.{Deserves14}
use Rattle.files.specs.Reading.{said_n, said_d, Deserves15}
use Rattle.files.specs.Calls.{Deserves13, Deserves12Load, save_refusal, load_refusal}
use Rattle.files.proofs.Promises.{save_first, save_13, save_none, load_14, load_15, load_3, load_12, load_none}
use Rattle.console.specs.Searches.{Held, Lent, state_in}
use Rattle.demands.specs.Promises.{rattle, problem, checks, Deserves3 as DeservesThree}
use Rattle.demands.proofs.Tables.{in_third, further, found_further}
use Rattle.demands.proofs.Saying.{no_odd}

-- 3 where no list can be odd and there are no requests.
lengths_there : (n d : ℕ) (m : Lent) → Deserves3 n d m.domains m.tables m.held.agenda → DeservesThree rattle n d m []
lengths_there n d m x = inl (inl x)

lengths_back : (n d : ℕ) (m : Lent) → DeservesThree rattle n d m [] → Deserves3 n d m.domains m.tables m.held.agenda
lengths_back n d m x =
    ⊎_elim (λ y. ⊎_elim (λ w. w) (λ f. absurd (f (0, omega arith))) y)
    (λ f. absurd (no_odd (length m.domains) (length m.tables) (length m.held.agenda) 0 f)) x

-- ---- opening

pub opening_so : (m : Lent) (x : Held) (k : ℕ) → rattle.Opening m x k
    → FirstOf (checks rattle m [] []) k × ((k ≡ 0 → ⊥) → x ≡ record { agenda = m.held.agenda; steps = 0; checks = 0; subproblems = 0 })
opening_so m x k h =
    let first = open_refusal m.n m.d m.domains m.tables m.held.agenda in (
      subst (FirstOf (checks rattle m [] [])) (sym h.refusal)
          (in_third 1 2 3 _ _ _ _ ((4, Deserves4 (problem rattle m m.tables)) ∷ (5, Deserves5 (problem rattle m m.tables)) ∷ []) _ (lengths_there m.n m.d m) (lengths_back m.n m.d m) refl
          (open_refusals m.n m.d m.domains m.tables m.held.agenda)),
      (λ f.
          let test = ne_eqb first 0 (λ e. f (h.refusal ∙ e)) in
          let none : x.subproblems ≡ 0 = rw test at h.subproblems in
          let same : x.agenda ≡ m.held.agenda = rw test at h.agenda in
          (λ i. record { agenda = same i; steps = h.steps i; checks = h.checks i; subproblems = none i })),
    )

-- ---- save

module _ (m : Lent) (file : List ℕ) where
  first : ℕ
  first = search_refusal m.n m.d m.domains m.tables m.held.agenda m.held.steps m.held.checks m.held.subproblems

  number : ℕ
  number = save_refusal m.n m.d m.domains m.tables m.held.agenda (state_in m.held) file

  abbrev Short : Type 0
  Short = Deserves13 m.n m.d m.domains m.tables m.held.agenda (state_in m.held) file

  same_first : (first ≡ 0 → ⊥) → number ≡ first
  unfolding first number
  same_first f =
      let few : first ≤ 6 =
      search_refusal_few m.n m.d m.domains m.tables m.held.agenda m.held.steps m.held.checks m.held.subproblems in
      (save_first m.n m.d m.domains m.tables m.held.agenda (state_in m.held) file first (some first f) few).1 refl
    where
      some : (k : ℕ) → (k ≡ 0 → ⊥) → 1 ≤ k
      some k f = elim (ℕ_discrete k 0) [ yes e ↦ absurd (f e) | no g ↦ omega arith ]

  last : first ≡ 0 → Found ((13, Short) ∷ []) number
  unfolding first number
  last z =
      let thirteen = save_13 m.n m.d m.domains m.tables m.held.agenda (state_in m.held) file in
      let none = save_none m.n m.d m.domains m.tables m.held.agenda (state_in m.held) file in
      elim (ℕ_discrete number 13) [
        | yes e ↦ inl ((thirteen.0 e).1, e)
        | no g ↦ let f : Short → ⊥ = λ s. g (thirteen.1 (z, s)) in inr (f, none.1 (z, f))
      ]

  abbrev table : Refusals
  table = search_table m.n m.d m.domains m.tables m.held.agenda m.held.steps m.held.checks m.held.subproblems

  save_table : FirstOf (further table 13 Short) number
  unfolding first
  save_table =
      first_of (further table 13 Short) number refl
      (found_further table 13 Short first number
      ((λ e. absurd (omega arith)), ((λ e. absurd (omega arith)), ((λ e. absurd (omega arith)), ((λ e. absurd (omega arith)), ((λ e. absurd (omega arith)), ((λ e. absurd (omega arith)), tt))))))
      (found_of table first (search_refusals m.n m.d m.domains m.tables m.held.agenda m.held.steps m.held.checks m.held.subproblems))
      same_first last)

  pub saving_so : (after : List ℕ) (blocks k : ℕ) → rattle.Saving m m.held file after blocks k
      → FirstOf (checks rattle m [] ((6, Deserves6 (problem rattle m m.tables) m.held.agenda m.held.steps m.held.checks m.held.subproblems) ∷ (13, Short) ∷ [])) k
      × ((k ≡ 0 → ⊥) → (after ≡ file) × (blocks ≡ 0))
  unfolding number
  saving_so after blocks k h = (
    subst (FirstOf (checks rattle m [] ((6, Deserves6 (problem rattle m m.tables) m.held.agenda m.held.steps m.held.checks m.held.subproblems) ∷ (13, Short) ∷ [])))
        (sym h.refusal)
        (in_third 1 2 3 _ _ _ _
        ((4, Deserves4 (problem rattle m m.tables)) ∷ (5, Deserves5 (problem rattle m m.tables)) ∷ (6, Deserves6 (problem rattle m m.tables) m.held.agenda m.held.steps m.held.checks m.held.subproblems) ∷ (13, Short) ∷ [])
        _ (lengths_there m.n m.d m) (lengths_back m.n m.d m) refl save_table),
    (λ f.
        let test = ne_eqb number 0 (λ e. f (h.refusal ∙ e)) in
        (rw test at h.file, rw test at h.blocks)),
  )

-- ---- load

module _ (file : List ℕ) (m : Lent) where
  load_number : ℕ
  load_number = load_refusal file (length m.domains) (length m.tables) (length m.held.agenda)

  load_table : FirstOf ((14, Deserves14 file) ∷ (15, Deserves15 file) ∷ (3, Deserves3 (said_n file) (said_d file) m.domains m.tables m.held.agenda)
      ∷ (12, Deserves12Load file m.held.agenda) ∷ []) load_number
  unfolding load_number
  load_table =
      let a = load_14 file m.domains m.tables m.held.agenda in
      let b = load_15 file m.domains m.tables m.held.agenda in
      let c = load_3 file m.domains m.tables m.held.agenda in
      let d = load_12 file m.domains m.tables m.held.agenda in
      let e = load_none file m.domains m.tables m.held.agenda in (
        ((λ q. (tt, a.0 q)), (λ x. a.1 x.1)),
        (
          ((λ q. ((tt, (b.0 q).0), (b.0 q).1)), (λ x. b.1 (x.0.1, x.1))),
          (
            ((λ q. (((tt, (c.0 q).0), (c.0 q).1), (c.0 q).2)), (λ x. c.1 (x.0.0.1, x.0.1, x.1))),
            (
              ((λ q. ((((tt, (d.0 q).0), (d.0 q).1), (d.0 q).2), (d.0 q).3)), (λ x. d.1 (x.0.0.0.1, x.0.0.1, x.0.1, x.1))),
              ((λ q. ((((tt, (e.0 q).0), (e.0 q).1), (e.0 q).2), (e.0 q).3)), (λ x. e.1 (x.0.0.0.1, x.0.0.1, x.0.1, x.1))),
            ),
          ),
        ),
      )

  pub loading_so : (x : Lent) (k : ℕ) → rattle.Loading file m x k
      → FirstOf ((14, Deserves14 file) ∷ (15, Deserves15 file) ∷ (3, DeservesThree rattle (said_n file) (said_d file) m []) ∷ (12, Deserves12Load file m.held.agenda) ∷ []) k
      × ((k ≡ 0 → ⊥) → x ≡ record { n = 0; d = 0; domains = m.domains; tables = m.tables; held = record { agenda = m.held.agenda; steps = 0; checks = 0; subproblems = 0 } })
  unfolding load_number
  loading_so x k h = (
    subst (FirstOf ((14, Deserves14 file) ∷ (15, Deserves15 file) ∷ (3, DeservesThree rattle (said_n file) (said_d file) m []) ∷ (12, Deserves12Load file m.held.agenda) ∷ []))
        (sym h.refusal)
        (in_third 14 15 3 _ _ _ _ ((12, Deserves12Load file m.held.agenda) ∷ []) _ (lengths_there (said_n file) (said_d file) m) (lengths_back (said_n file) (said_d file) m) refl load_table),
    (λ f.
        let test = ne_eqb load_number 0 (λ e. f (h.refusal ∙ e)) in
        let n : x.n ≡ 0 = rw test at h.its_n in
        let d : x.d ≡ 0 = rw test at h.its_d in
        let domains : x.domains ≡ m.domains = rw test at h.its_domains in
        let tables : x.tables ≡ m.tables = rw test at h.its_tables in
        let agenda : x.held.agenda ≡ m.held.agenda = rw test at h.its_agenda in
        let steps : x.held.steps ≡ 0 = rw test at h.steps in
        let checks : x.held.checks ≡ 0 = rw test at h.checks in
        let count : x.held.subproblems ≡ 0 = rw test at h.subproblems in
        (λ i. record {
          n = n i;
          d = d i;
          domains = domains i;
          tables = tables i;
          held = record { agenda = agenda i; steps = steps i; checks = checks i; subproblems = count i };
        })),
  )
