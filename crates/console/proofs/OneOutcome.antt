-- Two outcomes of the calls on bytes, at one input, are equal: where all slices of words are whole words, and where one is not.
-- Assumes nothing.
use mathlib.Core.Path.{◌≡◌, sym, ap, ◌∙◌}
use mathlib.Core.List.{List}
use Prim.Native.Nat.{ℕ, ◌%◌}
use native.Mathlib.Decide.{ℕ_discrete}
use lib.ListN.{length}
use Rattle.search.specs.declared.state.State.{State}
use Rattle.search.specs.Outcomes.{Opened}
use Rattle.search.specs.Outcomes.{Ran}
use Rattle.search.proofs.Promises.{open_one, run_one, choose_one}
use Rattle.files.specs.Outcomes.{Saved}
use Rattle.files.specs.Outcomes.{Loaded}
use Rattle.files.proofs.OneOutcome.{save_one, load_one}
use Rattle.word_bytes.specs.Bytes.{Whole, bytes_of}
use Rattle.console.specs.Calls.{WholeProblem, OpensBytes, RunsBytes, ChoosesBytes, SavesBytes, LoadsBytes}

-- Whether all are whole words can be told.
pub whole_or_not : (domains tables agenda : List ℕ) → Dec (WholeProblem domains tables agenda)
whole_or_not domains tables agenda = elim (ℕ_discrete (length domains % 2) 0) [
  | yes a ↦ elim (ℕ_discrete (length tables % 2) 0) [
    | yes b ↦ elim (ℕ_discrete (length agenda % 2) 0) [
      | yes c ↦ yes (record { of_domains = a; of_tables = b; of_agenda = c })
      | no f ↦ no (λ w. f w.of_agenda)
    ]
    | no f ↦ no (λ w. f w.of_tables)
  ]
  | no f ↦ no (λ w. f w.of_domains)
]

pub opens_one : (n d : ℕ) (domains tables before after after' : List ℕ) (r q : Opened) → OpensBytes n d domains tables before after r
    → OpensBytes n d domains tables before after' q → (r ≡ q) × (after ≡ after')
opens_one n d domains tables before after after' r q h k = elim (whole_or_not domains tables before) [
  | yes w ↦
      let a = h.whole w in
      let b = k.whole w in
      let one = open_one n d _ _ _ a.left b.left r q a.opens b.opens in
      (one.0, a.said ∙ ap bytes_of one.1 ∙ sym b.said)
  | no f ↦ ((h.odd f).0 ∙ sym (k.odd f).0, (h.odd f).1 ∙ sym (k.odd f).1)
]

pub runs_one : (n d : ℕ) (domains tables before after after' requests : List ℕ) (s : State) (r q : Ran)
    → RunsBytes n d domains tables before after requests s r → RunsBytes n d domains tables before after' requests s q → (r ≡ q) × (after ≡ after')
runs_one n d domains tables before after after' requests s r q h k = elim (whole_or_not domains tables before) [
  | yes w ↦ elim (ℕ_discrete (length requests % 2) 0) [
    | yes e ↦
        let a = h.whole w e in
        let b = k.whole w e in
        let one = run_one n d _ _ _ a.left b.left _ s r q a.runs b.runs in
        (one.0, a.said ∙ ap bytes_of one.1 ∙ sym b.said)
    | no f ↦
        let odd : WholeProblem domains tables before → Whole requests → ⊥ = λ v e. f e in
        ((h.odd odd).0 ∙ sym (k.odd odd).0, (h.odd odd).1 ∙ sym (k.odd odd).1)
  ]
  | no f ↦
      let odd : WholeProblem domains tables before → Whole requests → ⊥ = λ v e. f v in
      ((h.odd odd).0 ∙ sym (k.odd odd).0, (h.odd odd).1 ∙ sym (k.odd odd).1)
]

pub chooses_one : (n d : ℕ) (domains tables before after after' : List ℕ) (limit : ℕ) (s : State) (r q : Ran)
    → ChoosesBytes n d domains tables before after limit s r → ChoosesBytes n d domains tables before after' limit s q → (r ≡ q) × (after ≡ after')
chooses_one n d domains tables before after after' limit s r q h k = elim (whole_or_not domains tables before) [
  | yes w ↦
      let a = h.whole w in
      let b = k.whole w in
      let one = choose_one n d _ _ _ a.left b.left limit s r q a.chooses b.chooses in
      (one.0, a.said ∙ ap bytes_of one.1 ∙ sym b.said)
  | no f ↦ ((h.odd f).0 ∙ sym (k.odd f).0, (h.odd f).1 ∙ sym (k.odd f).1)
]

pub saves_one : (n d : ℕ) (domains tables agenda : List ℕ) (s : State) (before after after' : List ℕ) (r q : Saved)
    → SavesBytes n d domains tables agenda s before after r → SavesBytes n d domains tables agenda s before after' q → (r ≡ q) × (after ≡ after')
saves_one n d domains tables agenda s before after after' r q h k = elim (whole_or_not domains tables agenda) [
  | yes w ↦ save_one n d _ _ _ s before after after' r q (h.whole w) (k.whole w)
  | no f ↦ ((h.odd f).0 ∙ sym (k.odd f).0, (h.odd f).1 ∙ sym (k.odd f).1)
]

pub loads_one : (file domains x x' tables y y' agenda z z' : List ℕ) (r q : Loaded) → LoadsBytes file domains x tables y agenda z r
    → LoadsBytes file domains x' tables y' agenda z' q → (r ≡ q) × (x ≡ x') × (y ≡ y') × (z ≡ z')
loads_one file domains x x' tables y y' agenda z z' r q h k = elim (whole_or_not domains tables agenda) [
  | yes w ↦
      let a = h.whole w in
      let b = k.whole w in
      let (same, one, two, three) = load_one file _ a.left_domains b.left_domains _ a.left_tables b.left_tables _ a.left_agenda b.left_agenda r q a.loads b.loads in (
        same,
        a.said_domains ∙ ap bytes_of one ∙ sym b.said_domains,
        a.said_tables ∙ ap bytes_of two ∙ sym b.said_tables,
        a.said_agenda ∙ ap bytes_of three ∙ sym b.said_agenda,
      )
  | no f ↦
      let (a, b, c, e) = h.odd f in
      let (a', b', c', e') = k.odd f in
      (a ∙ sym a', b ∙ sym b', c ∙ sym c', e ∙ sym e')
]
