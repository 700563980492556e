-- Searches begun by opening through the calls for C, in words.
-- Assumes nothing.
use mathlib.Core.Path.{◌≡◌, refl, sym, ap, subst, ◌∙◌}
use mathlib.Core.Logic.{⊎_elim}
use mathlib.Core.List.{List}
use Prim.Native.Nat.{ℕ, ◌*◌}
use lib.ListN.{take}
use Rattle.search.specs.Calls.{Opens}
use Rattle.search.specs.declared.state.State.{State}
use Rattle.search.specs.Outcomes.{Opened}
use Rattle.files.specs.Promises as files
use Rattle.files.specs.Outcomes.{Loaded}
use Rattle.files.specs.Calls.{Loads}
use Rattle.word_bytes.specs.Bytes.{words_of}
use Rattle.word_bytes.proofs.Words.{words_again, said_whole}
use Rattle.console.specs.Calls.{state_of, WholeProblem, OpensForC, SavesForC, LoadsForC}
use Rattle.console.specs.Searches.{Held, Outcome, Way, by_requests, by_chooser, GoesOn, LivedForC, opened, went_on, loaded, moved}
use Rattle.console.proofs.numbers.Unfit.{unwhole_not, unwhole_file_not}
use Rattle.console.proofs.OneOutcome.{whole_or_not}
use Rattle.console.proofs.Going.{state_in, first_of, stopped_of, went, whole_or_odd}

-- The state that a call handed out.
pub state_out : {steps checks subproblems : ℕ} (s : State) → steps ≡ s.counts.steps.0 → checks ≡ s.counts.checks.0 → subproblems ≡ s.subproblems
    → s ≡ state_of steps checks subproblems
state_out s a b c =
    λ i. record { counts = record { steps = record { 0 = sym a i }; checks = record { 0 = sym b i } }; subproblems = sym c i }

module _ (n d : ℕ) (domains opened-tables : List ℕ) where
  -- A search in words, its slices whole words.
  abbrev pub InWords : List ℕ → Held → Type 0
  InWords tables s =
      WholeProblem domains tables s.agenda
      × files.Lived n d (words_of domains) (words_of opened-tables) (words_of tables) (words_of s.agenda) (state_in s)

  opened_so : (before : List ℕ) (s : Held) → OpensForC n d domains opened-tables before s.agenda s.steps s.checks s.subproblems 0
      → InWords opened-tables s
  opened_so before s h = elim (whole_or_not domains opened-tables before) [
    | yes w ↦
        let x = h.opens.whole w in
        let again : words_of s.agenda ≡ x.left = ap words_of x.said ∙ words_again x.left in
        let opens : Opens n d (words_of domains) (words_of opened-tables) (words_of before) (words_of s.agenda) h.outcome = rw again x.opens in (
          record { of_domains = w.of_domains; of_tables = w.of_tables; of_agenda = said_whole _ x.said },
          subst (files.Lived n d (words_of domains) (words_of opened-tables) (words_of opened-tables) (words_of s.agenda))
              (state_out h.outcome.state h.its_steps h.its_checks h.its_subproblems)
              (files.opened opens (sym h.its_refusal)),
        )
    | no f ↦ absurd (unwhole_not n d (sym (h.its_refusal ∙ ap (λ (r : Opened). r.refusal) (h.opens.odd f).0)))
  ]

  went_so : (tables : List ℕ) (s : Held) (way : Way) (o : Outcome) → InWords tables s → GoesOn n d domains tables s way o → InWords tables o.held
  unfolding first_of stopped_of
  went_so tables s (by_requests requests) o (w, l) h =
      ⊎_elim
      (λ v.
      let x = went n d domains tables s (by_requests requests) o v.0 v.1 h in (
        record { of_domains = w.of_domains; of_tables = w.of_tables; of_agenda = said_whole _ x.said },
        subst (files.Lived n d (words_of domains) (words_of opened-tables) (words_of tables) (words_of o.held.agenda))
            (state_out x.ran.state x.out.its_steps x.out.its_checks x.out.its_subproblems)
            (files.ran l (words_of requests) x.ends),
      ))
      (λ e. subst (InWords tables) (sym (ap (λ (y : Outcome). y.held) e)) (w, l)) (whole_or_odd n d domains tables s (by_requests requests) o h)
  went_so tables s (by_chooser limit) o (w, l) h =
      ⊎_elim
      (λ v.
      let x = went n d domains tables s (by_chooser limit) o v.0 v.1 h in (
        record { of_domains = w.of_domains; of_tables = w.of_tables; of_agenda = said_whole _ x.said },
        subst (files.Lived n d (words_of domains) (words_of opened-tables) (words_of tables) (words_of o.held.agenda))
            (state_out x.ran.state x.out.its_steps x.out.its_checks x.out.its_subproblems)
            (files.chose l limit x.ends),
      ))
      (λ e. subst (InWords tables) (sym (ap (λ (y : Outcome). y.held) e)) (w, l)) (whole_or_odd n d domains tables s (by_chooser limit) o h)

  loaded_so : (tables before after domains₀ domains' tables₀ tables' agenda₀ : List ℕ) (s l : Held) (blocks n' d' : ℕ) → InWords tables s
      → SavesForC n d domains tables s.agenda s.steps s.checks s.subproblems before after blocks 0
      → LoadsForC (take (512 * blocks) after) domains₀ domains' tables₀ tables' agenda₀ l.agenda n' d' l.steps l.checks l.subproblems 0
      → InWords tables' l
  loaded_so tables before after domains₀ domains' tables₀ tables' agenda₀ s l blocks n' d' (w, lived) saves loads =
      elim (whole_or_not domains₀ tables₀ agenda₀) [
        | yes v ↦
            let x = loads.loads.whole v in
            let a : words_of domains' ≡ x.left_domains = ap words_of x.said_domains ∙ words_again x.left_domains in
            let b : words_of tables' ≡ x.left_tables = ap words_of x.said_tables ∙ words_again x.left_tables in
            let c : words_of l.agenda ≡ x.left_agenda = ap words_of x.said_agenda ∙ words_again x.left_agenda in
            let back : Loads (take (512 * saves.outcome.blocks) after) (words_of domains₀) (words_of domains') (words_of tables₀) (words_of tables')
            (words_of agenda₀) (words_of l.agenda) loads.outcome =
            subst (λ (k : ℕ). Loads (take (512 * k) after) (words_of domains₀) (words_of domains') (words_of tables₀) (words_of tables') (words_of agenda₀) (words_of l.agenda) loads.outcome)
            saves.its_blocks (rw (a, b, c) x.loads) in (
              record { of_domains = w.of_domains; of_tables = said_whole _ x.said_tables; of_agenda = said_whole _ x.said_agenda },
              subst (files.Lived n d (words_of domains) (words_of opened-tables) (words_of tables') (words_of l.agenda))
                  (state_out loads.outcome.state loads.its_steps loads.its_checks loads.its_subproblems)
                  (files.loaded lived (saves.saves.whole w) (sym saves.its_refusal) back (sym loads.its_refusal)),
            )
        | no f ↦
            absurd (unwhole_file_not (take (512 * blocks) after) (sym (loads.its_refusal ∙ ap (λ (r : Loaded). r.refusal) (loads.loads.odd f).0)))
      ]

  pub lived_so : (tables : List ℕ) (s : Held) → LivedForC n d domains opened-tables tables s → InWords tables s
  lived_so tables s (opened {before} h) = opened_so before s h
  lived_so tables s (went_on {s = s'} l way o h) = went_so tables s' way o (lived_so tables s' l) h
  lived_so tables s (loaded {tables = t} {before = b} {after = a} {domains₀ = u} {domains' = v} {tables₀ = w} {agenda₀ = x} {s = s'} {blocks = k} {n' = n'} {d' = d'} l saves loads) =
      loaded_so t b a u v w tables x s' s k n' d' (lived_so t s' l) saves loads
  lived_so tables s (moved {s = s'} l words whole few) =
      let (w, lived) = lived_so tables s' l in (
        record { of_domains = w.of_domains; of_tables = w.of_tables; of_agenda = said_whole _ refl },
        subst (λ (x : List ℕ). files.Lived n d (words_of domains) (words_of opened-tables) (words_of tables) x (state_in s))
            (sym (words_again _)) (files.moved lived words whole few),
      )
