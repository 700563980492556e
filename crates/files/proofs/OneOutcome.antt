-- Two outcomes that satisfy one statement at one input are equal.
-- Assumes nothing.
use mathlib.Core.Path.{◌≡◌, sym, ◌∙◌}
use mathlib.Core.List.{List}
use Prim.Native.Nat.{ℕ}
use Rattle.search.specs.declared.state.State.{State}
use Rattle.files.specs.Calls.{HeaderOf, Saves, Loads}
use Rattle.files.specs.declared.saved.Header.{Header}
use Rattle.files.specs.Outcomes.{Saved}
use Rattle.files.specs.Outcomes.{Loaded}

-- What the first words of a file say.
pub header_one : (file : List ℕ) (r s : Header) → HeaderOf file r → HeaderOf file s → r ≡ s
header_one file r s h k =
    let n : r.n ≡ s.n = h.its_n ∙ sym k.its_n in
    let d : r.d ≡ s.d = h.its_d ∙ sym k.its_d in
    let steps : r.state.counts.steps.0 ≡ s.state.counts.steps.0 = h.steps ∙ sym k.steps in
    let checks : r.state.counts.checks.0 ≡ s.state.counts.checks.0 = h.checks ∙ sym k.checks in
    let subproblems : r.state.subproblems ≡ s.state.subproblems = h.subproblems ∙ sym k.subproblems in
    λ i. record {
      n = n i;
      d = d i;
      state = record { counts = record { steps = record { 0 = steps i }; checks = record { 0 = checks i } }; subproblems = subproblems i };
    }

-- Save.
module _ (n d : ℕ) (domains tables agenda : List ℕ) (s : State) (before after after' : List ℕ) (r r' : Saved)
    (h : Saves n d domains tables agenda s before after r) (k : Saves n d domains tables agenda s before after' r') where
  -- Results and buffers are equal.
  pub save_one : (r ≡ r') × (after ≡ after')
  save_one =
      let refusal : r.refusal ≡ r'.refusal = h.refusal ∙ sym k.refusal in
      let blocks : r.blocks ≡ r'.blocks = h.blocks ∙ sym k.blocks in
      (λ i. record { refusal = refusal i; blocks = blocks i }, h.file ∙ sym k.file)

-- Load.
module _ (file domains a a' tables b b' agenda c c' : List ℕ) (r r' : Loaded) (h : Loads file domains a tables b agenda c r)
    (k : Loads file domains a' tables b' agenda c' r') where
  -- Results and buffers are equal.
  pub load_one : (r ≡ r') × (a ≡ a') × (b ≡ b') × (c ≡ c')
  load_one =
      let refusal : r.refusal ≡ r'.refusal = h.refusal ∙ sym k.refusal in
      let n : r.n ≡ r'.n = h.its_n ∙ sym k.its_n in
      let d : r.d ≡ r'.d = h.its_d ∙ sym k.its_d in
      let steps : r.state.counts.steps.0 ≡ r'.state.counts.steps.0 = h.steps ∙ sym k.steps in
      let checks : r.state.counts.checks.0 ≡ r'.state.counts.checks.0 = h.checks ∙ sym k.checks in
      let subproblems : r.state.subproblems ≡ r'.state.subproblems = h.subproblems ∙ sym k.subproblems in (
        λ i. record {
          refusal = refusal i;
          n = n i;
          d = d i;
          state = record { counts = record { steps = record { 0 = steps i }; checks = record { 0 = checks i } }; subproblems = subproblems i };
        },
        h.its_domains ∙ sym k.its_domains,
        h.its_tables ∙ sym k.its_tables,
        h.its_agenda ∙ sym k.its_agenda,
      )
