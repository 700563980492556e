-- The three demands, proved.
-- Assumes nothing.
use mathlib.Core.Path.{◌≡◌, sym, ◌∙◌}
use mathlib.Core.List.{List}
use Prim.Native.Nat.{ℕ}
use Rattle.searches.specs.Promises.{HasSolution}
use Rattle.files.proofs.Promises.{unsolvable_run, unsolvable_choose, lived_solvable, lived_steps}
use Rattle.console.specs.Searches.{Outcome, Way, by_requests, by_chooser, Lent, state_in}
use Rattle.demands.specs.Promises.{rattle, problem, EveryInputNumbered, AnswersHold, CutsEndAlike}
use Rattle.demands.proofs.Calling.{passed}
use Rattle.demands.proofs.Saying.{said}
use Rattle.demands.proofs.Refusing.{opening_so, saving_so, loading_so}
use Rattle.demands.proofs.Cutting.{journey_ends}
use Rattle.demands.proofs.ForC

no_plan_so : (m : Lent) (way : Way) (o : Outcome) → rattle.GoingOn m way o → (opened : List ℕ) → rattle.Begun opened m → o.verdict ≡ 3
    → HasSolution (problem rattle m opened) → ⊥
no_plan_so m (by_requests l) o g opened life e =
    unsolvable_run m.n m.d m.domains opened m.tables m.held.agenda o.held.agenda l (state_in m.held) g.0 life g.2
    (sym g.1.its_verdict ∙ e)
no_plan_so m (by_chooser k) o g opened life e =
    unsolvable_choose m.n m.d m.domains opened m.tables m.held.agenda o.held.agenda k (state_in m.held) g.0 life g.2
    (sym g.1.its_verdict ∙ e)

pub every_input_numbered : EveryInputNumbered
every_input_numbered = (
  record {
    opening = opening_so;
    saving = λ m file after blocks k h. saving_so m file after blocks k h;
    loading = λ file m x k h. loading_so file m x k h;
    going_on = λ m way o g. (said m way o g).0;
  },
  ForC.demand_1,
)

pub answers_hold : AnswersHold
answers_hold = (record { going_on = λ m way o g. (said m way o g).1; no_plan = no_plan_so }, ForC.demand_2)

pub cuts_end_alike : CutsEndAlike
cuts_end_alike = (
  record {
    cuts = λ m way whole g some refused taken end j. journey_ends m way refused taken whole end g (passed m way whole g some) j;
    solvable = λ opened m life. lived_solvable m.n m.d m.domains opened m.tables m.held.agenda (state_in m.held) life;
    limit = λ opened m life. (lived_steps m.n m.d m.domains opened m.tables m.held.agenda (state_in m.held) life).2;
  },
  ForC.demand_3,
)
