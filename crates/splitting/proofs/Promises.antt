-- The promises of specs/Promises.antt, proved.
-- Assumes nothing.
use mathlib.Core.Path.{◌≡◌, refl, ap, ◌∙◌}
use mathlib.Core.Bool.{cond}
use mathlib.Core.List.Memᴰ
use mathlib.Core.List.{[], ◌∷◌}
use Prim.Native.Nat.{ℕ, ◌<◌}
use native.Mathlib.Omega.{arith}
use native.Mathlib.Nat.{le_refl}
use lib.Count.{ones, ones_in}
use lib.Dec.{eqb}
use Rattle.problem.specs.Masks.{bit, ◌∈◌, minus, size, lowest}
use Rattle.problem.specs.Problem.{possibilities}
use Rattle.problem.specs.Lists.{product, total, some, keep, below, changed, sum}
use Rattle.splits.specs.Subproblems.{domain, empty}
use Rattle.splits.specs.Splits.{filled, precluded, disjunct, without, cut_beside, instantiate, extract, at_targets}
use Rattle.splitting.specs.Shortcuts.{skipping, weak, weak_disjunct, untargeted, pair_top}
use Rattle.splitting.specs.Measure.{unmarked, measure}
use Rattle.splitting.specs.Promises.{Sound, Cover, Exact, Obeys, Sizes, Apart, Falls, Peel, Solved, SkippingLoses, WeakOverlaps, OneValueLies, DroppingLoses, AtMost496}
use Rattle.splits.specs.declared.subproblem.Subproblem.{Subproblem}
use Rattle.problem.proofs.mask.Masks.{size_single}
use Rattle.splitting.proofs.Splitting.{lowest_in}
use Rattle.splitting.proofs.Consequences.{sounds, covers, exactly, apart as apart_so, keeps, sums, descends}
use Rattle.splitting.proofs.Weights.{weigh, by_size}
use Rattle.splitting.proofs.CheckLimit.{at_most_496 as limit}
use Rattle.splitting.proofs.Placed.{held, placed, placed_filled, placed_peel}
use Rattle.splitting.proofs.Shortcuts.{both_zero, in_both, pair_domains, two_idc, two_extraction, three_idc, pair_proper, pair_rules, two_solvable}

pub sound : Sound
sound p P r s = sounds (placed s) (held s)

pub cover : Cover
cover p P r s = covers (placed s)

pub exact : Exact
exact p P r s = exactly (placed s)

pub obeys : Obeys
obeys p P r s = keeps (placed s) (held s) (placed_filled s)

pub sizes : Sizes
sizes p P r s = sums (placed s)

pub apart : Apart
apart p P r s = apart_so (placed s)

pub falls : Falls
falls p P r s = descends (placed s) (held s) (placed_filled s)

pub peel : Peel
unfolding possibilities weigh
peel p P r s e = placed_peel s by_size e

pub solved : Solved
solved p P proper rules all =
    let in-P : (i : ℕ) → i < p.n → lowest (domain P i) ∈ domain P i = lowest_in (record { proper = proper; rules = rules }) in (
      (λ i. lowest (domain P i)),
      record { possible = in-P; consistent = λ i j k l d. rules.mutual_values i j _ _ k l d (all i k) (all j l) (in-P i k) (in-P j l) },
    )

pub skipping_loses : SkippingLoses
unfolding skipping filled keep below precluded disjunct without cut_beside changed instantiate empty some minus bit
skipping_loses = (two_idc, two_solvable, refl, λ h. let (Q, m, q) = h two_solvable in Memᴰ.not-nil m)

pub weak_overlaps : WeakOverlaps
unfolding weak filled weak_disjunct keep below precluded without cut_beside changed instantiate empty some minus bit ones ones_in
    sum measure unmarked possibilities product total
weak_overlaps = (
  three_idc,
  λ h.
      let same : ◌≡◌ {A = ℕ} 0 1 = h (λ i. cond (eqb i 0) 1 0) 0 1 (omega arith) (omega arith) (in_both _ refl) (in_both _ refl) in
      absurd (omega arith),
  λ h. omega (arith, h.0),
  λ h. omega arith,
)

pub one_value_lies : OneValueLies
one_value_lies =
    (pair_proper, pair_rules, λ i k. ap size (pair_domains i k) ∙ size_single 0, both_zero 2 1 (1 ∷ 1 ∷ []) pair_top (le_refl 2) refl refl)

pub dropping_loses : DroppingLoses
unfolding untargeted filled keep below extract at_targets without changed empty some minus
dropping_loses = (
  two_extraction,
  λ h.
      let (Q, m, q) = h two_solvable in
      let e : Q ≡ record { domains = 1 ∷ 1 ∷ []; marked = 1 } = Memᴰ.eq_of_singleton m in
      both_zero 2 2 (1 ∷ 3 ∷ []) Q (le_refl 2) (ap (λ (Q : Subproblem). domain Q 0) e) (ap (λ (Q : Subproblem). domain Q 1) e) q,
)

pub at_most_496 : AtMost496
at_most_496 = limit
