-- The marked cases, worked out one after another down their list, hold of each member.
-- Assumes nothing.
use mathlib.Core.Path.{refl}
use mathlib.Core.List.{List, Memᴰ, [], ◌∷◌}
use lib.Count.{ones, ones_in, count_trailing_zeros}
use Rattle.problem.specs.Masks.{bit, minus, smallest_of, smaller_half_of}
use Rattle.problem.specs.Problem.{possibilities}
use Rattle.problem.specs.Lists.{product, total, some, every, below, keep, changed}
use Rattle.splits.specs.Subproblems.{empty, all_instantiated}
use Rattle.splits.specs.Splits.{instantiate, without, cut, cut_beside, at_targets, forbids, instantiated_other, forbidden, precluded, disjunct, extract, backtracking, forward_checking, idc, halving, extraction, named, pieces}
use Rattle.splits.specs.Checks.{looked_at, others, tried, values_in, checks}
use Rattle.splits.specs.Tests.Refusals.{refused_7, refused_8, refused_9, bad, some_bad, all_same, refused_10, refusal_of}
use Rattle.problem.proofs.Lists.{each_more, each_none}
use Rattle.search.specs.Agenda.{holding}
use Rattle.searches.specs.Verdicts.{finished, verdict_of}
use Rattle.searches.specs.Machines.{split_top}
use Rattle.searches.specs.Steps.{checks_of_top, step}
use Rattle.searches.specs.Tests.Refusal.{refusal_of_top, refusal_of_request}
use Rattle.searches.specs.Runs.{run_from}
use Rattle.search.specs.Calls.{opening}
use Rattle.search.specs.Cases.{cases, joins}
use Rattle.search.specs.Promises.{EndsSo}

abbrev pub All : {A : Type 0} → (A → Type 0) → List A → Type 0
All C [] = Unit {0}
All C (x ∷ l) = C x × All C l

pub each : {A : Type 0} (C : A → Type 0) (l : List A) → All C l → (x : A) → Memᴰ x l → C x
each C [] h = each_none C
each C (y ∷ l) h = each_more C y l h.0 (each C l h.1)

-- Each case by computation.
pub computed : All EndsSo cases
unfolding cases joins opening holding run_from finished refusal_of_request refusal_of_top refusal_of refused_7 refused_8 refused_9 refused_10 bad some_bad
    all_same step checks_of_top split_top pieces named keep below backtracking forward_checking idc halving extraction instantiate without cut cut_beside at_targets
    forbids
    instantiated_other forbidden precluded disjunct extract changed empty some every all_instantiated smallest_of smaller_half_of minus bit ones ones_in
    count_trailing_zeros checks looked_at others tried values_in total possibilities product verdict_of
computed = (
  record { stops = refl; verdict = refl; sizes = refl },
  (
    record { stops = refl; verdict = refl; sizes = refl },
    (
      record { stops = refl; verdict = refl; sizes = refl },
      (
        record { stops = refl; verdict = refl; sizes = refl },
        (
          record { stops = refl; verdict = refl; sizes = refl },
          (
            record { stops = refl; verdict = refl; sizes = refl },
            (
              record { stops = refl; verdict = refl; sizes = refl },
              (
                record { stops = refl; verdict = refl; sizes = refl },
                (
                  record { stops = refl; verdict = refl; sizes = refl },
                  (
                    record { stops = refl; verdict = refl; sizes = refl },
                    (
                      record { stops = refl; verdict = refl; sizes = refl },
                      tt,
                    ),
                  ),
                ),
              ),
            ),
          ),
        ),
      ),
    ),
  ),
)
