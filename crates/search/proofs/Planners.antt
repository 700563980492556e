-- What the statement of a run says at the input at which five wrong planners are tried, worked out.
-- Assumes nothing.
use mathlib.Core.Path.{◌≡◌}
use mathlib.Core.List.{List, [], ◌∷◌}
use Prim.Native.Nat.{ℕ}
use lib.Count.{ones, ones_in, count_trailing_zeros}
use Rattle.problem.specs.Masks.{bit, minus, smallest_of, smaller_half_of}
use Rattle.problem.specs.Problem.{table_of}
use Rattle.problem.specs.Lists.{total, some, every, below, keep, changed}
use Rattle.splits.specs.Subproblems.{empty, all_instantiated}
use Rattle.splits.specs.Splits.{instantiate, without, cut, cut_beside, at_targets, forbids, instantiated_other, forbidden, precluded, disjunct, extract, backtracking, forward_checking, idc, halving, extraction, named, pieces}
use Rattle.splits.specs.Checks.{looked_at, others, tried, values_in, checks}
use Rattle.splits.specs.Tests.Refusals.{refused_7, refused_8, refused_9, bad, some_bad, all_same, refused_10, refusal_of}
use Rattle.search.specs.Agenda.{holding, slot_words, subproblem_of, slot_at, stack_of, stack_words, agenda_of}
use Rattle.searches.specs.Verdicts.{finished, verdict_of}
use Rattle.searches.specs.Machines.{split_top}
use Rattle.searches.specs.Steps.{checks_of_top, step}
use Rattle.searches.specs.Tests.Refusal.{refusal_of_top, refusal_of_request}
use Rattle.searches.specs.Runs.{run_from, cut_into, requests_in}
use Rattle.problem.specs.Tests.FirstChecks.{refusal_of_numbers, masks_below, symmetric, refusal_of_problem}
use Rattle.search.specs.Tests.FirstChecks.{whole_slots, refusal_of_lengths, refusal_of_requests, domain_obeys, values_agree, obeys, all_obey, zeros_from, refusal_of_search, run_refusal}
use Rattle.search.specs.Promises.{Right}
use Rattle.search.specs.Outcomes.{Ran}
use Rattle.searches.specs.declared.verdict.Verdict.TheVariants.{Running}

-- Both requests are taken: 1,2 with 0 marked is left, after 2 steps and 1 check.
pub record Says (after : List ℕ) (r : Ran) : Type 0 where
  pub verdict : r.verdict ≡ Running
  pub refusal : r.refusal ≡ 0
  pub taken : r.taken ≡ 2
  pub steps : r.state.counts.steps.0 ≡ 2
  pub checks : r.state.counts.checks.0 ≡ 1
  pub subproblems : r.state.subproblems ≡ 1
  pub agenda : after ≡ 1 ∷ 2 ∷ 0 ∷ 1 ∷ 0 ∷ 0 ∷ 0 ∷ 0 ∷ []

pub says : (after : List ℕ) (r : Ran) → Right after r → Says after r
unfolding run_refusal refusal_of_numbers refusal_of_lengths whole_slots refusal_of_requests refusal_of_problem masks_below symmetric refusal_of_search all_obey obeys
    domain_obeys values_agree zeros_from table_of stack_of subproblem_of slot_at agenda_of stack_words slot_words requests_in cut_into
    holding run_from finished refusal_of_request refusal_of_top refusal_of refused_7 refused_8 refused_9 refused_10 bad some_bad all_same
    step checks_of_top split_top pieces named keep below backtracking forward_checking idc halving extraction instantiate without cut cut_beside at_targets forbids
    instantiated_other forbidden precluded disjunct extract changed empty some every all_instantiated smallest_of smaller_half_of minus bit ones ones_in
    count_trailing_zeros
    checks looked_at others tried values_in total verdict_of
says after r h =
    record {
      verdict = h.verdict;
      refusal = h.refusal;
      taken = h.taken;
      steps = h.steps;
      checks = h.checks;
      subproblems = h.subproblems;
      agenda = h.agenda;
    }
