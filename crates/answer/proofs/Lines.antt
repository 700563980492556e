-- The lines of a plan: those of the top slot's words are those of the top subproblem, and there are none unless it is solved.
-- Assumes nothing.
use native.Mathlib.Omega.{arith}
use mathlib.Core.Path.{◌≡◌, refl, sym, ap, subst, ◌∙◌}
use mathlib.Core.Bool.{true, false}
use mathlib.Core.List.{List, [], ◌++◌}
use Prim.Native.Nat.{ℕ, zero, suc, ◌+◌, ◌-◌, ◌*◌, ◌≤◌, ◌<◌}
use lib.ListN.{length, get_or, take, drop, replicate, length-drop, get_or-append}
use lib.Dec.{eqb}
use borrow.Author.Tests.{eqb-true}
use lib.Seq.{get_or-take, length-take-le}
use Rattle.problem.specs.Masks.{lowest}
use Rattle.splits.specs.Subproblems.{domain}
use Rattle.problem.specs.Lists.{below}
use Rattle.search.specs.Agenda.{holding, subproblem_of, slot_at, stack_of}
use Rattle.searches.specs.Verdicts.{number_of, verdict_of}
use Rattle.searches.specs.declared.verdict.Verdict.{Verdict}
use Rattle.blocks.specs.Lists.{each}
use Rattle.blocks.proofs.Lists.{each_more, each_none, each_same}
use Rattle.answer.specs.Text.{plan_line, plan_of, plan_lines}
use Rattle.answer.specs.Loops.Writing.{value_lines}

-- The lines of masks, as lines of numbers.
lines_each : (n : ℕ) (masks : List ℕ) → value_lines n masks ≡ each (λ i. plan_line i (lowest (get_or masks i 0))) (below n)
unfolding value_lines
lines_each zero masks = sym (each_none (λ i. plan_line i (lowest (get_or masks i 0))))
lines_each (suc n) masks =
    ap (λ l. l ++ plan_line n (lowest (get_or masks n 0))) (lines_each n masks) ∙ sym (each_more (λ i. plan_line i (lowest (get_or masks i 0))) n)

-- A domain of the subproblem that a slot's words hold.
slot_domain : (n : ℕ) (words : List ℕ) (i : ℕ) → n ≤ length words → i < n → domain (subproblem_of n words) i ≡ get_or words i 0
unfolding subproblem_of holding
slot_domain n words i long h =
    let full : length (take n words) ≡ n = length-take-le n words long in
    get_or-append (take n words) (replicate (32 - n) 0) 0 i (omega (arith, full, h)) ∙ get_or-take n words i 0 h

-- The lines of the top slot's masks are those of the top.
pub top_lines : (n k : ℕ) (agenda masks : List ℕ) → masks ≡ take ((k * (n + 2) + n) - k * (n + 2)) (drop (k * (n + 2)) agenda)
    → k * (n + 2) + (n + 2) ≤ length agenda
    → value_lines (length masks) masks ≡ plan_of n (λ i. lowest (domain (subproblem_of n (slot_at n agenda k)) i))
unfolding slot_at
top_lines n k agenda masks made within =
    let is : masks ≡ take n (drop (k * (n + 2)) agenda) =
    made ∙ ap (λ w. take w (drop (k * (n + 2)) agenda)) (let e : (k * (n + 2) + n) - k * (n + 2) ≡ n = omega arith in e) in
    let rest : length (drop (k * (n + 2)) agenda) ≡ length agenda - k * (n + 2) = length-drop (k * (n + 2)) agenda in
    let long : length masks ≡ n = ap length is ∙ length-take-le n (drop (k * (n + 2)) agenda) (omega (arith, rest, within)) in
    let slot : length (take (n + 2) (drop (k * (n + 2)) agenda)) ≡ n + 2 = length-take-le (n + 2) (drop (k * (n + 2)) agenda)
    (omega (arith, rest, within)) in
    ap (λ m. value_lines m masks) long ∙ lines_each n masks
    ∙ each_same (λ i. plan_line i (lowest (get_or masks i 0))) (λ i. plan_line i (lowest (domain (subproblem_of n (slot_at n agenda k)) i))) n
    (λ i h. ap (λ m. plan_line i (lowest m))
    (ap (λ l. get_or l i 0) is ∙ get_or-take n (drop (k * (n + 2)) agenda) i 0 h
    ∙ sym (get_or-take (n + 2) (drop (k * (n + 2)) agenda) i 0 (omega (arith, h)))
    ∙ sym (slot_domain n (take (n + 2) (drop (k * (n + 2)) agenda)) i (omega (arith, slot)) h)))

-- Solved: there is a top, and the plan's lines are its.
pub solved_lines : (n : ℕ) (agenda : List ℕ) (m : ℕ) (v : Verdict) → v ≡ verdict_of n (stack_of n agenda m) → true ≡ eqb (number_of v) 2
    → (1 ≤ m) × (plan_lines n (stack_of n agenda m) ≡ plan_of n (λ i. lowest (domain (subproblem_of n (slot_at n agenda (m - 1))) i)))
unfolding stack_of verdict_of plan_lines
solved_lines n agenda zero v e h = absurd (omega (arith, eqb-true (number_of v) 2 (sym h), ap number_of e))
solved_lines n agenda (suc k) v e h = let same : k ≡ suc k - 1 = omega arith in (omega arith, rw (← e, ← h, ← same) refl)

-- Not solved: no line.
pub other_lines : (n : ℕ) (agenda : List ℕ) (m : ℕ) (v : Verdict) → v ≡ verdict_of n (stack_of n agenda m) → false ≡ eqb (number_of v) 2
    → plan_lines n (stack_of n agenda m) ≡ []
unfolding stack_of verdict_of plan_lines
other_lines n agenda zero v e h = refl
other_lines n agenda (suc k) v e h = rw (← e, ← h) refl

-- Where the top slot lies.
pub top_within : (n m words : ℕ) → 1 ≤ m → m * (n + 2) ≤ words → (m - 1) * (n + 2) + (n + 2) ≤ words
top_within n zero words h l = absurd (omega (arith, h))
top_within n (suc k) words h l =
    let e : suc k - 1 ≡ k = omega arith in subst (λ j. j * (n + 2) + (n + 2) ≤ words) (sym e) (omega (arith, l))
