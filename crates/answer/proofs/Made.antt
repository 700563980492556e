-- A text made of its lines: it has room in the buffer, so the buffer holds it.
-- Assumes nothing.
use native.Mathlib.Omega.{arith}
use mathlib.Core.Path.{◌≡◌}
use mathlib.Core.List.{List, [], ◌++◌}
use Prim.Native.Nat.{ℕ, ◌≤◌}
use lib.ListN.{length}
use borrow.Author.Tests.{eq-eqb, ne_eqb}
use Rattle.search.specs.Agenda.{stack_of}
use Rattle.searches.specs.declared.verdict.Verdict.{Verdict}
use Rattle.search.specs.Outcomes.{Ran}
use Rattle.answer.specs.Text.{verdict_line, counts_line, plan_lines, refused_line, whole_text, text_from}
use Rattle.answer.specs.Loops.Writing.{Holds, Adds}
use Rattle.answer.specs.declared.text.Text.{Text}
use Rattle.answer.proofs.Writing.{adds_both}
use Rattle.answer.proofs.Short.{both_short, verdict_short}

-- Lines 1 and 2 and what comes after them.
pub text_made : (t₀ t₁ t₂ r : Text) (v : Verdict) (steps checks : ℕ) (last : List ℕ) → Holds t₀ [] → Adds t₀ (verdict_line v) t₁
    → Adds t₁ (counts_line steps checks) t₂ × (length (counts_line steps checks) ≤ 55) → Adds t₂ last r → length last ≤ 400
    → Holds r (verdict_line v ++ counts_line steps checks ++ last)
text_made t₀ t₁ t₂ r v steps checks last start first second third l =
    let room = both_short (verdict_line v ++ counts_line steps checks) last 66 400
    (both_short (verdict_line v) (counts_line steps checks) 11 55 (verdict_short v) second.1) l in
    adds_both t₀ t₂ r (verdict_line v ++ counts_line steps checks) last
    (adds_both t₀ t₁ t₂ (verdict_line v) (counts_line steps checks) first second.0) third [] start (omega (arith, room))

-- A text of one line.
pub line_made : (t₀ r : Text) (line : List ℕ) → Holds t₀ [] → Adds t₀ line r → length line ≤ 400 → Holds r line
line_made t₀ r line start added h = added [] start (omega (arith, h))

-- The text of what a run returns: refused; not refused, with the plan's lines.
pub from_refused : (n : ℕ) (agenda : List ℕ) (ran : Ran) (r : Text) → (ran.refusal ≡ 0 → ⊥)
    → Holds r (verdict_line ran.verdict ++ counts_line ran.state.counts.steps.0 ran.state.counts.checks.0 ++ refused_line ran.refusal)
    → Holds r (text_from n agenda ran)
unfolding text_from whole_text
from_refused n agenda ran r h holds = rw (ne_eqb ran.refusal 0 h) holds

pub from_lines : (n : ℕ) (agenda : List ℕ) (ran : Ran) (r : Text) (lines : List ℕ) → ran.refusal ≡ 0
    → plan_lines n (stack_of n agenda ran.state.subproblems) ≡ lines
    → Holds r (verdict_line ran.verdict ++ counts_line ran.state.counts.steps.0 ran.state.counts.checks.0 ++ lines)
    → Holds r (text_from n agenda ran)
unfolding text_from whole_text
from_lines n agenda ran r lines e is holds = rw (eq-eqb ran.refusal 0 e, is) holds
