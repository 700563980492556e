-- `Tables::row_at` meets its contract. The invariant: the first j masks are made.
use Rattle.problem.specs.Loops.Tables.{allowed}
use Rattle.problem.proofs.beside.Rows.{Begun}
use Rattle.problem.proofs.tables.Tables.row_at.Given as goal

abbrev pub invariant-loop-j : goal.invariant-loop-j
invariant-loop-j l = Begun (allowed l.self) l.variable l.value l.j l.row
