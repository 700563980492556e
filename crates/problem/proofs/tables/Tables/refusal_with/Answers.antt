-- `Tables::refusal_with` meets its contract: the domains, the tables, then the symmetry.
use mathlib.Core.Bool.{not}
use mathlib.Core.Path.{sym, ◌∙◌, ap}
use borrow.Author.Tests.{not-false}
use Rattle.problem.proofs.first_checks.Joining.{domains_found}
use Rattle.problem.proofs.first_checks.Parts.{problem_domains, problem_tables, problem_last}
use Rattle.problem.proofs.tables.Tables.refusal_with.Goals as goal

pub returns-then-not-is_below : goal.returns-then-not-is_below
returns-then-not-is_below c =
    problem_domains _ _ c.args.domains.now c.args.self.now.words.now
    _
    (domains_found _ _ c.args.domains.now _ _ c.requires
    c.bits_of.ensures c.is_below.ensures)
    (ap not c.if-not-is_below.true)

pub returns-then-not-are_below : goal.returns-then-not-are_below
returns-then-not-are_below c =
    problem_tables _ _ c.args.domains.now _ _ c.are_below.ensures
    (ap not c.if-not-are_below.true)

pub invariant_of-both_ways : goal.invariant_of-both_ways
invariant_of-both_ways c =
    let all = c.are_below in
    record { below = sym all.ensures ∙ not-false all.result (ap not c.if-not-are_below.false) }

pub returns-then-both_ways : goal.returns-then-both_ways
returns-then-both_ways c =
    rw c.if-both_ways.true at
    (problem_last _ _ c.args.domains.now
    c.args.self.now.words.now _ _ _
    (domains_found _ _ c.args.domains.now _ _
    c.requires
    c.bits_of.ensures c.is_below.ensures)
    (ap not c.if-not-is_below.false) c.are_below.ensures (ap not c.if-not-are_below.false)
    c.both_ways.ensures)

pub returns : goal.returns
returns c =
    rw c.if-both_ways.false at
    (problem_last _ _ c.args.domains.now
    c.args.self.now.words.now _ _ _
    (domains_found _ _ c.args.domains.now _ _
    c.requires
    c.bits_of.ensures c.is_below.ensures)
    (ap not c.if-not-is_below.false) c.are_below.ensures (ap not c.if-not-are_below.false)
    c.both_ways.ensures)
