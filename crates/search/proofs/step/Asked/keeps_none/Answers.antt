-- `Asked::keeps_none` meets its contract.
use mathlib.Core.Path.{◌≡◌, refl, sym}
use mathlib.Core.Logic.{inl, inr}
use native.Mathlib.Omega.{arith}
use lib.ListN.{length}
use Rattle.splits.specs.Requests.{kind_of}
use Rattle.splits.specs.declared.kind.Kind.TheVariants.{Idc, Extraction}
use Rattle.splits.proofs.Numbering.{kind_is}
use Rattle.splits.proofs.split.ByKind.{few}
use Rattle.search.proofs.step.Keeping.{place_3, own_variable, keeps_none_3, keeps_none_5}
use Rattle.problem.proofs.tables.Ranges.{allowed_any}
use borrow.Author.Rules.{rules}
use Rattle.search.proofs.step.Asked.keeps_none.Goals as goal

pub returns-in-Ok-Idc : goal.returns-in-Ok-Idc
returns-in-Ok-Idc c =
    let s = c.args.self.now in
    let long : length c.args.self.now.top.domains ≡ 32 = search rules in
    let three : kind_of c.args.self.now.request.now ≡ 3 = sym (kind_is Idc c.in-Ok-Idc.ensures c.in-Ok-Idc.field-0-is) in
    let own = own_variable _ _ _ _ s.reads _ c.requires (inl three) c.if-k-eq0.false in
    let at = place_3 _ _ _ _ s.reads three _ own in
    keeps_none_3 _ _ _ _ s.reads _ long _ c.if-k-eq0.false own
    _ _ _ c.outside.ensures c.domain-domain.ensures
    (λ e. allowed_any _ _ _ _ _ _ _ at.0 at.1.first at.1.second e c.allowed-beside.ensures) three

pub overflow_add-j : goal.overflow_add-j
overflow_add-j c =
    let s = c.args.self.now in
    let five : kind_of c.args.self.now.request.now ≡ 5 = sym (kind_is Extraction c.in-Ok-Extraction.ensures c.in-Ok-Extraction.field-0-is) in
    omega (arith, own_variable _ _ _ _ s.reads _ c.requires (inr five) c.if-k-eq0.false, few _ _ _ _ s.reads)

pub offset_bounds-request-j : goal.offset_bounds-request-j
offset_bounds-request-j c =
    let s = c.args.self.now in
    let five : kind_of c.args.self.now.request.now ≡ 5 = sym (kind_is Extraction c.in-Ok-Extraction.ensures c.in-Ok-Extraction.field-0-is) in
    omega (arith, own_variable _ _ _ _ s.reads _ c.requires (inr five) c.if-k-eq0.false, few _ _ _ _ s.reads)

pub bounds-request-j : goal.bounds-request-j
bounds-request-j c =
    let s = c.args.self.now in
    let five : kind_of c.args.self.now.request.now ≡ 5 = sym (kind_is Extraction c.in-Ok-Extraction.ensures c.in-Ok-Extraction.field-0-is) in
    omega (arith, own_variable _ _ _ _ s.reads _ c.requires (inr five) c.if-k-eq0.false, s.whole)

pub returns-in-Ok-Extraction : goal.returns-in-Ok-Extraction
returns-in-Ok-Extraction c =
    let s = c.args.self.now in
    let long : length c.args.self.now.top.domains ≡ 32 = search rules in
    let five : kind_of c.args.self.now.request.now ≡ 5 = sym (kind_is Extraction c.in-Ok-Extraction.ensures c.in-Ok-Extraction.field-0-is) in
    keeps_none_5 _ _ _ _ s.reads _ long _ c.if-k-eq0.false (own_variable _ _ _ _ s.reads _ c.requires (inr five) c.if-k-eq0.false)
    _ _ _ c.outside-in-Ok-Extraction.ensures c.domain-domain.ensures refl five
