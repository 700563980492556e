-- `load_content` meets its contract: refused, nothing is changed; else the search is written.
use mathlib.Core.Path.{refl}
use Rattle.problem.proofs.Refused.{never_0, handed_err}
use Rattle.files.proofs.LoadOutcomes.{refuses, accepts, load_refused, made_all, made_count, made_fits, load_lent, load_accepted}
use Rattle.files.proofs.load_content.Goals as goal

pub slice_bounds-room-end : goal.slice_bounds-room-end
slice_bounds-room-end c =
    made_fits _ _ _ _ _ _ c.args.content.now.read c.zeros-room.ensures c.put_tables-count.ensures.0
    c.put_tables-count.ensures.1

pub slice_bounds-masks-end : goal.slice_bounds-masks-end
slice_bounds-masks-end c =
    made_count _ _ _ _ _ _ c.args.content.now.read c.zeros-room.ensures c.put_tables-count.ensures.0
    c.put_tables-count.ensures.1

pub refusal-requires : goal.refusal-requires
refusal-requires c =
    made_all _ _ _ _ _ _ c.args.content.now.read c.zeros-room.ensures c.put_tables-count.ensures.0
    c.put_tables-count.ensures.1

pub returns-in_err-refusal : goal.returns-in_err-refusal
returns-in_err-refusal c =
    rw (handed_err _ _ c.from_residual.ensures.1) (load_refused _ _ _ _ _ c.in_err-refusal.ensures (never_0 _) _ (refuses _))

pub put_search-requires : goal.put_search-requires
put_search-requires c =
    let tabled = made_all _ _ _ _ _ _ c.args.content.now.read c.zeros-room.ensures c.put_tables-count.ensures.0
    c.put_tables-count.ensures.1 in
    load_lent _ _ _ _ _ c.in_ok-refusal.ensures refl _ _ _ c.args.content.now.read tabled

pub shape_of-domains : goal.shape_of-domains
shape_of-domains c = c.put_search.auto.domains

pub shape_of-tables : goal.shape_of-tables
shape_of-tables c = c.put_search.auto.tables

pub shape_of-agenda : goal.shape_of-agenda
shape_of-agenda c = c.put_search.auto.agenda

pub returns : goal.returns
returns c =
    let put = c in
    let tabled = made_all _ _ _ _ _ _ c.args.content.now.read c.zeros-room.ensures c.put_tables-count.ensures.0
    c.put_tables-count.ensures.1 in
    load_accepted _ _ _ _ _ c.in_ok-refusal.ensures refl _ _ _ c.args.content.now.read tabled _ _ _ _
    (accepts _) put.put_search.ensures.0 put.put_search.ensures.1.0 put.put_search.ensures.1.1
