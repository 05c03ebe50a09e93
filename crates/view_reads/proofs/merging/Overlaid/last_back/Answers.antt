use Rattle.std.proofs.Common.{sym, ◌∙◌, true}
use Rattle.std.specs.Option.{option_map}
use Rattle.view_reads.specs.Recording.{pair_now}
use Rattle.view_reads.proofs.Merges.{kept_first, put_first}
use Rattle.view_reads.proofs.Walks.{top_kept, top_late}
use Rattle.view_reads.proofs.merging.Overlaid.last_back.Goals as goal

pub returns-then-is_met_before-clause-value : goal.returns-then-is_met_before-clause-value
returns-then-is_met_before-clause-value g c =
    let cells = g.V.View.cells c.args.self.now.view in
    let put = option_map pair_now c.met_put-put.result in
    kept_first true cells c.args.self.now.writes c.args.span put (c.in-Some.key.now, c.in-Some.cell.now) c.met_put-put.ensures
    (top_kept cells c.args.self.now.writes c.args.span put (c.in-Some.key.now, c.in-Some.cell.now) c.in-Some.ensures.value (sym c.is_met_before.ensures ∙ c.if-is_met_before.true))

pub returns-else-is_met_before-clause-value : goal.returns-else-is_met_before-clause-value
returns-else-is_met_before-clause-value g c =
    let cells = g.V.View.cells c.args.self.now.view in
    let put = option_map pair_now c.met_put-put.result in
    put_first true cells c.args.self.now.writes c.args.span put c.met_put-put.ensures
    (top_late cells c.args.self.now.writes c.args.span put (c.in-Some.key.now, c.in-Some.cell.now) c.in-Some.ensures.value (sym c.is_met_before.ensures ∙ c.if-is_met_before.false))
