use Rattle.std.specs.Option.{option_map}
use Rattle.world_cells.specs.declared.spans.Span.TheVariants as span
use Rattle.view_reads.specs.Recording.{pair_now}
use Rattle.page_select.specs.Ranges.{row_in}
use Rattle.page_select.proofs.Firsts.{last_looks}
use Rattle.page_select.proofs.Lasts.{last_sees, copy_ends}
use Rattle.page_select.proofs.ReadParts.{last_stays}
use Rattle.page_select.proofs.looks.last_row.Goals as goal

pub returns-clause-sees : goal.returns-clause-sees
returns-clause-sees g c = λ schema w now behind leads.
    copy_ends now c.args.kind c.args.low.now c.args.high.now c.copied_row.result (row_in (option_map pair_now c.in_ok-found.found)) c.copied_row.ensures
    (last_sees g.V.View.cells schema c.args.recorder.now c.args.kind c.args.low.now c.args.high.now c.last_in.result c.in_ok-found.found c.last_in.follows.lender-at-none c.in_ok-found.was c.last_in.follows.holds-at-none w now behind leads)

pub returns-clause-reach : goal.returns-clause-reach
returns-clause-reach g c = λ schema.
    last_stays g.V.View.cells schema c.args.recorder.now c.args.kind c.args.low.now c.args.high.now c.last_in.result c.last_in.follows.lender-at-none c.last_in.follows.holds-at-none

pub returns-clause-looks : goal.returns-clause-looks
returns-clause-looks g c = last_looks g.V.View.cells c.args.recorder.now (span.Rows c.args.kind c.args.low.now c.args.high.now) c.last_in.result c.last_in.follows.lender-at-none c.last_in.follows.holds-at-none
