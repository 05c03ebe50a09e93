use Rattle.world_cells.specs.declared.spans.Span.TheVariants as span
use Rattle.std.proofs.Common.{◌∙◌}
use Rattle.world_cells.specs.declared.spans.Edge.TheVariants as edge
use Rattle.page_select.proofs.Firsts.{last_looks, last_tells}
use Rattle.page_select.proofs.ReadParts.{last_stays}
use Rattle.page_select.proofs.looks.has_row_below.Goals as goal

pub returns-clause-sees : goal.returns-clause-sees
returns-clause-sees g c = λ schema w now behind leads.
    c.is_some.ensures
    ∙ last_tells g.V.View.cells schema c.args.recorder.now c.args.kind edge.End (edge.Open c.args.id.now) c.last_in.result c.in_ok-found.found c.last_in.follows.lender-at-none c.in_ok-found.was c.last_in.follows.holds-at-none w now behind leads

pub returns-clause-reach : goal.returns-clause-reach
returns-clause-reach g c = λ schema.
    last_stays g.V.View.cells schema c.args.recorder.now c.args.kind edge.End (edge.Open c.args.id.now) c.last_in.result c.last_in.follows.lender-at-none c.last_in.follows.holds-at-none

pub returns-clause-looks : goal.returns-clause-looks
returns-clause-looks g c = last_looks g.V.View.cells c.args.recorder.now (span.Rows c.args.kind edge.End (edge.Open c.args.id.now)) c.last_in.result c.last_in.follows.lender-at-none c.last_in.follows.holds-at-none
