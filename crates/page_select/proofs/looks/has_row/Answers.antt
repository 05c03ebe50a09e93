use Rattle.world_cells.specs.declared.spans.Span.TheVariants as span
use Rattle.std.proofs.Common.{◌∙◌}
use Rattle.page_select.proofs.Firsts.{first_looks, first_tells}
use Rattle.page_select.proofs.ReadParts.{first_stays}
use Rattle.page_select.proofs.looks.has_row.Goals as goal

pub returns-clause-sees : goal.returns-clause-sees
returns-clause-sees g c = λ schema w now behind leads.
    c.is_some.ensures
    ∙ first_tells g.V.View.cells schema c.args.recorder.now c.args.kind c.args.low.now c.args.high.now c.first_in.result c.in_ok-found.found c.first_in.follows.lender-at-none c.in_ok-found.was c.first_in.follows.holds-at-none w now behind leads

pub returns-clause-reach : goal.returns-clause-reach
returns-clause-reach g c = λ schema.
    first_stays g.V.View.cells schema c.args.recorder.now c.args.kind c.args.low.now c.args.high.now c.first_in.result c.first_in.follows.lender-at-none c.first_in.follows.holds-at-none

pub returns-clause-looks : goal.returns-clause-looks
returns-clause-looks g c = first_looks g.V.View.cells c.args.recorder.now (span.Rows c.args.kind c.args.low.now c.args.high.now) c.first_in.result c.first_in.follows.lender-at-none c.first_in.follows.holds-at-none
