-- The edges of what a page in the order of ids asks for.
use Rattle.std.specs.Prelude.{Option, Some, None}
use Rattle.resource_schema.specs.declared.values.Place.{Place}
use Rattle.world_cells.specs.declared.spans.Edge.{Edge}
use Rattle.world_cells.specs.declared.spans.Edge.TheVariants as edge
use Rattle.task_forms.specs.declared.queries.Page.{Page}

-- open at the id of a place, or no end
abbrev pub at_place : Option Place → Edge
at_place None = edge.End
at_place (Some place) = edge.Open place.id

abbrev pub low_edge : Page → Edge
low_edge page = at_place page.after

abbrev pub high_edge : Page → Edge
high_edge page = at_place page.before
