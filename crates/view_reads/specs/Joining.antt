-- A part of a span that goes on where another one ended, and both as one part.
use Rattle.std.specs.Prelude.{◌≡◌, ◌&&◌, ◌||◌, ◌+◌, ◌-◌, ℕ, Bool, true, false, cond, IsTrue, List, length, slice_get, Option, Some, None}
use Rattle.std.specs.Option.{option_map_or}
use Rattle.std.specs.List.{list_any}
use Rattle.std.specs.Bool.{beq}
use Rattle.world_cells.specs.declared.keys.CellKey.{CellKey}
use Rattle.world_cells.specs.declared.keys.CellKey.TheVariants as cell_key
use Rattle.world_cells.specs.declared.spans.Edge.{Edge}
use Rattle.world_cells.specs.declared.spans.Edge.TheVariants as edge
use Rattle.world_cells.specs.declared.spans.Span.{Span}
use Rattle.world_cells.specs.declared.spans.Span.TheVariants as span
use Rattle.world_cells.specs.declared.sets.Part.{Part}
use Rattle.world_cells.specs.CellOrder.{same_cell_key}
use Rattle.world_cells.specs.Reads.{in_span, in_part}

-- the key of a row at which an edge is open
abbrev pub open_row : ℕ → Edge → Option CellKey
open_row kind edge.End = None
open_row kind (edge.Open id) = Some (cell_key.Row (record { kind = kind; id = id }))
open_row kind (edge.Closed id) = None

-- the key just behind which a search begins, from the top or else from the low end
abbrev pub start_of : Bool → Span → Option CellKey
start_of false (span.Rows kind low high) = open_row kind low
start_of true (span.Rows kind low high) = open_row kind high
start_of false (span.Backs to None) = None
start_of false (span.Backs to (Some l)) = Some (cell_key.Back to l.0 l.1)
start_of true (span.Backs to after) = None

-- the span from where a search of one begins to where a search of the next one ends
abbrev pub spanning : Bool → Span → Span → Span
spanning false (span.Rows k low h) (span.Rows kind l high) = span.Rows kind low high
spanning true (span.Rows k l high) (span.Rows kind low h) = span.Rows kind low high
spanning from_top (span.Rows kind low high) (span.Backs to after) = span.Backs to after
spanning from_top (span.Backs to after) (span.Rows kind low high) = span.Rows kind low high
spanning from_top (span.Backs t after) (span.Backs to a) = span.Backs to after

-- whether a look that begins behind a key goes on where a part ended
abbrev pub goes_from : Part → Bool → Span → Option CellKey → Option CellKey → Bool
goes_from last from_top span None start = false
goes_from last from_top span (Some found) None = false
goes_from last from_top span (Some found) (Some start) =
    beq last.from_top from_top && same_cell_key found start && in_span last.span found && in_span (spanning from_top last.span span) found

abbrev pub goes_on : Part → Bool → Span → Bool
goes_on last from_top span = goes_from last from_top span last.found (start_of from_top span)

-- both as one part
abbrev pub widened : Part → Part → Part
widened last next = record { span = spanning next.from_top last.span next.span; found = next.found; from_top = next.from_top }

-- whether a part goes on where the last one ended, if there is one, and the part as it then is
abbrev pub joined : Option Part → Part → Bool × Part
joined None part = (false, part)
joined (Some last) part = cond (goes_on last part.from_top part.span) (true, widened last part) (false, part)

-- the last part, if there is one
abbrev pub last_part : List Part → Option Part
last_part parts = slice_get parts (length parts - 1)

-- what was found lies in the span
abbrev pub IsWhole : Part → Type 0
IsWhole part = IsTrue (option_map_or (in_span part.span) part.found true)

-- What is covered is what was covered and the part, nothing else. A part that goes on where the last one ended is no part more.
pub record AddsPart (before : List Part) (part : Part) (after : List Part) : Type 0 where
  pub covers : (k : CellKey) → list_any (λ p. in_part p k) after ≡ (list_any (λ p. in_part p k) before || in_part part k)
  pub count : length after ≡ length before + cond (joined (last_part before) part).0 0 1
