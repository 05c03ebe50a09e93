-- On which side of a span a key stands, and how many writes in order stand before a span or within it.
use Rattle.std.specs.Prelude.{◌≡◌, ℕ, ◌<◌, ◌≤◌, Bool, true, false, not, cond, List, length, get_or}
use Rattle.std.specs.declared.cmp.Ordering.{Ordering}
use Rattle.std.specs.declared.cmp.Ordering.TheVariants.{Less, Equal, Greater}
use Rattle.std.specs.Ordering.{is_lt, is_gt, nat_cmp, ordering_then}
use Rattle.ident_rules.specs.Key.{key_cmp}
use Rattle.world_cells.specs.declared.keys.CellKey.{CellKey}
use Rattle.world_cells.specs.declared.keys.CellKey.TheVariants as cell_key
use Rattle.world_cells.specs.declared.spans.Span.{Span}
use Rattle.world_cells.specs.declared.spans.Span.TheVariants as span
use Rattle.world_cells.specs.declared.sets.Written.{Written}
use Rattle.world_cells.specs.Reads.{is_above, is_below}
use Rattle.view_reads.specs.Narrowing.{is_behind}

-- before it, in it, or behind it, from whether the key is past the low edge, and before the high one
abbrev pub between_edges : Bool → Bool → Ordering
between_edges past early = cond past (cond early Equal Greater) Less

abbrev pub side : Span → CellKey → Ordering
side (span.Rows kind low high) (cell_key.Row k) = ordering_then (nat_cmp k.kind kind) (between_edges (is_above low k.id) (is_below high k.id))
side (span.Rows kind low high) (cell_key.Back to from rel) = Greater
side (span.Rows kind low high) (cell_key.Counter n) = Greater
side (span.Backs to after) (cell_key.Row k) = Less
side (span.Backs to after) (cell_key.Back t from rel) = ordering_then (key_cmp t to) (between_edges (is_behind after (from, rel)) true)
side (span.Backs to after) (cell_key.Counter n) = Greater

-- whether a key stands before a span, or, where the span is to be passed too, not behind it
abbrev pub is_passed : Bool → Span → CellKey → Bool
is_passed false s k = is_lt (side s k)
is_passed true s k = not (is_gt (side s k))

-- the first n writes are passed, and no other
pub record IsSplit (whole : Bool) (s : Span) (writes : List Written) (n : ℕ) : Type 0 where
  pub within : n ≤ length writes
  pub passed : (i : ℕ) (d : Written) → i < n → is_passed whole s (get_or writes i d).key ≡ true
  pub left : (i : ℕ) (d : Written) → n ≤ i → i < length writes → is_passed whole s (get_or writes i d).key ≡ false
