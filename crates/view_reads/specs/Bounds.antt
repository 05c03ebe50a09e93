-- The bounds that the types of numbers and of ids keep.
use Rattle.std.specs.Prelude.{⊤, ℕ, ◌<◌, ◌≤◌, ◌^◌, length, slice_index, Some, None}
use Rattle.ident_rules.specs.declared.key.Key.{Key}
use Rattle.world_cells.specs.declared.keys.CellKey.{CellKey}
use Rattle.world_cells.specs.declared.keys.CellKey.TheVariants as cell_key
use Rattle.world_cells.specs.declared.spans.Span.{Span}
use Rattle.world_cells.specs.declared.spans.Span.TheVariants as span

-- the numbers have 32 bits, and the id has at most 64 bytes
pub record IsBoundedLink (key : Key) (rel : ℕ) : Type 0 where
  pub kind_fits : key.kind < 2 ^ 32
  pub rel_fits : rel < 2 ^ 32
  pub short : length key.id ≤ 64
  pub bytes : (k : ℕ) → k < length key.id → slice_index key.id k < 256

-- of the link that a cell key has
abbrev pub IsBoundedKey : CellKey → Type 0
IsBoundedKey (cell_key.Row k) = ⊤
IsBoundedKey (cell_key.Back to from rel) = IsBoundedLink from rel
IsBoundedKey (cell_key.Counter n) = ⊤

-- of ways back, past a link that is bounded where it is given
abbrev pub IsBoundedBacks : Span → Type 0
IsBoundedBacks (span.Rows kind low high) = ⊥
IsBoundedBacks (span.Backs to None) = ⊤
IsBoundedBacks (span.Backs to (Some l)) = IsBoundedLink l.0 l.1

-- of ways back
abbrev pub IsBacks : Span → Type 0
IsBacks (span.Rows kind low high) = ⊥
IsBacks (span.Backs to after) = ⊤
