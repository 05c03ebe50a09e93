-- Slots and groups of cell keys, by which the last writers of cells are kept (of this project).
use Rattle.std.specs.Prelude.{◌≡◌, refl, ℕ, ◌+◌, ◌*◌, ◌%◌, List, [], ◌∷◌, ◌++◌}
use Rattle.std.specs.Int.{w32, to_be_bytes}
use Rattle.ident_rules.specs.declared.key.Key.{Key}
use Rattle.world_cells.specs.declared.keys.CellKey.{CellKey}
use Rattle.world_cells.specs.declared.keys.CellKey.TheVariants as cell_key
use Rattle.world_cells.specs.declared.spans.Span.{Span}
use Rattle.world_cells.specs.declared.spans.Span.TheVariants as span
use Rattle.world_cells.specs.declared.slots.TheConstants.{SLOTS, KIND_GROUPS}

-- ---- slots

-- the type in four bytes, the greatest first, and the id
abbrev pub bytes_of_key : Key → List ℕ
bytes_of_key k = to_be_bytes w32 k.kind ++ k.id

-- the number of the variant in one byte, and the fields in order
abbrev pub cell_key_bytes : CellKey → List ℕ
cell_key_bytes (cell_key.Row k) = 0 ∷ bytes_of_key k
cell_key_bytes (cell_key.Back to from rel) = 1 ∷ (bytes_of_key to ++ (bytes_of_key from ++ to_be_bytes w32 rel))
cell_key_bytes (cell_key.Counter kind) = 2 ∷ to_be_bytes w32 kind

abbrev pub with_byte : ℕ → ℕ → ℕ
with_byte slot byte = (slot * 31 + byte) % SLOTS

abbrev pub with_bytes : ℕ → List ℕ → ℕ
with_bytes slot [] = slot
with_bytes slot (byte ∷ bytes) = with_bytes (with_byte slot byte) bytes

-- bytes behind others lead on from the slot of those
pub with_bytes-append : (slot : ℕ) (xs ys : List ℕ) → with_bytes slot (xs ++ ys) ≡ with_bytes (with_bytes slot xs) ys
with_bytes-append slot [] ys = refl
with_bytes-append slot (x ∷ xs) ys = with_bytes-append (with_byte slot x) xs ys

-- one of `SLOTS`
abbrev pub slot_of : CellKey → ℕ
slot_of k = with_bytes 0 (cell_key_bytes k)

-- ---- groups

-- the first of the four numbers that a type's groups are taken from
abbrev pub first_group : ℕ → ℕ
first_group kind = 4 * (kind % KIND_GROUPS)

-- by the type and the variant; ways back by the type that they lead to
abbrev pub group_of : CellKey → ℕ
group_of (cell_key.Row k) = first_group k.kind
group_of (cell_key.Back to from rel) = first_group to.kind + 1
group_of (cell_key.Counter kind) = first_group kind + 2

-- the group of the keys in a span
abbrev pub group_of_span : Span → ℕ
group_of_span (span.Rows kind low high) = first_group kind
group_of_span (span.Backs to after) = first_group to.kind + 1
