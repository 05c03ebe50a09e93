-- The cells of a world after a change of one row or one next id.
use Rattle.std.specs.Prelude.{◌≡◌, ℕ, true, false, cond, not, if◌then◌else◌, option_map, Some, None, Option, refl}
use Rattle.std.proofs.Common.{sym, ap, ◌∙◌}
use Rattle.std.specs.Option.{option_map_or}
use Rattle.std.specs.Ordering.{nat_cmp, eq_by_cmp}
use Rattle.std.specs.Cmp.{nat_cmp_total}
use Rattle.std.specs.FinMap.Entries.{find, find-put, find_tied, find-where_key}
use Rattle.ident_rules.specs.declared.key.Key.{Key}
use Rattle.ident_rules.specs.IdOrder.{is_equal}
use Rattle.ident_rules.specs.Key.{key_cmp, key_cmp_total, key_cmp-IsAntisymmetric, same_key}
use Rattle.resource_schema.specs.declared.schema.Schema.{Schema}
use Rattle.world_cells.specs.declared.rows.Row.{Row}
use Rattle.world_cells.specs.declared.keys.CellKey.{CellKey}
use Rattle.world_cells.specs.declared.keys.CellKey.TheVariants as cell_key
use Rattle.world_cells.specs.declared.cells.Cell.{Cell}
use Rattle.world_cells.specs.declared.cells.Cell.TheVariants as cell
use Rattle.world_cells.specs.CellLaws.{same_row_cell, map_cond}
use Rattle.world_cells.specs.CellOrder.{same_cell_key}
use Rattle.world_cells.specs.World.{World, row_at, cell_at, links_to}
use Rattle.store_model.specs.Change.{with_row, without_row, with_next}

-- ---- one row

pub row-with_row : (w : World) (row : Row) (q : Key) → row_at (with_row w row) q ≡ cond (same_key q row.key) (Some row) (row_at w q)
row-with_row w row q = find-put key_cmp key_cmp_total q row.key row w.rows

-- the way back from a key to a row that may be there, if it links to the key
abbrev pub leads_by : Schema → Option Row → ℕ → Key → Option Cell
leads_by schema row rel to = if option_map_or (λ r. links_to schema r rel to) row false then Some cell.Back else None

-- a row whose links are those of the row that was there, if any, changes no cell but its own
pub cells-with_row : (schema : Schema) (w : World) (row : Row) → ((rel : ℕ) (to : Key) → leads_by schema (Some row) rel to ≡ leads_by schema (row_at w row.key) rel to)
    → (k : CellKey) → cell_at schema (with_row w row) k ≡ cond (same_cell_key k (cell_key.Row row.key)) (Some (cell.Row row)) (cell_at schema w k)
cells-with_row schema w row same (cell_key.Row q) =
    ap (option_map cell.Row) (row-with_row w row q)
    ∙ map_cond (option_map cell.Row) (same_key q row.key) (Some row) (row_at w q)
    ∙ ap (λ b. cond b (Some (cell.Row row)) (option_map cell.Row (row_at w q))) (sym (same_row_cell q row.key))
cells-with_row schema w row same (cell_key.Back to from rel) =
    ap (λ r. leads_by schema r rel to) (row-with_row w row from)
    ∙ elim (same_key from row.key) as (λ b. same_key from row.key ≡ b → leads_by schema (cond b (Some row) (row_at w from)) rel to ≡ leads_by schema (row_at w from) rel to) [
      | true ↦ λ e. same rel to ∙ ap (λ r. leads_by schema r rel to) (find_tied key_cmp key_cmp_total from row.key (is_equal _ e) w.rows)
      | false ↦ λ e. refl
    ] refl
cells-with_row schema w row same (cell_key.Counter kind) = refl

-- any row: its own cell, and the ways back to it from what it linked and links to
pub back-with_row : (schema : Schema) (w : World) (row : Row) (to from : Key) (rel : ℕ)
    → cell_at schema (with_row w row) (cell_key.Back to from rel) ≡ cond (same_key from row.key) (leads_by schema (Some row) rel to) (cell_at schema w (cell_key.Back to from rel))
back-with_row schema w row to from rel = ap (λ r. leads_by schema r rel to) (row-with_row w row from) ∙ map_cond (λ r. leads_by schema r rel to) (same_key from row.key) (Some row) (row_at w from)

-- ---- a row that is taken away

pub row-without_row : (w : World) (key q : Key) → row_at (without_row w key) q ≡ cond (not (same_key key q)) (row_at w q) None
row-without_row w key q = find-where_key key_cmp (λ k. not (same_key key k)) q (λ x tied. ap (λ k. not (same_key key k)) (sym (key_cmp-IsAntisymmetric q x tied))) w.rows

-- its own cell goes, and the ways back from what it links to
pub back-without_row : (schema : Schema) (w : World) (key to from : Key) (rel : ℕ)
    → cell_at schema (without_row w key) (cell_key.Back to from rel) ≡ cond (not (same_key key from)) (cell_at schema w (cell_key.Back to from rel)) None
back-without_row schema w key to from rel = ap (λ r. leads_by schema r rel to) (row-without_row w key from) ∙ map_cond (λ r. leads_by schema r rel to) (not (same_key key from)) (row_at w from) None

-- ---- one next id

-- a next id changes no cell but its own
pub cells-with_next : (schema : Schema) (w : World) (kind n : ℕ) (k : CellKey)
    → cell_at schema (with_next w kind n) k ≡ cond (same_cell_key k (cell_key.Counter kind)) (Some (cell.Counter n)) (cell_at schema w k)
cells-with_next schema w kind n (cell_key.Row q) = refl
cells-with_next schema w kind n (cell_key.Back to from rel) = refl
cells-with_next schema w kind n (cell_key.Counter m) =
    ap (option_map cell.Counter) (find-put nat_cmp nat_cmp_total m kind n w.counters)
    ∙ map_cond (option_map cell.Counter) (eq_by_cmp nat_cmp m kind) (Some n) (find nat_cmp m w.counters)
