-- The id of a new row, and what is written with the row.
use Rattle.std.specs.Prelude.{◌≡◌, ℕ, ◌+◌, ◌==◌, ◌&&◌, Bool, List, [], ◌∷◌, codes, is_some, is_none, Option, Some, None}
use Rattle.world_cells.specs.declared.keys.CellKey.{CellKey}
use Rattle.world_cells.specs.declared.rows.Row.{Row}
use Rattle.resource_schema.specs.declared.schema.Schema.{Schema}
use Rattle.world_cells.specs.declared.sets.Written.{Written}
use Rattle.world_cells.specs.Reads.{Leads}
use Rattle.world_cells.specs.World.{World, cell_at, has_row, next_id}
use Rattle.error_objects.specs.declared.codes.Code.TheVariants as code
use Rattle.error_objects.specs.declared.refusals.Refusal.{Refusal}
use Rattle.error_objects.specs.Refusals.{refusal, at_pointer}
use Rattle.world_cells.specs.declared.cells.TheConstants.{LAST_NEXT_ID}
use Rattle.store_model.specs.Change.{first_of, when, created_id, created_key, with_row, with_next}
use Rattle.store_model.specs.Reach.{is_row_in, is_counter_of}

-- the first refusal of the id of a new row, if any: the client's stands for a row, or the server has none left
abbrev pub refuse_id : World → ℕ → Option (List ℕ) → Option Refusal
refuse_id w kind id = first_of (
    when (is_some id && has_row w (created_key w kind id)) (at_pointer code.IdExists (codes "/data/id"))
    ∷ when (is_none id && next_id w kind == LAST_NEXT_ID) (refusal code.IdsEnded)
    ∷ [])

-- what is looked at for it
abbrev pub is_looked_for : ℕ → Option (List ℕ) → CellKey → Bool
is_looked_for kind (Some id) k = is_row_in (record { kind = kind; id = id } ∷ []) k
is_looked_for kind None k = is_counter_of kind k

-- the next id to be written, where the server gives the id
abbrev pub next_after : World → ℕ → Option (List ℕ) → Option ℕ
next_after w kind (Some id) = None
next_after w kind None = Some (next_id w kind + 1)

-- the id of a new row, and the next id to be written
abbrev pub IsNewId : World → ℕ → Option (List ℕ) → List ℕ × Option ℕ → Type 0
IsNewId w kind id made = (made.0 ≡ created_id w kind id) × (made.1 ≡ next_after w kind id)

-- the world with a next id that may be written
abbrev pub with_counter : World → ℕ → Option ℕ → World
with_counter w kind None = w
with_counter w kind (Some number) = with_next w kind number

-- and with a new row
abbrev pub with_created : Row → Option ℕ → World → World
with_created row next w = with_counter (with_row w row) row.key.kind next

-- writes that lead to a world, valid or not, lead after the step to the world that is told
abbrev pub LeadsAnywhere : (World → World) → List Written → List Written → Type 0
LeadsAnywhere next before after = (schema : Schema) (w now : World) → Leads (cell_at schema w) before (cell_at schema now) → Leads (cell_at schema w) after (cell_at schema (next now))
