-- A row that an operation changes: as it was, and as it is to be.
use Rattle.std.specs.Prelude.{◌≡◌, Some, Option, List}
use Rattle.resource_schema.specs.declared.schema.Schema.{Schema}
use Rattle.error_objects.specs.declared.refusals.Refusal.{Refusal}
use Rattle.resource_schema.specs.Kinds.{relationships_of}
use Rattle.world_cells.specs.declared.rows.Link.{Link}
use Rattle.world_cells.specs.declared.rows.Row.{Row}
use Rattle.world_cells.specs.World.{World, has_row}
use Rattle.task_forms.specs.Fit.{kind_of}
use Rattle.task_forms.specs.declared.operations.Who.{Who}
use Rattle.task_forms.specs.declared.operations.Operation.{Operation}
use Rattle.task_forms.specs.declared.operations.Operation.TheVariants as operation
use Rattle.store_model.specs.Change.{Lids, refused, refuse_links, named_row, set_values, set_links}
use Rattle.row_change.specs.declared.updates.Rewrite.{Rewrite}
use Rattle.row_change.specs.declared.updates.ResourceUpdate.{ResourceUpdate}

-- the old row is the one that is named, and the new one is what the change makes of it
pub record IsRewrite (now : World) (lids : Lids) (who : Who) (change : Row → Row) (old new : Row) : Type 0 where
  pub named : named_row now lids who ≡ Some old
  pub changed : new ≡ change old

abbrev pub IsRewritten : World → Lids → Who → (Row → Row) → Rewrite → Type 0
IsRewritten now lids who change made = IsRewrite now lids who change made.old made.new

-- the operation, and what it makes of a row
abbrev pub update_of : ResourceUpdate → Operation
update_of update = operation.Update update.who.now update.values.now update.links.now

abbrev pub updated_by : ResourceUpdate → Lids → Row → Row
updated_by update lids row = record row { values = set_values row.values update.values.now; links = set_links lids row.links update.links.now }

abbrev pub refuse_update : ResourceUpdate → Lids → Schema → World → Option Refusal
refuse_update update lids schema now = refused schema now lids (update_of update)

abbrev pub IsUpdated : ResourceUpdate → Lids → World → Rewrite → Type 0
IsUpdated update lids now made = IsRewritten now lids update.who.now (updated_by update lids) made

-- what its linkages are refused for, and its links with those that are given in their places
abbrev pub refuse_links_of : ResourceUpdate → Lids → Schema → World → Option Refusal
refuse_links_of update lids schema now = refuse_links (has_row now) lids (relationships_of schema (kind_of update.who.now.named)) update.links.now

abbrev pub AreNewLinks : ResourceUpdate → Lids → Row → List Link → Type 0
AreNewLinks update lids old new = new ≡ set_links lids old.links update.links.now
