-- A resource that is created: the operation, what its linkages are refused for, and its row.
use Rattle.std.specs.Prelude.{◌≡◌, Option}
use Rattle.ident_rules.specs.declared.key.Key.{Key}
use Rattle.resource_schema.specs.declared.schema.Schema.{Schema}
use Rattle.resource_schema.specs.Kinds.{relationships_of}
use Rattle.world_cells.specs.declared.rows.Row.{Row}
use Rattle.world_cells.specs.World.{World}
use Rattle.error_objects.specs.declared.refusals.Refusal.{Refusal}
use Rattle.task_forms.specs.declared.operations.Operation.{Operation}
use Rattle.task_forms.specs.declared.operations.Operation.TheVariants as operation
use Rattle.store_model.specs.Change.{Lids, refuse_links, set_links, empty_links}
use Rattle.row_change.specs.declared.places.MayLinkTo.TheVariants as to
use Rattle.row_change.specs.declared.creates.NewResource.{NewResource}
use Rattle.row_change.specs.Places.{may_link}

abbrev pub create_of : NewResource → Operation
create_of new = operation.Create new.kind new.id new.lid.now new.values.now new.links.now

-- a link may lead to the new row itself, whose key this is
abbrev pub refuse_new : Schema → NewResource → Key → Lids → World → Option Refusal
refuse_new schema new key lids now = refuse_links (may_link (to.AtRowOr key) now) lids (relationships_of schema key.kind) new.links.now

abbrev pub IsNewRow : Schema → NewResource → Key → Lids → Row → Type 0
IsNewRow schema new key lids row = row ≡ record {
  key = key;
  values = new.values.now;
  links = set_links lids (empty_links (relationships_of schema key.kind)) new.links.now;
}
