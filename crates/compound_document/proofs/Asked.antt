-- Keys are needed only where paths were asked for.
use Rattle.std.proofs.Common.{◌≡◌, List, Option, Some, None, refl}
use Rattle.ident_rules.specs.declared.key.Key.{Key}
use Rattle.resource_schema.specs.declared.schema.Schema.{Schema}
use Rattle.world_cells.specs.declared.keys.CellKey.{CellKey}
use Rattle.world_cells.specs.World.{World}
use Rattle.task_forms.specs.declared.queries.Path.{Path}
use Rattle.compound_document.specs.Gathering.{asked_keys, gathered, reach_beside}

pub asked_gathered : (schema : Schema) (w : World) (keys : List Key) (include : Option (List Path)) → gathered schema w (asked_keys include keys) include ≡ gathered schema w keys include
asked_gathered schema w keys None = refl
asked_gathered schema w keys (Some paths) = refl

pub asked_reach : (schema : Schema) (w : World) (keys : List Key) (include : Option (List Path)) (k : CellKey) → reach_beside schema (asked_keys include keys) include w k ≡ reach_beside schema keys include w k
asked_reach schema w keys None k = refl
asked_reach schema w keys (Some paths) k = refl
