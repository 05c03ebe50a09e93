-- What tasks mean to the store (of this project).
use Rattle.resource_schema.specs.declared.schema.Schema.{Schema}
use Rattle.world_cells.specs.World.{empty_world, cell_at}
use Rattle.task_forms.specs.Fit.{IsFit}
use Rattle.task_forms.specs.Meaning.{Meaning}
use Rattle.store_model.specs.Valid.{IsValid}
use Rattle.store_model.specs.Answer.{answer, effect}
use Rattle.store_model.specs.Reach.{reach}

-- the store's meaning of tasks under a schema
abbrev pub meaning_of : Schema → Meaning
meaning_of schema = record {
  cells = cell_at schema;
  empty = empty_world;
  valid = IsValid schema;
  fit = IsFit schema;
  answer = answer schema;
  effect = effect schema;
  reach = reach schema;
}
