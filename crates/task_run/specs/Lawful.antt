-- What the store's tasks keep, as subjects ask for it.
use Rattle.resource_schema.specs.declared.schema.Schema.{Schema}
use Rattle.task_forms.specs.Meaning.{IsLawful}
use Rattle.store_model.specs.StoreMeaning.{meaning_of}
use Rattle.store_model.proofs.Lawful.{store_lawful}

pub meaning_is_lawful : (schema : Schema) → IsLawful (meaning_of schema)
meaning_is_lawful schema = store_lawful schema
