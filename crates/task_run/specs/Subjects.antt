-- What a subject of the store is to the crates that drive it.
use Rattle.resource_schema.specs.declared.schema.Schema.{Schema}

-- a subject's kind is its schema
abbrev pub subject_kind : Schema → Schema
subject_kind schema = schema
