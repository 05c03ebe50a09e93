-- Keys of an order, by the names of their attributes.
use Rattle.std.specs.Prelude.{ℕ, Bool, List, Option, option_map}
use Rattle.resource_schema.specs.declared.schema.Schema.{Schema}
use Rattle.resource_schema.specs.Kinds.{attribute_of}
use Rattle.task_forms.specs.declared.queries.SortKey.{SortKey}

-- the key of the attribute of a name
abbrev pub key_named : Schema → ℕ → List ℕ → Bool → Option SortKey
key_named schema kind name descending = option_map (λ n. record { attribute = n; descending = descending }) (attribute_of schema kind name)
