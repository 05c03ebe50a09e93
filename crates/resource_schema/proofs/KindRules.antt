-- What the rules of a schema say of a type that is found.
use Rattle.std.proofs.Common.{◌≡◌, ℕ, ◌≤◌, true, List, length, Option, Some, None}
use Rattle.std.specs.Prelude.{slice_get, IfSome, option_copied}
use Rattle.std.specs.Borrow.{Bor}
use Rattle.resource_schema.specs.declared.kinds.TheConstants.{ATTRIBUTE_LIMIT, RELATIONSHIP_LIMIT}
use Rattle.resource_schema.specs.declared.kinds.Kind.{Kind}
use Rattle.resource_schema.specs.SchemaRules.{is_schema}
use Rattle.resource_schema.specs.SchemaLaws.{kind_at-parts}

-- a type has few fields
pub found-few : (schema : List Kind) (i : ℕ) (found : Option (Bor Kind)) → is_schema schema ≡ true → option_copied found ≡ slice_get schema i → IfSome found (λ k. (length k.now.attributes ≤ ATTRIBUTE_LIMIT) × (length k.now.relationships ≤ RELATIONSHIP_LIMIT))
found-few schema i None rules e = tt
found-few schema i (Some k) rules e =
    let there : slice_get schema i ≡ Some k.now = cc e in
    let parts = kind_at-parts schema i k.now rules there in
    (parts.few_attributes, parts.few_relationships)
