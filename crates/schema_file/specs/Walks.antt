-- The members of an object, as a walk over a map sees them, and the words of fields.
use Rattle.std.specs.Prelude.{ℕ, Bool, List, [], codes, Option, Some, None, Result, String, option_and_then}
use Rattle.std.specs.Option.{ok_or}
use Rattle.std.specs.List.{position}
use Rattle.std.specs.Str.{bytes_eq}
use Rattle.std.specs.BTreeMap.{BTreeMap}
use Rattle.std.specs.declared.alloc.Global.{Global}
use Rattle.serde_json.specs.Data.{Data}
use Rattle.serde_json.specs.declared.value.Value.{Value}
use Rattle.json_forms.specs.Json.{text_at}
use Rattle.document_parts.specs.Walks.{members_in}
use Rattle.json_forms.specs.Pointer.{◌//◌}
use Rattle.resource_schema.specs.declared.values.Form.{Form}
use Rattle.resource_schema.specs.declared.faults.SchemaFault.{SchemaFault}
use Rattle.resource_schema.specs.declared.faults.Why.TheVariants as why
use Rattle.request_model.specs.SchemaFile.{fault, form_of, many_of}

-- those of a map that may be absent
abbrev pub fields_in : Option (BTreeMap (String Global) Value) → List (List ℕ × Data)
fields_in None = []
fields_in (Some m) = members_in m

-- the form of an attribute
abbrev pub form_at : List ℕ → Data → Result Form SchemaFault
form_at at d = ok_or (option_and_then form_of (text_at (codes "type") d)) (fault (at // codes "type") why.BadType)

-- whether a relationship leads to many
abbrev pub many_at : List ℕ → Data → Result Bool SchemaFault
many_at at d = ok_or (option_and_then many_of (text_at (codes "kind") d)) (fault (at // codes "kind") why.BadKind)

-- the number of the type that a relationship leads to
abbrev pub target_in : List (List ℕ) → List ℕ → Data → Result ℕ SchemaFault
target_in kinds at d = ok_or (option_and_then (λ t. position (bytes_eq t) kinds) (text_at (codes "target") d)) (fault (at // codes "target") why.BadTarget)
