-- The ids that a client gives a new resource, at their members.
use Rattle.std.specs.Prelude.{ℕ, List, codes, Option, Result}
use Rattle.serde_json.specs.Data.{Data}
use Rattle.serde_json.specs.Find.{get}
use Rattle.json_forms.specs.Pointer.{◌//◌}
use Rattle.resource_schema.specs.declared.schema.Schema.{Schema}
use Rattle.error_objects.specs.declared.refusals.Refusal.{Refusal}
use Rattle.request_model.specs.Documents.{client_id, local_id}

abbrev pub client_id_in : Schema → ℕ → List ℕ → Data → Result (Option (List ℕ)) Refusal
client_id_in schema kind at d = client_id schema kind (at // codes "id") (get (codes "id") d)

abbrev pub local_id_in : List ℕ → Data → Result (Option (List ℕ)) Refusal
local_id_in at d = local_id (at // codes "lid") (get (codes "lid") d)
