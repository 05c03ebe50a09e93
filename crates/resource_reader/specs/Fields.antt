-- Members that are fields (JSON:API 1.1, "@-Members"), and the members of a resource object that hold them.
use Rattle.std.specs.Prelude.{ℕ, Bool, not, List, codes, filter}
use Rattle.serde_json.specs.Data.{Data}
use Rattle.document_parts.specs.Pointers.{member_pointer}
use Rattle.request_model.specs.Words.{begins}

abbrev pub is_no_at_member : List ℕ → Bool
is_no_at_member name = not (begins (codes "@") name)

abbrev pub fields_among : List (List ℕ × Data) → List (List ℕ × Data)
fields_among ms = filter (λ m. is_no_at_member m.0) ms

-- of the attributes of the resource object that the pointer leads to
abbrev pub attributes_pointer : List ℕ → List ℕ
attributes_pointer at = member_pointer at (codes "attributes")

-- of its relationships
abbrev pub relationships_pointer : List ℕ → List ℕ
relationships_pointer at = member_pointer at (codes "relationships")
