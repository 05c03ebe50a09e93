-- Documents of requests (JSON:API 1.1, "Document Structure" and "Creating, Updating and Deleting Resources"; the order in which faults are found is of this project).
use Rattle.std.specs.Prelude.{ℕ, ◌&&◌, ◌^◌, Bool, true, false, not, nat_le, nat_lt, if◌then◌else◌, List, [], ◌∷◌, codes, length, map, filter, decimal, Option, Some, None, Result, Ok, Err, option_map, slice_get}
use Rattle.std.specs.Option.{ok_or, option_or, option_map_or}
use Rattle.std.specs.List.{list_all, enumerate_from}
use Rattle.std.specs.Char.{is_ascii_digit}
use Rattle.std.specs.Str.{bytes_eq, is_utf8}
use Rattle.std.specs.Ordering.{nat_cmp}
use Rattle.std.specs.FinMap.Entries.{find}
use Rattle.serde_json.specs.Data.{Data, null, Members}
use Rattle.serde_json.specs.Find.{get, as_object, as_array, as_str}
use Rattle.resource_schema.specs.declared.schema.Schema.{Schema}
use Rattle.resource_schema.specs.declared.kinds.Attribute.{Attribute}
use Rattle.resource_schema.specs.declared.values.AttrValue.{AttrValue}
use Rattle.resource_schema.specs.declared.values.AttrValue.TheVariants as value
use Rattle.task_forms.specs.declared.operations.TheConstants.{LID_LIMIT}
use Rattle.task_forms.specs.declared.operations.Named.{Named}
use Rattle.task_forms.specs.declared.operations.Named.TheVariants as named
use Rattle.task_forms.specs.declared.operations.Where.{Where}
use Rattle.task_forms.specs.declared.operations.Where.TheVariants as stands
use Rattle.task_forms.specs.declared.operations.Who.{Who}
use Rattle.task_forms.specs.declared.operations.Member.{Member}
use Rattle.task_forms.specs.declared.operations.Operation.{Operation}
use Rattle.task_forms.specs.declared.operations.Operation.TheVariants.{Create, Update}
use Rattle.error_objects.specs.declared.codes.Code.TheVariants as code
use Rattle.error_objects.specs.declared.refusals.Refusal.{Refusal}
use Rattle.task_forms.specs.Fit.{kind_of}
use Rattle.request_model.specs.Words.{begins, some_if, all_some, all_ok, result_map}
use Rattle.request_model.specs.Results.{◌>>=◌, ◌>>◌, err_if}
use Rattle.error_objects.specs.Refusals.{at_pointer}
use Rattle.ident_rules.specs.Id.{is_id}
use Rattle.resource_schema.specs.Kinds.{number_of_kind, kind_name, attributes_of, attribute_of, relationship_of, has_client_ids, target_of, is_many}
use Rattle.request_model.specs.Values.{value_from}
use Rattle.json_forms.specs.Json.{members_list, items_list, text_at}
use Rattle.json_forms.specs.Pointer.{◌//◌}

-- ---- parts

-- no document of the kind that is asked for, where the pointer leads to
abbrev pub bad_document : List ℕ → Refusal
bad_document at = at_pointer code.BadDocument at

-- the value is an object
abbrev pub object_at : List ℕ → Data → Result Members Refusal
object_at at d = ok_or (as_object d) (bad_document at)

-- a member that is a text
abbrev pub text_member : List ℕ → List ℕ → Data → Result (List ℕ) Refusal
text_member at name d = do
  member ← ok_or (get name d) (bad_document at)
  ok_or (as_str member) (bad_document (at // name))

-- the members but @-members (JSON:API 1.1, "@-Members")
abbrev pub fields_at : List ℕ → Option Data → Result (List (List ℕ × Data)) Refusal
fields_at at None = Ok []
fields_at at (Some d) = result_map (λ ms. filter (λ m. not (begins (codes "@") m.0)) (members_list ms)) (object_at at d)

-- ---- resource identifiers and linkages (JSON:API 1.1, "Resource Identifier Objects" and "Resource Linkage")

-- by id or by local id, whichever one is a text
abbrev pub named_by : ℕ → Option (List ℕ) → Option (List ℕ) → Option Named
named_by kind (Some id) None = Some (named.Id (record { kind = kind; id = id }))
named_by kind None (Some lid) = Some (named.Lid kind lid)
named_by kind (Some id) (Some lid) = None
named_by kind None None = None

-- what the members `id` and `lid` of a value name
abbrev pub named_in : ℕ → Data → Option Named
named_in kind d = named_by kind (text_at (codes "id") d) (text_at (codes "lid") d)

-- an id keeps its rule; a local id is any text, UTF-8
abbrev pub keeps_rule : Named → Bool
keeps_rule (named.Id key) = is_id key.id
keeps_rule (named.Lid kind lid) = is_utf8 lid

-- a resource identifier of a type (JSON:API 1.1, "Resource Identifier Objects")
abbrev pub identifier_from : Schema → ℕ → List ℕ → Data → Result Named Refusal
identifier_from schema kind at d = do
  type ← ok_or (text_at (codes "type") d) (bad_document at)
  name ← ok_or (named_in kind d) (bad_document at)
  err_if (not (bytes_eq type (kind_name schema kind))) (at_pointer code.WrongTarget (at // codes "type"))
  err_if (not (keeps_rule name)) (at_pointer code.RelatedNotFound (at // codes "id"))
  Ok name

-- null, or one identifier
abbrev pub one_linkage : Schema → ℕ → List ℕ → Data → Result (List Member) Refusal
one_linkage schema kind at null = Ok []
one_linkage schema kind at d = result_map (λ n. record { named = n; index = None } ∷ []) (identifier_from schema kind at d)

-- an identifier of an array, with its place
abbrev pub indexed : Schema → ℕ → List ℕ → ℕ × Data → Result Member Refusal
indexed schema kind at (n, d) = result_map (λ name. record { named = name; index = Some n }) (identifier_from schema kind (at // decimal n) d)

-- an array of identifiers
abbrev pub many_linkage : Schema → ℕ → List ℕ → Data → Result (List Member) Refusal
many_linkage schema kind at d = do
  items ← ok_or (as_array d) (bad_document at)
  err_if (nat_le (2 ^ 32) (length (items_list items))) (bad_document at)
  all_ok (map (indexed schema kind at) (enumerate_from 0 (items_list items)))

-- a linkage of a relationship, by its type and number
abbrev pub linkage_from : Schema → ℕ → ℕ → List ℕ → Data → Result (List Member) Refusal
linkage_from schema kind rel at d = if is_many schema kind rel then many_linkage schema (target_of schema kind rel) at d else one_linkage schema (target_of schema kind rel) at d

-- ---- attributes and relationships (JSON:API 1.1, "Resource Objects")

-- one attribute: known, and with a value of its form
abbrev pub given_value : Schema → ℕ → List ℕ → List ℕ × Data → Result (ℕ × AttrValue) Refusal
given_value schema kind group (name, d) = do
  let at = group // name
  n ← ok_or (attribute_of schema kind name) (at_pointer code.UnknownField at)
  a ← ok_or (slice_get (attributes_of schema kind) n) (at_pointer code.UnknownField at)
  value ← ok_or (value_from a.form a.nullable d) (at_pointer code.BadValue at)
  Ok (n, value)

-- the attributes that are given, by number (JSON:API 1.1, "Attributes")
abbrev pub given_values : Schema → ℕ → List ℕ → Data → Result (List (ℕ × AttrValue)) Refusal
given_values schema kind at d = do
  fields ← fields_at (at // codes "attributes") (get (codes "attributes") d)
  all_ok (map (given_value schema kind (at // codes "attributes")) fields)

-- one relationship: known, and with its linkage
abbrev pub given_link : Schema → ℕ → List ℕ → List ℕ × Data → Result (ℕ × List Member) Refusal
given_link schema kind group (name, d) = do
  let at = group // name
  rel ← ok_or (relationship_of schema kind name) (at_pointer code.UnknownField at)
  link ← ok_or (get (codes "data") d) (bad_document at)
  members ← linkage_from schema kind rel (at // codes "data") link
  Ok (rel, members)

-- the relationships that are given, by number (JSON:API 1.1, "Relationships")
abbrev pub given_links : Schema → ℕ → List ℕ → Data → Result (List (ℕ × List Member)) Refusal
given_links schema kind at d = do
  fields ← fields_at (at // codes "relationships") (get (codes "relationships") d)
  all_ok (map (given_link schema kind (at // codes "relationships")) fields)

-- the value that is given, or else the default, or else null
abbrev pub value_or_default : List (ℕ × AttrValue) → ℕ × Attribute → Option AttrValue
value_or_default given (n, a) = option_or (find nat_cmp n given) (option_or a.default (some_if a.nullable value.Null))

-- one value for each attribute, where each has one
abbrev pub all_values : Schema → ℕ → List (ℕ × AttrValue) → Option (List AttrValue)
all_values schema kind given = all_some (map (value_or_default given) (enumerate_from 0 (attributes_of schema kind)))

-- ---- the type of a resource

-- the type of the endpoint, or in a list the type that the data names
abbrev pub kind_named : Schema → Option ℕ → List ℕ → List ℕ → Result ℕ Refusal
kind_named schema (Some kind) at name = if bytes_eq name (kind_name schema kind) then Ok kind else Err (at_pointer code.TypeMismatch (at // codes "type"))
kind_named schema None at name = ok_or (number_of_kind schema name) (at_pointer code.NotFound (at // codes "type"))

-- the type of a resource object (JSON:API 1.1, "Resource Objects")
abbrev pub resource_kind : Schema → Option ℕ → List ℕ → Data → Result ℕ Refusal
resource_kind schema endpoint at d = do
  object_at at d
  name ← text_member at (codes "type") d
  kind_named schema endpoint at name

-- ---- a new resource (JSON:API 1.1, "Creating Resources")

-- the id that the client gave (JSON:API 1.1, "Client-Generated IDs")
abbrev pub client_id : Schema → ℕ → List ℕ → Option Data → Result (Option (List ℕ)) Refusal
client_id schema kind at None = Ok None
client_id schema kind at (Some d) = do
  id ← ok_or (as_str d) (bad_document at)
  err_if (not (has_client_ids schema kind)) (at_pointer code.ClientIdUnsupported at)
  err_if (not (is_id id)) (at_pointer code.BadId at)
  err_if (list_all is_ascii_digit id) (at_pointer code.ReservedId at)
  Ok (Some id)

-- a text, UTF-8, of 1 to `LID_LIMIT` bytes
abbrev pub is_lid : List ℕ → Bool
is_lid lid = nat_lt 0 (length lid) && nat_le (length lid) LID_LIMIT && is_utf8 lid

-- the local id that the client gave (JSON:API 1.1, "Identification")
abbrev pub local_id : List ℕ → Option Data → Result (Option (List ℕ)) Refusal
local_id at None = Ok None
local_id at (Some d) = do
  lid ← ok_or (as_str d) (bad_document at)
  err_if (not (is_lid lid)) (bad_document at)
  Ok (Some lid)

-- a new resource, by the rules in their order
abbrev pub create_of : Schema → Option ℕ → List ℕ → Data → Result Operation Refusal
create_of schema endpoint at d = do
  kind ← resource_kind schema endpoint at d
  id ← client_id schema kind (at // codes "id") (get (codes "id") d)
  lid ← local_id (at // codes "lid") (get (codes "lid") d)
  given ← given_values schema kind at d
  links ← given_links schema kind at d
  values ← ok_or (all_values schema kind given) (at_pointer code.MissingField at)
  Ok (Create kind id lid values links)

-- ---- an update (JSON:API 1.1, "Updating Resources")

-- the member that named a resource
abbrev pub name_member : Named → List ℕ
name_member (named.Id key) = codes "id"
name_member (named.Lid kind lid) = codes "lid"

-- both name the same resource, of a type that is known to be one
abbrev pub same_named : Named → Named → Bool
same_named (named.Id key) (named.Id other) = bytes_eq key.id other.id
same_named (named.Lid kind lid) (named.Lid other_kind other) = bytes_eq lid other
same_named (named.Id key) (named.Lid kind lid) = false
same_named (named.Lid kind lid) (named.Id key) = false

-- exactly one of `id` and `lid` is there, and is a text
abbrev pub own_name : ℕ → List ℕ → Option Data → Option Data → Result Named Refusal
own_name kind at (Some id) None = result_map (λ t. named.Id (record { kind = kind; id = t })) (ok_or (as_str id) (bad_document (at // codes "id")))
own_name kind at None (Some lid) = result_map (λ t. named.Lid kind t) (ok_or (as_str lid) (bad_document (at // codes "lid")))
own_name kind at (Some id) (Some lid) = Err (bad_document at)
own_name kind at None None = Err (bad_document at)

-- the path of the request named the resource
abbrev pub is_by_path : Where → Bool
is_by_path stands.Plain = true
is_by_path stands.Ref = false
is_by_path stands.Href = false
is_by_path stands.Data = false

-- local ids name resources in lists alone, whose targets no path of a request names
abbrev pub lid_in : Option Who → Data → Option Data
lid_in endpoint d = if option_map_or (λ who. is_by_path who.place) endpoint false then None else get (codes "lid") d

-- the target that something else named, or else the one that the data names
abbrev pub target_of_update : Option Who → List ℕ → Named → Result Who Refusal
target_of_update (Some who) at name = if same_named who.named name then Ok who else Err (at_pointer code.IdMismatch (at // name_member name))
target_of_update None at name = if keeps_rule name then Ok (record { named = name; place = stands.Data }) else Err (at_pointer code.NotFound (at // codes "id"))

-- the target, which the data names as well
abbrev pub who_of : ℕ → Option Who → List ℕ → Data → Result Who Refusal
who_of kind endpoint at d = do
  name ← own_name kind at (get (codes "id") d) (lid_in endpoint d)
  target_of_update endpoint at name

-- a changed resource, by the rules in their order
abbrev pub update_of : Schema → Option Who → List ℕ → Data → Result Operation Refusal
update_of schema endpoint at d = do
  kind ← resource_kind schema (option_map (λ who. kind_of who.named) endpoint) at d
  who ← who_of kind endpoint at d
  values ← given_values schema kind at d
  links ← given_links schema kind at d
  Ok (Update who values links)
