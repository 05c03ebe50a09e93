-- Queries (JSON:API 1.1, "Query Parameters"; Cursor Pagination profile, "Query Parameters"; limits and the order of faults are of this project).
use Rattle.std.specs.Prelude.{ℕ, ◌+◌, ◌-◌, ◌&&◌, ◌==◌, Bool, true, false, not, nat_eq, nat_le, if◌then◌else◌, List, [], ◌∷◌, ◌++◌, codes, length, map, take, drop, nat_lt, is_some, Option, Some, None, Result, Ok, option_map, slice_get}
use Rattle.std.specs.Option.{ok_or}
use Rattle.std.specs.List.{list_all, list_any, ends_with, filter_map}
use Rattle.std.specs.Char.{is_ascii_digit}
use Rattle.std.specs.Str.{bytes_eq}
use Rattle.std.specs.Str.Lossy.{utf8_lossy}
use Rattle.std.specs.Str.Parse.{digits_value}
use Rattle.form_urlencoded.specs.Form.{raw_pairs, decode}
use Rattle.resource_schema.specs.declared.schema.Schema.{Schema}
use Rattle.resource_schema.specs.declared.values.Form.{Form}
use Rattle.resource_schema.specs.declared.values.Place.{Place}
use Rattle.request_model.specs.declared.forms.Asked.{Asked}
use Rattle.request_model.specs.declared.forms.Parameter.{Parameter}
use Rattle.request_model.specs.declared.forms.Parameter.TheVariants as parameter
use Rattle.resource_schema.specs.declared.targets.Target.{Target}
use Rattle.resource_schema.specs.declared.targets.Target.TheVariants as target
use Rattle.task_forms.specs.declared.queries.TheConstants.{PAGE_SIZE_LIMIT, SORT_LIMIT, PATH_LIMIT, PATH_LENGTH_LIMIT}
use Rattle.task_forms.specs.declared.queries.Path.{Path}
use Rattle.task_forms.specs.declared.queries.SortKey.{SortKey}
use Rattle.task_forms.specs.declared.queries.Query.{Query}
use Rattle.task_forms.specs.Queries.{first_page, no_query}
use Rattle.error_objects.specs.declared.codes.Code.{Code}
use Rattle.error_objects.specs.declared.codes.Code.TheVariants as code
use Rattle.error_objects.specs.declared.refusals.Refusal.{Refusal}
use Rattle.request_model.specs.Words.{parts_at, comma, dot, begins, some_if, all_some, result_map}
use Rattle.request_model.specs.Results.{◌>>=◌, ◌>>◌, err_if}
use Rattle.error_objects.specs.Refusals.{at_parameter}
use Rattle.request_model.specs.Options as option
use Rattle.resource_schema.specs.Kinds.{number_of_kind, attributes_of, attribute_of, relationship_of, target_of, is_many, is_field}
use Rattle.request_model.specs.Cursors.{place_of_cursor}

-- ---- pairs (URL Standard, section 5.1)

-- the text, with U+FFFD for what is no UTF-8
abbrev pub decoded_text : List ℕ → List ℕ
decoded_text bytes = utf8_lossy (decode bytes)

-- the pairs of a query, decoded, in order
abbrev pub pairs_of : List ℕ → List (List ℕ × List ℕ)
pairs_of query = map (λ p. (decoded_text p.0, decoded_text p.1)) (raw_pairs query)

-- ---- parameters of an endpoint

-- what stands in the brackets of a parameter of a family, `family[..]` (JSON:API 1.1, "Query Parameter Families")
abbrev pub in_brackets : List ℕ → List ℕ → Option (List ℕ)
in_brackets family name =
    some_if (begins (family ++ codes "[") name && ends_with nat_eq name (codes "]")) (drop (length family + 1) (take (length name - 1) name))

-- the parameter of a name, whatever its target
abbrev pub parameter_of : List ℕ → Option Parameter
parameter_of name =
    if bytes_eq name (codes "include") then Some parameter.Include
    else (if bytes_eq name (codes "sort") then Some parameter.Sort
    else (if bytes_eq name (codes "page[size]") then Some parameter.PageSize
    else (if bytes_eq name (codes "page[after]") then Some parameter.PageAfter
    else (if bytes_eq name (codes "page[before]") then Some parameter.PageBefore
    else some_if (is_some (in_brackets (codes "fields") name)) parameter.Fields))))

-- the target answers with resources
abbrev pub has_resources : Target → Bool
has_resources (target.Collection kind) = true
has_resources (target.Resource key) = true
has_resources (target.Related key rel) = true
has_resources (target.Linkage key rel) = false
has_resources target.Operations = false

-- the target answers with a page
abbrev pub is_page : Schema → Target → Bool
is_page schema (target.Collection kind) = true
is_page schema (target.Resource key) = false
is_page schema (target.Related key rel) = is_many schema key.kind rel
is_page schema (target.Linkage key rel) = false
is_page schema target.Operations = false

-- the type of the primary data
abbrev pub primary_kind : Schema → Target → ℕ
primary_kind schema (target.Collection kind) = kind
primary_kind schema (target.Resource key) = key.kind
primary_kind schema (target.Related key rel) = target_of schema key.kind rel
primary_kind schema (target.Linkage key rel) = target_of schema key.kind rel
primary_kind schema target.Operations = 0

-- whether a target knows a parameter: `include` and `fields` where there are resources, the others where there is a page
abbrev pub knows : Schema → Target → Parameter → Bool
knows schema t parameter.Include = has_resources t
knows schema t parameter.Fields = has_resources t
knows schema t parameter.Sort = is_page schema t
knows schema t parameter.PageSize = is_page schema t
knows schema t parameter.PageAfter = is_page schema t
knows schema t parameter.PageBefore = is_page schema t

-- the parameter of a name, where the target knows it
abbrev pub known_parameter : Schema → Target → List ℕ → Option Parameter
known_parameter schema t name = option.◌>>=◌ (parameter_of name) (λ p. some_if (knows schema t p) p)

-- ---- values

-- the texts between the commas; no text has none
abbrev pub listed : List ℕ → List (List ℕ)
listed value = if length value == 0 then [] else parts_at comma value

-- relationships, each of the type that the one before leads to
abbrev pub rels_from : Schema → ℕ → List (List ℕ) → Option (List ℕ)
rels_from schema kind [] = Some []
rels_from schema kind (name ∷ names) = option.◌>>=◌ (relationship_of schema kind name)
    (λ rel. option_map (λ rels. rel ∷ rels) (rels_from schema (target_of schema kind rel) names))

-- a path of at most `PATH_LENGTH_LIMIT` names
abbrev pub include_path : Schema → ℕ → List ℕ → Option Path
include_path schema kind text =
    let names = parts_at dot text in
    option_map (λ rels. record { rels = rels }) (if nat_le (length names) PATH_LENGTH_LIMIT then rels_from schema kind names else None)

-- at most `PATH_LIMIT` paths (JSON:API 1.1, "Inclusion of Related Resources")
abbrev pub paths_of : Schema → ℕ → List ℕ → Option (List Path)
paths_of schema kind value = if nat_le (length (listed value)) PATH_LIMIT then all_some (map (include_path schema kind) (listed value)) else None

-- fields of one type (JSON:API 1.1, "Sparse Fieldsets")
abbrev pub field_set_of : Schema → List ℕ → List ℕ → Option (ℕ × List (List ℕ))
field_set_of schema name value = option.◌>>=◌ (number_of_kind schema name) (λ kind. some_if (list_all (is_field schema kind) (listed value)) (kind, listed value))

-- fields of the type in the brackets of `fields[..]`
abbrev pub field_set_named : Schema → List ℕ → List ℕ → Option (ℕ × List (List ℕ))
field_set_named schema name value = option.◌>>=◌ (in_brackets (codes "fields") name) (λ type. field_set_of schema type value)

-- an attribute, and before it `-` for descending order
abbrev pub sort_key_of : Schema → ℕ → List ℕ → Option SortKey
sort_key_of schema kind text =
    let descending = begins (codes "-") text in
    option_map (λ n. record { attribute = n; descending = descending }) (attribute_of schema kind (if descending then drop 1 text else text))

-- no number stands twice
abbrev pub are_distinct : List ℕ → Bool
are_distinct [] = true
are_distinct (n ∷ ns) = not (list_any (nat_eq n) ns) && are_distinct ns

-- at most `SORT_LIMIT` attributes, none twice (JSON:API 1.1, "Sorting")
abbrev pub sort_keys_of : Schema → ℕ → List ℕ → Option (List SortKey)
sort_keys_of schema kind value = option.◌>>=◌ (all_some (map (sort_key_of schema kind) (parts_at comma value)))
    (λ keys. some_if (nat_le (length keys) SORT_LIMIT && are_distinct (map (λ k. k.attribute) keys)) keys)

-- the most digits of a page size
abbrev pub size_digits : ℕ
size_digits = 9

-- 1 to 9 digits, from 1 to `PAGE_SIZE_LIMIT` (Cursor Pagination profile, "page[size]"; the limits are of this project)
abbrev pub page_size_of : List ℕ → Option ℕ
page_size_of value =
    let n = digits_value 10 value in
    some_if (nat_lt 0 (length value) && nat_le (length value) size_digits && list_all is_ascii_digit value && nat_le 1 n && nat_le n PAGE_SIZE_LIMIT) n

-- ---- reading from left to right

-- what is asked, with another query
abbrev pub with_query : Asked → Query → Asked
with_query asked q = record asked { query = q }

-- the value, or a refusal that names the parameter
abbrev pub or_bad : {A : Type 0} → Code → List ℕ → Option A → Result A Refusal
or_bad bad name x = ok_or x (at_parameter bad name)

-- what is asked with one more parameter
abbrev pub with_parameter : Schema → ℕ → Asked → List ℕ → List ℕ → Parameter → Result Asked Refusal
with_parameter schema kind asked name value parameter.Include =
    result_map (λ paths. with_query asked (record asked.query { include = Some paths })) (or_bad code.BadInclude name (paths_of schema kind value))
with_parameter schema kind asked name value parameter.Fields =
    result_map (λ fs. with_query asked (record asked.query { fields = asked.query.fields ++ fs ∷ [] })) (or_bad code.BadFields name (field_set_named schema name value))
with_parameter schema kind asked name value parameter.Sort =
    result_map (λ keys. with_query asked (record asked.query { sort = keys })) (or_bad code.BadSort name (sort_keys_of schema kind value))
with_parameter schema kind asked name value parameter.PageSize =
    result_map (λ n. with_query asked (record asked.query { page = record first_page { size = n } })) (or_bad code.BadPageSize name (page_size_of value))
with_parameter schema kind asked name value parameter.PageAfter = Ok (record asked { after = Some value })
with_parameter schema kind asked name value parameter.PageBefore = Ok (record asked { before = Some value })

-- a pair has this name
abbrev pub has_name : List ℕ → List (List ℕ × List ℕ) → Bool
has_name name pairs = list_any (λ p. bytes_eq p.0 name) pairs

-- unknown at this target, then repeated, then the value
abbrev pub with_pair : Schema → Target → Asked → List ℕ × List ℕ → Result Asked Refusal
with_pair schema t asked (name, value) = do
  known ← or_bad code.UnknownParameter name (known_parameter schema t name)
  err_if (has_name name asked.query.pairs) (at_parameter code.RepeatedParameter name)
  more ← with_parameter schema (primary_kind schema t) asked name value known
  Ok (with_query more (record more.query { pairs = asked.query.pairs ++ (name, value) ∷ [] }))

-- what is asked with these pairs, or the first refusal from left to right
abbrev pub with_pairs : Schema → Target → Asked → List (List ℕ × List ℕ) → Result Asked Refusal
with_pairs schema t asked [] = Ok asked
with_pairs schema t asked (pair ∷ pairs) = do
  more ← with_pair schema t asked pair
  with_pairs schema t more pairs

-- the form of each sort key, and whether it may be null
abbrev pub sort_forms : Schema → ℕ → List SortKey → List (Form × Bool)
sort_forms schema kind keys = filter_map (λ k. option_map (λ a. (a.form, a.nullable)) (slice_get (attributes_of schema kind) k.attribute)) keys

-- the place of a cursor, where one is given
abbrev pub place_at : List (Form × Bool) → List ℕ → Option (List ℕ) → Result (Option Place) Refusal
place_at forms name None = Ok None
place_at forms name (Some text) = result_map Some (or_bad code.BadCursor name (place_of_cursor forms text))

-- the query of a GET or HEAD, or the first refusal from left to right and then of the cursors
abbrev pub query_of : Schema → Target → List ℕ → Result Query Refusal
query_of schema t text = do
  asked ← with_pairs schema t (record { query = no_query; after = None; before = None }) (pairs_of text)
  let forms = sort_forms schema (primary_kind schema t) asked.query.sort
  after ← place_at forms (codes "page[after]") asked.after
  before ← place_at forms (codes "page[before]") asked.before
  Ok (record asked.query { page = record asked.query.page { after = after; before = before } })

-- the methods but GET and HEAD know no parameter
abbrev pub no_parameter : List (List ℕ × List ℕ) → Option Refusal
no_parameter [] = None
no_parameter (pair ∷ pairs) = Some (at_parameter code.UnknownParameter pair.0)
